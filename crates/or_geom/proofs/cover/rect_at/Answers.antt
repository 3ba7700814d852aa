use Rattle.std.proofs.Common.{refl}
use Rattle.or_geom.proofs.CoverLaws.{own_covered}
use Rattle.or_geom.proofs.cover.rect_at.Goals as goal

pub returns-then-holds : goal.returns-then-holds
returns-then-holds c = record {
  holds = c.if-holds.ensures.0 refl;
  covered = own_covered c.args.rects.now c.loop-rect.rect-index _ c.loop-rect-test.true c.rect-item.is;
}
