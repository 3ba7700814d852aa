use Rattle.std.proofs.Common.{sym, subst}
use Rattle.std.specs.Prelude.{List}
use Rattle.or_geom.specs.declared.shape.Rect.{Rect}
use Rattle.box_pieces.specs.Cells.{AreParts}
use Rattle.box_pieces.proofs.PartLaws.{parts_skip, parts_more, area_alone}
use Rattle.box_pieces.proofs.common.within.Goals as goal

pub returns-then-holds : goal.returns-then-holds
returns-then-holds c =
    subst (λ (l : List Rect). AreParts c.args.area c.args.boxes.now l) (sym c.in_ok-vec.ensures.items)
    (area_alone c.args.area c.args.boxes.now c.loop-rect.rect-index c.rect-item.result c.loop-rect-test.true c.rect-item.is (c.holds.ensures.0 c.if-holds.true))

pub loop-rect-preserved-in_default : goal.loop-rect-preserved-in_default
loop-rect-preserved-in_default c = parts_skip c.args.area c.args.boxes.now c.loop-rect.parts.items c.loop-rect.rect-index c.rect-item.result c.loop-rect-test.true c.rect-item.is c.in_default.ensures c.loop-rect.invariant

pub loop-rect-preserved : goal.loop-rect-preserved
loop-rect-preserved c =
    parts_more c.args.area c.args.boxes.now c.loop-rect.parts.items c.push.new.self.items c.loop-rect.rect-index c.rect-item.result c.in-Some.part c.loop-rect-test.true c.rect-item.is c.in-Some.ensures c.in_ok-push.ensures.items c.loop-rect.invariant
