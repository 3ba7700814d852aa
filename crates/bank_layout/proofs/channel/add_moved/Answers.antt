-- A shape more.
use Rattle.std.proofs.Common.{w64}
use Rattle.std.proofs.lemmas.Int.{to_z-of_z}
use Rattle.std.proofs.lemmas.List.{drop_all}
use Rattle.or_geom.proofs.ListLaws.{rest_at}
use Rattle.or_geom.proofs.GatheringLaws.{gather_goes_on, gather_ends}
use Rattle.bank_layout.proofs.DrawLaws.{moved_adds}
use Rattle.bank_layout.proofs.channel.add_moved.Goals as goal

pub loop-shape-preserved : goal.loop-shape-preserved
loop-shape-preserved c =
    gather_goes_on _ c.args.channel.now _ _ c.shape-item.result _ _ _ (rest_at c.args.channel.now c.loop-shape.shape-index c.shape-item.result c.loop-shape-test.true c.shape-item.is) c.loop-shape.invariant
    (moved_adds _ c.shape-item.result c.moved.result _ _ c.in_ok-push.ensures.items c.moved.ensures)

pub returns : goal.returns
returns c = rw (to_z-of_z w64 c.args.by c.ranges.by) at (gather_ends _ _ _ _ _ (drop_all c.loop-shape.shape-index c.args.channel.now c.loop-shape-test.false) c.loop-shape.invariant)
