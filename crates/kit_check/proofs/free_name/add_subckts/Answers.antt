use Rattle.std.proofs.lemmas.List.{drop_all}
use Rattle.or_geom.proofs.ListLaws.{rest_at}
use Rattle.or_geom.proofs.GatheringLaws.{gather_goes_on, gather_ends}
use Rattle.kit_check.proofs.free_name.add_subckts.Goals as goal

pub loop-subckt-preserved : goal.loop-subckt-preserved
loop-subckt-preserved c =
    gather_goes_on _ c.args.subckts.now _ _ c.subckt-item.result _ _ _ (rest_at c.args.subckts.now c.loop-subckt.subckt-index c.subckt-item.result c.loop-subckt-test.true c.subckt-item.is) c.loop-subckt.invariant c.in_ok-add_number.ensures

pub returns : goal.returns
returns c = gather_ends _ _ _ _ _ (drop_all c.loop-subckt.subckt-index c.args.subckts.now c.loop-subckt-test.false) c.loop-subckt.invariant
