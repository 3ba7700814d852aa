use Rattle.std.proofs.lemmas.List.{drop_all}
use Rattle.or_geom.proofs.ListLaws.{rest_at}
use Rattle.or_geom.proofs.GatheringLaws.{gather_goes_on, gather_ends}
use Rattle.kit_check.proofs.free_name.add_structs.Goals as goal

pub loop-structure-preserved : goal.loop-structure-preserved
loop-structure-preserved c =
    gather_goes_on _ c.args.structs.now _ _ c.structure-item.result _ _ _ (rest_at c.args.structs.now c.loop-structure.structure-index c.structure-item.result c.loop-structure-test.true c.structure-item.is) c.loop-structure.invariant c.in_ok-add_number.ensures

pub returns : goal.returns
returns c = gather_ends _ _ _ _ _ (drop_all c.loop-structure.structure-index c.args.structs.now c.loop-structure-test.false) c.loop-structure.invariant
