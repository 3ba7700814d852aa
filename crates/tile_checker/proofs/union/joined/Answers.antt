use Rattle.std.proofs.Common.{arith}
use Rattle.std.proofs.lemmas.List.{drop_all}
use Rattle.or_geom.proofs.ListLaws.{rest_at}
use Rattle.or_geom.proofs.GatheringLaws.{gather_goes_on, gather_ends}
use Rattle.tile_checker.proofs.ShareLaws.{there_more}
use Rattle.tile_checker.proofs.PlaceLaws.{adds_all}
use Rattle.tile_checker.proofs.union.joined.Goals as goal

pub loop-list-preserved : goal.loop-list-preserved
loop-list-preserved c = record {
  gathered = gather_goes_on _ _ _ _ c.list-item.result _ _ _ (rest_at c.args.lists.now c.loop-list.list-index c.list-item.result c.loop-list-test.true c.list-item.is) c.loop-list.invariant.gathered c.in_ok-add_list.ensures.adds;
  there = there_more c.args.lists.now c.loop-list.list-index c.list-item.result c.loop-list-test.true c.list-item.is c.in_ok-add_list.ensures.there c.loop-list.invariant.there;
}

pub returns-clause-holds : goal.returns-clause-holds
returns-clause-holds c = adds_all _ _ (gather_ends _ _ _ _ _ (drop_all c.loop-list.list-index c.args.lists.now c.loop-list-test.false) c.loop-list.invariant.gathered)

pub returns-clause-there : goal.returns-clause-there
returns-clause-there c = λ list h. let lt = h.1 in c.loop-list.invariant.there h.0 list (omega (arith, lt, c.loop-list-test.false)) h.2
