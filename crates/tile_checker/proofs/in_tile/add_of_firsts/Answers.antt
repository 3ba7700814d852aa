use Rattle.std.proofs.lemmas.List.{drop_all}
use Rattle.or_geom.proofs.GatheringLaws.{gather_goes_on, gather_ends}
use Rattle.or_geom.proofs.ListLaws.{rest_item}
use Rattle.tile_checker.proofs.PlaceLaws.{item_in}
use Rattle.tile_checker.proofs.OwnerLaws.{from_place, inside_read, place_read}
use Rattle.tile_checker.proofs.in_tile.add_of_firsts.Goals as goal

pub shape_at-requires : goal.shape_at-requires
shape_at-requires c = inside_read c.args.bins.now c.shapes-shapes.result.now _ c.shapes-shapes.ensures (c.requires.firsts _ (item_in c.args.firsts.now c.loop-place.place-index 0 c.loop-place-test.true))

pub add_violations-requires-clause-at : goal.add_violations-requires-clause-at
add_violations-requires-clause-at c = place_read c.args.bins.now c.shapes-shapes.result.now _ _ c.shapes-shapes.ensures c.shape_at.ensures

pub loop-place-preserved : goal.loop-place-preserved
loop-place-preserved c = record {
  adds = gather_goes_on _ _ _ _ _ _ _ _ (rest_item c.args.firsts.now c.loop-place.place-index 0 c.loop-place-test.true) c.loop-place.invariant.adds
      (from_place c.args.number c.args.rule.now c.args.bins.now c.args.tile _ _ _ (place_read c.args.bins.now c.shapes-shapes.result.now _ _ c.shapes-shapes.ensures c.shape_at.ensures) c.in_ok-add_violations.ensures.adds);
  seen = c.add_violations.ensures.seen;
}

pub returns-clause-adds : goal.returns-clause-adds
returns-clause-adds c = gather_ends _ _ _ _ _ (drop_all c.loop-place.place-index c.args.firsts.now c.loop-place-test.false) c.loop-place.invariant.adds
