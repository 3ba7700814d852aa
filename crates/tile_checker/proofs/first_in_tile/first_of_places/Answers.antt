use Rattle.std.proofs.lemmas.Option.{slice_get-get_or}
use Rattle.tile_checker.specs.Earliest.{IsFromIndex}
use Rattle.tile_checker.proofs.EarliestLaws.{below_begins, below_goes_on}
use Rattle.tile_checker.proofs.FirstFoundLaws.{index_first, rule_first}
use Rattle.tile_checker.proofs.OwnerLaws.{inside_read, place_read}
use Rattle.tile_checker.proofs.PlaceLaws.{item_in}
use Rattle.tile_checker.proofs.first_in_tile.first_of_places.Goals as goal

pub loop-place-init : goal.loop-place-init
loop-place-init c = record { first = below_begins c.args.kept (IsFromIndex c.args.number c.args.rule.now c.args.bins.now c.args.tile c.args.places.now); seen = c.requires.seen }

pub shape_at-requires : goal.shape_at-requires
shape_at-requires c = inside_read c.args.bins.now c.shapes-shapes.result.now _ c.shapes-shapes.ensures (c.requires.places.inside _ (item_in c.args.places.now c.loop-place.place-index 0 c.loop-place-test.true))

pub first_of_shape-requires-clause-at : goal.first_of_shape-requires-clause-at
first_of_shape-requires-clause-at c = place_read c.args.bins.now c.shapes-shapes.result.now _ _ c.shapes-shapes.ensures c.shape_at.ensures

pub loop-place-preserved : goal.loop-place-preserved
loop-place-preserved c = record {
  first = below_goes_on _ _ _ (IsFromIndex c.args.number c.args.rule.now c.args.bins.now c.args.tile c.args.places.now) c.loop-place.place-index c.loop-place.invariant.first
      (index_first c.args.number c.args.rule.now c.args.bins.now c.args.tile c.args.places.now c.loop-place.place-index _ c.loop-place.least _ (slice_get-get_or c.args.places.now c.loop-place.place-index 0 c.loop-place-test.true)
      (place_read c.args.bins.now c.shapes-shapes.result.now _ _ c.shapes-shapes.ensures c.shape_at.ensures) c.in_ok-least.ensures.first);
  seen = c.first_of_shape.ensures.seen;
}

pub returns-clause-first : goal.returns-clause-first
returns-clause-first c =
    rule_first c.args.number c.args.rule.now c.args.bins.now c.args.tile c.args.places.now c.loop-place.place-index c.args.kept c.loop-place.least c.requires.places c.loop-place-test.false c.loop-place.invariant.first
