use Rattle.std.proofs.Common.{get_or, arith}
use Rattle.std.proofs.lemmas.Option.{slice_get-get_or}
use Rattle.or_geom.proofs.ContainingLaws.{around_first, around_second}
use Rattle.shape_bins.proofs.TreeLaws.{held_begins, held_goes_on, least_begins, lower_goes_on, leaf_made}
use Rattle.shape_bins.proofs.tree.leaf_over.Goals as goal

pub loop-at-init : goal.loop-at-init
loop-at-init c = record {
  within = omega (arith, c.requires.some);
  held = held_begins c.args.shapes.now c.args.places.now c.args.layer c.args.first c.listed_at.result c.listed_at.ensures.there c.listed_at.ensures.on;
  least = least_begins c.args.places.now c.args.first (get_or c.args.places.now c.args.first 0) (slice_get-get_or c.args.places.now c.args.first 0 (omega (arith, c.requires.some, c.requires.within)));
}

pub listed_at-requires-in-loop-at-clause-on : goal.listed_at-requires-in-loop-at-clause-on
listed_at-requires-in-loop-at-clause-on c = λ place is. c.requires.on c.loop-at.at place (let above = c.loop-at.auto.at in omega (arith, above)) c.loop-at-test.true is

pub loop-at-preserved : goal.loop-at-preserved
loop-at-preserved c = record {
  within = omega (arith, c.loop-at-test.true);
  held = held_goes_on c.args.shapes.now c.args.places.now c.args.layer c.args.first c.loop-at.at c.loop-at.rect c.around-rect.result c.listed_at-in-loop-at.result c.listed_at-in-loop-at.ensures.there c.listed_at-in-loop-at.ensures.on
      (around_first _ _ _ c.around-rect.ensures) (around_second _ _ _ c.around-rect.ensures) c.loop-at.invariant.held;
  least = lower_goes_on c.args.places.now c.args.first c.loop-at.at c.loop-at.least c.min-least.result (get_or c.args.places.now c.loop-at.at 0) (slice_get-get_or c.args.places.now c.loop-at.at 0 (omega (arith, c.loop-at-test.true, c.requires.within)))
      (omega arith) (omega arith) c.loop-at.invariant.least;
}

pub returns : goal.returns
returns c = leaf_made c.args.shapes.now c.args.places.now c.args.layer c.args.first c.args.end c.loop-at.at c.loop-at.least c.loop-at.rect c.requires.some c.requires.within c.loop-at-test.false c.loop-at.invariant.held c.loop-at.invariant.least
