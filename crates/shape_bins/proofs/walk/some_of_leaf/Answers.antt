use Rattle.std.proofs.Common.{arith}
use Rattle.shape_bins.specs.Hits.{IsHit}
use Rattle.shape_bins.proofs.PlaceLaws.{none_here}
use Rattle.shape_bins.proofs.WalkLaws.{placed_hit, placed_no_hit}
use Rattle.shape_bins.proofs.walk.some_of_leaf.Goals as goal

pub returns-then-fits : goal.returns-then-fits
returns-then-fits c =
    placed_hit c.args.forest.shapes.now c.args.forest.places.now c.args.leaf.hull.layer c.loop-at.at c.args.query c.placed_at-placed.result c.placed_at-placed.ensures (c.fits.ensures.0 c.if-fits.true)

pub loop-at-preserved : goal.loop-at-preserved
loop-at-preserved c = record {
  within = omega (arith, c.loop-at-test.true);
  none = none_here (IsHit c.args.forest.shapes.now c.args.leaf.hull.layer c.args.query) c.args.forest.places.now c.args.leaf.first c.loop-at.at c.placed_at-placed.result.place c.placed_at-placed.ensures.listed
      (placed_no_hit c.args.forest.shapes.now c.args.forest.places.now c.args.leaf.hull.layer c.loop-at.at c.args.query c.placed_at-placed.result c.placed_at-placed.ensures
      (λ fits. let yes = c.fits.ensures.1 fits in let no = c.if-fits.false in absurd cc)) c.loop-at.invariant.none;
}

pub returns : goal.returns
returns c = λ place h. c.loop-at.invariant.none place (let same = c.loop-at-test.false in let w = c.loop-at.invariant.within in (record { at = h.0.at; from = h.0.from; to = (let to = h.0.to in omega (arith, to, same)); there = h.0.there }, h.1))
