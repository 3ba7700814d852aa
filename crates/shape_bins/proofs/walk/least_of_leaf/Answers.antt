use Rattle.std.proofs.Common.{arith}
use Rattle.shape_bins.specs.Hits.{IsHitFrom}
use Rattle.shape_bins.proofs.LeastLaws.{least_place, least_skip}
use Rattle.shape_bins.proofs.WalkLaws.{placed_hit, placed_no_hit}
use Rattle.shape_bins.proofs.walk.least_of_leaf.Goals as goal
use Rattle.shape_bins.proofs.walk.least_of_leaf.Goals.{then-fits, else-fits}

pub loop-at-preserved : goal.loop-at-preserved
loop-at-preserved c = record {
  within = omega (arith, c.loop-at-test.true);
  least = elim c.if-fits.branch [
    | then-fits w ↦ rw w.found-is (least_place (IsHitFrom c.args.forest.shapes.now c.args.leaf.hull.layer c.args.query c.args.from) c.args.forest.places.now c.args.leaf.first c.loop-at.at c.placed_at-placed.result.place c.args.before c.loop-at.found _
        c.loop-at.auto.at c.placed_at-placed.ensures.listed
        (record {
          from_there = c.if-placed-from.false;
          hit = placed_hit c.args.forest.shapes.now c.args.forest.places.now c.args.leaf.hull.layer c.loop-at.at c.args.query c.placed_at-placed.result c.placed_at-placed.ensures (c.fits.ensures.0 w.if-fits.true);
        })
        w.lesser.ensures c.loop-at.invariant.least)
    | else-fits w ↦ rw w.found-is (least_skip (IsHitFrom c.args.forest.shapes.now c.args.leaf.hull.layer c.args.query c.args.from) c.args.forest.places.now c.args.leaf.first c.loop-at.at c.placed_at-placed.result.place c.args.before c.loop-at.found
        c.loop-at.auto.at c.placed_at-placed.ensures.listed
        (λ h. placed_no_hit c.args.forest.shapes.now c.args.forest.places.now c.args.leaf.hull.layer c.loop-at.at c.args.query c.placed_at-placed.result c.placed_at-placed.ensures
        (λ fits. let yes = c.fits.ensures.1 fits in let no = w.if-fits.false in absurd cc) h.hit) c.loop-at.invariant.least)
  ];
}
