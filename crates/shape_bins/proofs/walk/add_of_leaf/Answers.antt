use Rattle.std.proofs.Common.{arith}
use Rattle.shape_bins.specs.Hits.{IsHit}
use Rattle.shape_bins.proofs.PlaceLaws.{adds_place, skips_place}
use Rattle.shape_bins.proofs.WalkLaws.{placed_hit, placed_no_hit}
use Rattle.shape_bins.proofs.walk.add_of_leaf.Goals as goal
use Rattle.shape_bins.proofs.walk.add_of_leaf.Goals.{then-fits+in_ok-push, else-fits}

pub loop-at-preserved : goal.loop-at-preserved
loop-at-preserved c = record {
  within = omega (arith, c.loop-at-test.true);
  adds = elim c.if-fits.branch [
    | then-fits+in_ok-push w ↦ rw w.out-is (adds_place (IsHit c.args.forest.shapes.now c.args.leaf.hull.layer c.args.query) c.args.forest.places.now c.args.leaf.first c.loop-at.at c.placed_at-placed.result.place c.args.out.now.items c.loop-at.out.items _
        c.loop-at.auto.at c.placed_at-placed.ensures.listed
        (placed_hit c.args.forest.shapes.now c.args.forest.places.now c.args.leaf.hull.layer c.loop-at.at c.args.query c.placed_at-placed.result c.placed_at-placed.ensures (c.fits.ensures.0 w.if-fits.true))
        w.in_ok-push.ensures.items c.loop-at.invariant.adds)
    | else-fits w ↦ rw w.out-is (skips_place (IsHit c.args.forest.shapes.now c.args.leaf.hull.layer c.args.query) c.args.forest.places.now c.args.leaf.first c.loop-at.at c.placed_at-placed.result.place c.args.out.now.items c.loop-at.out.items
        c.loop-at.auto.at c.placed_at-placed.ensures.listed
        (placed_no_hit c.args.forest.shapes.now c.args.forest.places.now c.args.leaf.hull.layer c.loop-at.at c.args.query c.placed_at-placed.result c.placed_at-placed.ensures
        (λ fits. let yes = c.fits.ensures.1 fits in let no = w.if-fits.false in absurd cc)) c.loop-at.invariant.adds)
  ];
}
