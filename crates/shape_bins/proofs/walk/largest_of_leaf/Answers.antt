use Rattle.std.proofs.Common.{inl, inr, Option, sym, subst, arith}
use Rattle.std.specs.Prelude.{IfSome}
use Rattle.shape_bins.specs.declared.forest.IndexedShape.{IndexedShape}
use Rattle.shape_bins.specs.Hits.{IsHitOf}
use Rattle.shape_bins.proofs.WalkLaws.{placed_hit}
use Rattle.shape_bins.proofs.walk.largest_of_leaf.Goals as goal

pub loop-at-preserved : goal.loop-at-preserved
loop-at-preserved c = record {
  within = omega (arith, c.loop-at-test.true);
  hit = λ h. elim c.larger.ensures [
    | inl here ↦ subst (λ (p : IndexedShape). IsHitOf c.args.forest.shapes.now c.args.leaf.hull.layer c.args.query p) (sym here)
        (placed_hit c.args.forest.shapes.now c.args.forest.places.now c.args.leaf.hull.layer c.loop-at.at c.args.query c.placed_at-placed.result c.placed_at-placed.ensures (c.fits.ensures.0 c.if-not-fits.false))
    | inr before ↦ subst (λ (o : Option IndexedShape). IfSome o (IsHitOf c.args.forest.shapes.now c.args.leaf.hull.layer c.args.query)) before (c.loop-at.invariant.hit h)
  ];
}
