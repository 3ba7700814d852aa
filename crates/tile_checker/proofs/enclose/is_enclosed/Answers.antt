use Rattle.std.proofs.Common.{ℕ, refl}
use Rattle.shape_bins.specs.Layers.{IsCoveredBy}
use Rattle.tile_checker.proofs.PlaceLaws.{item_found, item_passed}
use Rattle.tile_checker.proofs.enclose.is_enclosed.Goals as goal

pub returns-then-box_covered : goal.returns-then-box_covered
returns-then-box_covered c = (
  λ yes. item_found (λ (layer : ℕ). IsCoveredBy layer c.args.bins.now c.args.area) c.args.layers.now c.loop-layer.layer-index 0 c.loop-layer-test.true (c.if-box_covered.ensures.0 refl),
  λ h. refl,
)

pub loop-layer-preserved : goal.loop-layer-preserved
loop-layer-preserved c =
    item_passed (λ (layer : ℕ). IsCoveredBy layer c.args.bins.now c.args.area) c.args.layers.now c.loop-layer.layer-index 0 c.loop-layer-test.true
    (λ h. let yes = c.if-box_covered.ensures.1 h in absurd cc) c.loop-layer.invariant
