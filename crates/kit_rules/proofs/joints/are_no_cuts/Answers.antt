use Rattle.std.proofs.Common.{ℕ, Contains, refl}
use Rattle.or_geom.proofs.ListLaws.{contained_at}
use Rattle.leaf_shapes.proofs.PlaceLaws.{each_more, each_contained}
use Rattle.kit_rules.proofs.joints.are_no_cuts.Goals as goal

pub returns-then-is_cut : goal.returns-then-is_cut
returns-then-is_cut c = (
  (λ no. absurd cc),
  (λ all. absurd (all c.layer_at.result (contained_at c.args.layers.now c.loop-place.place c.layer_at.result c.layer_at.ensures) (c.if-is_cut.ensures.0 refl))),
)

pub loop-place-preserved : goal.loop-place-preserved
loop-place-preserved c =
    each_more (λ (layer : ℕ). Contains c.args.wire.now.cuts layer → ⊥) c.args.layers.now c.loop-place.place c.layer_at.result c.layer_at.ensures (λ h. let yes = c.if-is_cut.ensures.1 h in absurd cc) c.loop-place.invariant

pub returns : goal.returns
returns c = (
  (λ _. each_contained (λ (layer : ℕ). Contains c.args.wire.now.cuts layer → ⊥) c.args.layers.now c.loop-place.place c.loop-place-test.false c.loop-place.invariant),
  (λ _. refl),
)
