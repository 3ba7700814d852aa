use Rattle.std.proofs.Common.{ℕ, Contains}
use Rattle.leaf_shapes.proofs.PlaceLaws.{EachBefore}
use Rattle.kit_rules.proofs.joints.are_no_cuts.Given as goal

abbrev pub invariant-loop-place : goal.invariant-loop-place
invariant-loop-place l = EachBefore (λ (layer : ℕ). Contains l.wire.cuts layer → ⊥) l.layers l.place
