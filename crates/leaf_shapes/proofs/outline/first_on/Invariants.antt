use Rattle.std.proofs.Common.{◌≡◌}
use Rattle.or_geom.specs.declared.shape.Shape.{Shape}
use Rattle.leaf_shapes.proofs.PlaceLaws.{EachBefore}
use Rattle.leaf_shapes.proofs.outline.first_on.Given as goal

abbrev pub invariant-loop-shape : goal.invariant-loop-shape
invariant-loop-shape l = EachBefore (λ (s : Shape). s.layer ≡ l.layer → ⊥) l.shapes l.shape-index
