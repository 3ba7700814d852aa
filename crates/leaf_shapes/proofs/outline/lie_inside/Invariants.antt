use Rattle.or_geom.specs.declared.shape.Shape.{Shape}
use Rattle.or_geom.specs.Containing.{HoldsRect}
use Rattle.leaf_shapes.specs.Outline.{IsWireLayer}
use Rattle.leaf_shapes.proofs.PlaceLaws.{EachBefore}
use Rattle.leaf_shapes.proofs.outline.lie_inside.Given as goal

abbrev pub invariant-loop-shape : goal.invariant-loop-shape
invariant-loop-shape l = EachBefore (λ (s : Shape). IsWireLayer l.wire s.layer → HoldsRect l.outer s.rect) l.shapes l.shape-index
