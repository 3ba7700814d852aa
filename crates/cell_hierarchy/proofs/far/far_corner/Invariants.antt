use Rattle.cell_hierarchy.specs.Below.{SomeBelow}
use Rattle.cell_hierarchy.specs.Far.{IsFirstOf, IsFarCornerAt}
use Rattle.cell_hierarchy.proofs.far.far_corner.Given as goal

abbrev pub invariant-loop-shape : goal.invariant-loop-shape
invariant-loop-shape l = IsFirstOf (SomeBelow (IsFarCornerAt l.shapes) l.shape-index) l.first
