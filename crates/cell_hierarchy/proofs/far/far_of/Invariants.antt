use Rattle.cell_hierarchy.specs.Below.{SomeBelow}
use Rattle.cell_hierarchy.specs.Far.{IsFirstOf, IsFarPointAt}
use Rattle.cell_hierarchy.proofs.far.far_of.Given as goal

abbrev pub invariant-loop-p : goal.invariant-loop-p
invariant-loop-p l = IsFirstOf (SomeBelow (IsFarPointAt l.points) l.p-index) l.first
