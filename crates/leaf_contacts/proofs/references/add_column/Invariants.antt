use Rattle.std.proofs.Common.{ℕ, List}
use Rattle.cell_hierarchy.specs.Below.{SomeBelow}
use Rattle.leaf_contacts.specs.Chains.{Reference}
use Rattle.leaf_contacts.specs.Stands.{AddsBelow, IsCellNamed, IsGridItem, IsStandOf}
use Rattle.leaf_contacts.proofs.references.add_column.Given as goal

abbrev pub invariant-loop-row : goal.invariant-loop-row
invariant-loop-row l = (chain : List Reference) (to : List ℕ) → IsStandOf l.tree chain l.outer → IsCellNamed l.tree l.grid.target to → AddsBelow l.tree chain (SomeBelow (IsGridItem l.grid to l.column) l.row) l.fn.out.items l.out.items
