use Rattle.std.proofs.Common.{ℕ, List}
use Rattle.cell_hierarchy.specs.Below.{SomeBelow}
use Rattle.leaf_contacts.specs.Chains.{Reference}
use Rattle.leaf_contacts.specs.Stands.{AddsBelow, IsCellNamed, IsGridItem, IsStandOf}
use Rattle.leaf_contacts.proofs.references.add_array.Given as goal

abbrev pub invariant-loop-column : goal.invariant-loop-column
invariant-loop-column l = (chain : List Reference) (to : List ℕ) → IsStandOf l.tree chain l.outer → IsCellNamed l.tree l.grid.target to
    → AddsBelow l.tree chain (SomeBelow (λ column. SomeBelow (IsGridItem l.grid to column) l.grid.rows) l.column) l.fn.out.items l.out.items
