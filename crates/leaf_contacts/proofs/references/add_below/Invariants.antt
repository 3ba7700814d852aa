use Rattle.std.proofs.Common.{ℕ, List}
use Rattle.leaf_contacts.specs.Chains.{Reference}
use Rattle.leaf_contacts.specs.Stands.{AddsBelow, IsCellNamed, IsLiveBefore, IsStandOf}
use Rattle.leaf_contacts.proofs.references.add_below.Given as goal

abbrev pub invariant-loop-index : goal.invariant-loop-index
invariant-loop-index l = (chain : List Reference) (name : List ℕ) → IsStandOf l.tree chain l.outer → IsCellNamed l.tree l.outer.cell name → AddsBelow l.tree chain (IsLiveBefore l.tree name l.index) l.fn.out.items l.out.items
