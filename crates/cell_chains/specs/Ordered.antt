-- Elements and the columns and rows of arrays, in the order of names.
use Rattle.std.specs.Prelude.{ℕ, ◌<◌, ◌↔◌, List, Contains, length}
use Rattle.gds_library.specs.declared.library.Element.{Element}
use Rattle.cell_chains.specs.declared.name_order.NamedElement.{NamedElement}

-- where the element stands
abbrev pub element_index : NamedElement → ℕ
element_index element = element.index

-- each is the index of an element
abbrev pub AreIndices : List Element → List ℕ → Type 0
AreIndices elements indices = (index : ℕ) → Contains indices index → index < length elements

-- all numbers below this one, and no others
abbrev pub AreAllBelow : ℕ → List ℕ → Type 0
AreAllBelow count numbers = (n : ℕ) → Contains numbers n ↔ n < count
