-- Chains of references from a structure down, an array counting as each of its items.
use Rattle.std.specs.Prelude.{◌≡◌, ◌⊎◌, ℕ, suc, ◌≤◌, ◌^◌, ◌-◌, min, List, [], ◌∷◌, length, cond}
use Rattle.std.specs.Str.{bytes_eq}
use Rattle.gds_library.specs.declared.library.Element.{Element}
use Rattle.gds_library.specs.declared.library.Structure.{Structure}
use Rattle.cell_chains.specs.Instances.{Item, HasItem}

-- the elements of the first structure of the name; none where there is no such structure
abbrev pub elements_of : List Structure → List ℕ → List Element
elements_of [] name = []
elements_of (s ∷ ss) name = cond (bytes_eq s.name name) s.elements (elements_of ss name)

-- a structure has the name
abbrev pub IsThere : List Structure → List ℕ → Type 0
IsThere [] name = ⊥
IsThere (s ∷ ss) name = (s.name ≡ name) ⊎ IsThere ss name

-- one of the elements, of which the first has place n, stands for the item
abbrev pub IsItemFrom : ℕ → List Element → Item → Type 0
IsItemFrom n [] item = ⊥
IsItemFrom n (e ∷ es) item = HasItem n e item ⊎ IsItemFrom (suc n) es item

-- an item of the structure of this name
abbrev pub IsItemOf : List Structure → List ℕ → Item → Type 0
IsItemOf structs name item = IsItemFrom 0 (elements_of structs name) item

-- each item is one of the structure before it, and the last leads to the end
abbrev pub IsChain : List Structure → List ℕ → List Item → List ℕ → Type 0
IsChain structs from [] to = to ≡ from
IsChain structs from (item ∷ items) to = IsItemOf structs from item × IsChain structs item.cell items to

-- a chain leads from one to the other; the empty chain leads each to itself
pub record Reaches (structs : List Structure) (from to : List ℕ) : Type 0 where
  pub chain : List Item
  pub leads : IsChain structs from chain to

-- a chain that isn't empty leads back
pub record ReachesItself (structs : List Structure) (name : List ℕ) : Type 0 where
  pub item : Item
  pub rest : List Item
  pub leads : IsChain structs name (item ∷ rest) name

-- the top reaches the name, and no structure has it
pub record IsMissing (structs : List Structure) (top name : List ℕ) : Type 0 where
  pub reached : Reaches structs top name
  pub missing : IsThere structs name → ⊥

-- the top reaches the name, and it reaches itself
pub record IsCyclic (structs : List Structure) (top name : List ℕ) : Type 0 where
  pub reached : Reaches structs top name
  pub itself : ReachesItself structs name

-- the longest chain from the top has this many references, where more than 2^32 - 1 count as that many
pub record IsDepth (structs : List Structure) (top : List ℕ) (depth : ℕ) : Type 0 where
  pub chain : List Item
  pub end : List ℕ
  pub leads : IsChain structs top chain end
  pub long : min (length chain) (2 ^ 32 - 1) ≡ depth
  pub most : (other : List Item) (to : List ℕ) → IsChain structs top other to → min (length other) (2 ^ 32 - 1) ≤ depth

-- all that the top reaches is there, nothing that it reaches reaches itself, and no chain has more than 32 references
pub record IsSound (structs : List Structure) (top : List ℕ) : Type 0 where
  pub there : (name : List ℕ) → IsMissing structs top name → ⊥
  pub acyclic : (name : List ℕ) → IsCyclic structs top name → ⊥
  pub short : (chain : List Item) (to : List ℕ) → IsChain structs top chain to → length chain ≤ 32
