-- When a shape of a leaf cell touches a shape outside of its instance.
use Rattle.std.specs.Prelude.{◌≡◌, ◌⊎◌, ℕ, List, ◌++◌, Contains, map}
use Rattle.or_geom.specs.declared.shape.Shape.{Shape}
use Rattle.gds_library.specs.declared.library.Structure.{Structure}
use Rattle.tech_rules.specs.declared.tech.Tech.{Tech}
use Rattle.tech_rules.specs.Touch.{Touch}
use Rattle.leaf_nets.specs.declared.leaves.LooseLeaf.{LooseLeaf}
use Rattle.leaf_contacts.specs.Chains.{Reference, StandsAtEnd, IsInstance, IsMovedAlong}

-- the names of the leaf cells
abbrev pub leaf_cell_names : List LooseLeaf → List (List ℕ)
leaf_cell_names leaves = map (λ (leaf : LooseLeaf). leaf.cell) leaves

-- one of the loose shapes of a leaf cell, as it lies at an instance of the cell
pub record IsLooseAt (structs : List Structure) (top : List ℕ) (leaves : List LooseLeaf) (chain : List Reference) (shape : Shape) : Type 0 where
  pub leaf : LooseLeaf
  pub listed : Contains leaves leaf
  pub instance : IsInstance (leaf_cell_names leaves) structs top chain leaf.cell
  pub inner : Shape
  pub loose : Contains leaf.shapes inner
  pub moved : IsMovedAlong chain inner shape

-- the shape stands at the end of a chain that doesn't go on from this one
pub record StandsOutside (tech : Tech) (structs : List Structure) (top : List ℕ) (chain : List Reference) (shape : Shape) : Type 0 where
  pub other : List Reference
  pub stands : StandsAtEnd tech.layers structs top other shape
  pub outside : (rest : List Reference) → other ≡ chain ++ rest → ⊥

-- A loose shape of a leaf cell touches, or is, a shape outside of its instance.
pub record HasLooseContact (tech : Tech) (structs : List Structure) (top : List ℕ) (leaves : List LooseLeaf) : Type 0 where
  pub chain : List Reference
  pub shape : Shape
  pub loose : IsLooseAt structs top leaves chain shape
  pub other : Shape
  pub outside : StandsOutside tech structs top chain other
  pub touch : Touch tech.connects shape other ⊎ (shape ≡ other)
