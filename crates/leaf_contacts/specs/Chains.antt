-- Chains of references, each told by its place in its structure, and the instances of leaf cells.
use Rattle.std.specs.Prelude.{◌≡◌, ℕ, pos, ◌<ℤ◌, List, [], ◌∷◌, Contains, Some, slice_get}
use Rattle.or_geom.specs.declared.shape.Point.{Point}
use Rattle.or_geom.specs.declared.shape.Shape.{Shape}
use Rattle.or_geom.specs.declared.place.Place.{Place}
use Rattle.or_geom.specs.Place.{placed, IsImage}
use Rattle.gds_library.specs.declared.library.Element.{Element}
use Rattle.gds_library.specs.declared.library.Element.TheVariants.{Boundary, Path, Sref, Aref, Text}
use Rattle.gds_library.specs.declared.library.Structure.{Structure}
use Rattle.tech_rules.specs.declared.tech.Layer.{Layer}
use Rattle.cell_chains.specs.Instances.{item_place}
use Rattle.cell_chains.specs.Chains.{elements_of}
use Rattle.cell_hierarchy.specs.FlatSet.{IsOwnShape}

-- A reference: the index of its element among those of its structure, its column and row where that is an array, the structure to
-- which it refers, and where it places it.
pub record Reference : Type 0 where
  pub element : ℕ
  pub column : ℕ
  pub row : ℕ
  pub cell : List ℕ
  pub place : Place

-- the element is this reference, or the array of which it is an item
abbrev pub Refers : Element → Reference → Type 0
Refers (Boundary layer datatype points props) r = ⊥
Refers (Path layer datatype kind width points props) r = ⊥
Refers (Sref name place props) r = (r.column ≡ 0) × (r.row ≡ 0) × (r.cell ≡ name) × (r.place ≡ place)
Refers (Aref name place columns rows across down props) r =
    (pos r.column <ℤ columns) × (pos r.row <ℤ rows) × (r.cell ≡ name) × (r.place ≡ item_place place r.column r.row across down)
Refers (Text layer texttype at string props) r = ⊥

-- a reference of the structure of this name
pub record IsReferenceOf (structs : List Structure) (name : List ℕ) (r : Reference) : Type 0 where
  pub element : Element
  pub there : slice_get (elements_of structs name) r.element ≡ Some element
  pub refers : Refers element r

-- each reference is one of the structure before it, and the last leads to the end
abbrev pub Leads : List Structure → List ℕ → List Reference → List ℕ → Type 0
Leads structs from [] to = to ≡ from
Leads structs from (r ∷ chain) to = IsReferenceOf structs from r × Leads structs r.cell chain to

-- where a point of the structure at the chain's end lies in the one at its beginning
abbrev pub point_along : List Reference → Point → Point
point_along [] p = p
point_along (r ∷ chain) p = placed r.place (point_along chain p)

-- the shape of the structure at the chain's end is, in the one at its beginning, the other
pub record IsMovedAlong (chain : List Reference) (inner s : Shape) : Type 0 where
  pub layer : s.layer ≡ inner.layer
  pub image : IsImage (point_along chain) inner.rect s.rect

-- the shape stands at the end of the chain that begins at the structure of this name: that structure draws it itself
pub record StandsAtEnd (layers : List Layer) (structs : List Structure) (name : List ℕ) (chain : List Reference) (s : Shape) : Type 0 where
  pub end : List ℕ
  pub leads : Leads structs name chain end
  pub inner : Shape
  pub own : IsOwnShape layers (elements_of structs end) inner
  pub moved : IsMovedAlong chain inner s

-- An instance of a leaf cell: the chain leads to the first structure on it that is one of the cells.
abbrev pub IsInstance : List (List ℕ) → List Structure → List ℕ → List Reference → List ℕ → Type 0
IsInstance cells structs from [] to = (to ≡ from) × Contains cells from
IsInstance cells structs from (r ∷ chain) to = (Contains cells from → ⊥) × IsReferenceOf structs from r × IsInstance cells structs r.cell chain to
