-- What stands at the end of a chain, placed by all instances of the chain at once.
use Rattle.std.specs.Prelude.{◌≡◌, ◌↔◌, ℕ, List, [], ◌∷◌}
use Rattle.std.specs.List.{AllByRecursion}
use Rattle.or_geom.specs.declared.shape.Point.{Point}
use Rattle.or_geom.specs.declared.shape.Shape.{Shape}
use Rattle.or_geom.specs.Place.{placed, IsImage}
use Rattle.gds_library.specs.declared.library.Structure.{Structure}
use Rattle.gds_library.specs.Writable.{IsWritableCell}
use Rattle.tech_rules.specs.declared.tech.Layer.{Layer}
use Rattle.cell_chains.specs.Instances.{Item}
use Rattle.cell_chains.specs.Chains.{elements_of, IsChain}
use Rattle.cell_hierarchy.specs.FlatSet.{IsOwnShape, IsShapeBy}
use Rattle.cell_hierarchy.specs.FlatLists.{AreFlatLists}
use Rattle.cell_hierarchy.specs.Plain.{FlatLists, IsAsciiLabel}

-- where a point of the structure at the end of the chain lies in the one at its beginning: the composition of the places
abbrev pub placed_along : List Item → Point → Point
placed_along [] p = p
placed_along (item ∷ items) p = placed item.place (placed_along items p)

-- the shape is the image, by the composition along the chain, of one that the structure at the chain's end draws itself
pub record IsShapeAlong (layers : List Layer) (structs : List Structure) (name : List ℕ) (chain : List Item) (s : Shape) : Type 0 where
  pub end : List ℕ
  pub leads : IsChain structs name chain end
  pub inner : Shape
  pub own : IsOwnShape layers (elements_of structs end) inner
  pub layer : s.layer ≡ inner.layer
  pub image : IsImage (placed_along chain) inner.rect s.rect

-- step by step or at once, a chain has the same shapes
abbrev pub FlatShapesAreImages : Type 0
FlatShapesAreImages = (layers : List Layer) (structs : List Structure) (name : List ℕ) (chain : List Item) (s : Shape) → IsShapeBy layers structs name chain s ↔ IsShapeAlong layers structs name chain s

-- the texts of a library's flat labels are ASCII
abbrev pub FlatTextsAreAscii : Type 0
FlatTextsAreAscii = (layers : List Layer) (structs : List Structure) (top : List ℕ) (lists : FlatLists) → AllByRecursion IsWritableCell structs → AreFlatLists layers structs top lists → AllByRecursion IsAsciiLabel lists.labels
