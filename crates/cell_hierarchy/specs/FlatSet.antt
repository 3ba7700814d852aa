-- The flat set of shapes and labels of a structure: those at the ends of chains of references, moved along the chain.
use Rattle.std.specs.Prelude.{◌≡◌, ◌⊎◌, ℕ, List, [], ◌∷◌, ◌++◌, Contains}
use Rattle.or_geom.specs.declared.shape.Point.{Point}
use Rattle.or_geom.specs.declared.shape.Shape.{Shape}
use Rattle.or_geom.specs.declared.place.Place.{Place}
use Rattle.or_geom.specs.Place.{placed, IsImage}
use Rattle.gds_records.specs.Values.{IsShort}
use Rattle.gds_library.specs.declared.library.Element.{Element}
use Rattle.gds_library.specs.declared.library.Structure.{Structure}
use Rattle.tech_rules.specs.declared.tech.Layer.{Layer}
use Rattle.element_drawing.specs.PlainLabel.{PlainLabel}
use Rattle.element_drawing.specs.OwnShapes.{AreOwnShapes}
use Rattle.element_drawing.specs.OwnLabels.{own_labels}
use Rattle.cell_chains.specs.Instances.{Item}
use Rattle.cell_chains.specs.Chains.{elements_of, IsItemOf}

-- the elements draw the shape
pub record IsOwnShape (layers : List Layer) (elements : List Element) (s : Shape) : Type 0 where
  pub shapes : List Shape
  pub drawn : AreOwnShapes layers elements shapes
  pub among : Contains shapes s

-- s is the shape `inner` of an instance's structure, turned and moved to the instance's place
pub record IsMoved (place : Place) (inner s : Shape) : Type 0 where
  pub layer : s.layer ≡ inner.layer
  pub image : IsImage (placed place) inner.rect s.rect

-- The shape stands at the end of the chain that begins at the structure of this name: drawn by the structure itself where
-- the chain is empty; otherwise the image, at the first instance's place, of a shape at the end of the rest.
abbrev pub IsShapeBy : List Layer → List Structure → List ℕ → List Item → Shape → Type 0
IsShapeBy layers structs name [] s = IsOwnShape layers (elements_of structs name) s
IsShapeBy layers structs name (item ∷ items) s =
    IsItemOf structs name item × (inner : Shape) × IsShapeBy layers structs item.cell items inner × IsMoved item.place inner s

pub record IsFlatShape (layers : List Layer) (structs : List Structure) (top : List ℕ) (s : Shape) : Type 0 where
  pub chain : List Item
  pub stands : IsShapeBy layers structs top chain s

-- the name, and after a `/` the path, if there is one
abbrev pub path_under : List ℕ → List ℕ → List ℕ
path_under name [] = name
path_under name (b ∷ bs) = name ++ (47 ∷ b ∷ bs)

-- the label of an instance's structure, moved to the instance's place and named below the instance
pub record IsLabelMoved (item : Item) (inner label : PlainLabel) : Type 0 where
  pub path : label.path ≡ path_under item.name inner.path
  pub name : label.name ≡ inner.name
  pub layer : label.layer ≡ inner.layer
  pub at : label.at ≡ placed item.place inner.at

-- the same for labels
abbrev pub IsLabelBy : List Layer → List Structure → List ℕ → List Item → PlainLabel → Type 0
IsLabelBy layers structs name [] label = Contains (own_labels layers (elements_of structs name)) label
IsLabelBy layers structs name (item ∷ items) label =
    IsItemOf structs name item × (inner : PlainLabel) × IsLabelBy layers structs item.cell items inner × IsLabelMoved item inner label

pub record IsFlatLabel (layers : List Layer) (structs : List Structure) (top : List ℕ) (label : PlainLabel) : Type 0 where
  pub chain : List Item
  pub stands : IsLabelBy layers structs top chain label

-- one of the shape's four corners
pub record IsCorner (s : Shape) (p : Point) : Type 0 where
  pub x : (p.x ≡ s.rect.x1) ⊎ (p.x ≡ s.rect.x2)
  pub y : (p.y ≡ s.rect.y1) ⊎ (p.y ≡ s.rect.y2)

pub record IsCornerOfFlat (layers : List Layer) (structs : List Structure) (top : List ℕ) (p : Point) : Type 0 where
  pub shape : Shape
  pub flat : IsFlatShape layers structs top shape
  pub corner : IsCorner shape p

pub record IsPointOfLabel (layers : List Layer) (structs : List Structure) (top : List ℕ) (p : Point) : Type 0 where
  pub label : PlainLabel
  pub flat : IsFlatLabel layers structs top label
  pub is : label.at ≡ p

-- a corner of a shape or the point of a label, outside 32 bits
pub record IsFar (layers : List Layer) (structs : List Structure) (top : List ℕ) (p : Point) : Type 0 where
  pub stands : IsCornerOfFlat layers structs top p ⊎ IsPointOfLabel layers structs top p
  pub far : IsShort p → ⊥
