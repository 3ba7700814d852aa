-- What a drawn cell is, flat: its wires and labels, and what its instances take over.
use Rattle.std.specs.Prelude.{◌≡◌, ◌⊎◌, ◌↔◌, ◌<◌, ℕ, List, [], Contains, Some, map, length, slice_get}
use Rattle.std.specs.List.{AllByRecursion}
use Rattle.std.specs.Char.{to_ascii_lowercase}
use Rattle.or_geom.specs.declared.shape.Point.{Point}
use Rattle.or_geom.specs.declared.shape.Shape.{Shape}
use Rattle.or_geom.specs.Place.{placed}
use Rattle.gds_library.specs.declared.library.Structure.{Structure}
use Rattle.tech_rules.specs.declared.tech.Layer.{Layer}
use Rattle.element_drawing.specs.PlainLabel.{PlainLabel}
use Rattle.element_drawing.specs.OwnShapes.{layer_with_numbers}
use Rattle.element_drawing.specs.OwnLabels.{text_place_of}
use Rattle.cell_chains.specs.Instances.{Item}
use Rattle.cell_chains.specs.Chains.{elements_of}
use Rattle.cell_hierarchy.specs.FlatSet.{IsMoved, IsLabelMoved, IsFlatShape, IsFlatLabel, path_under}
use Rattle.cell_builder.specs.declared.cell.PlacedInstance.{PlacedInstance}
use Rattle.cell_builder.specs.declared.cell.PlacedLabel.{PlacedLabel}
use Rattle.cell_builder.specs.declared.cell.DrawnCell.{DrawnCell}
use Rattle.cell_builder.specs.Structures.{cell_elements}
use Rattle.cell_builder.specs.Finish.{IsInOrder}

-- at the item's place stands the image of a shape that P has
pub record IsShapeTaken (item : Item) (P : Shape → Type 0) (s : Shape) : Type 0 where
  pub inner : Shape
  pub has : P inner
  pub moved : IsMoved item.place inner s

-- the same for a label, which is also named below the item
pub record IsLabelTaken (item : Item) (P : PlainLabel → Type 0) (label : PlainLabel) : Type 0 where
  pub inner : PlainLabel
  pub has : P inner
  pub moved : IsLabelMoved item inner label

-- the instance as an item
abbrev pub item_of : PlacedInstance → Item
item_of i = record { name = map to_ascii_lowercase i.name; cell = i.of; place = i.place }

-- a wire, on the first layer that has its layer's numbers
pub record IsOwnWire (layers : List Layer) (wires : List Shape) (s : Shape) : Type 0 where
  pub wire : Shape
  pub among : Contains wires wire
  pub layer : Layer
  pub on : slice_get layers wire.layer ≡ Some layer
  pub first : layer_with_numbers layers layer.number layer.datatype ≡ Some s.layer
  pub rect : s.rect ≡ wire.rect

-- a label, on the first layer whose labels have its layer's numbers
pub record IsOwnLabel (layers : List Layer) (labels : List PlacedLabel) (label : PlainLabel) : Type 0 where
  pub text : PlacedLabel
  pub among : Contains labels text
  pub layer : Layer
  pub on : slice_get layers text.layer ≡ Some layer
  pub first : text_place_of layers layer.text_number layer.texttype ≡ Some label.layer
  pub path : label.path ≡ []
  pub name : label.name ≡ text.text
  pub at : label.at ≡ text.at

-- one of the instances takes x over, by `Takes`, from what is flat in its cell
pub record IsTakenOver {X : Type 0} (Takes : Item → (X → Type 0) → X → Type 0) (Flat : List ℕ → X → Type 0) (instances : List PlacedInstance) (x : X) : Type 0 where
  pub instance : PlacedInstance
  pub among : Contains instances instance
  pub taken : Takes (item_of instance) (Flat instance.of) x

-- all layers are there
pub record HasLayers (layers : List Layer) (cell : DrawnCell) : Type 0 where
  pub wires : AllByRecursion (λ (s : Shape). s.layer < length layers) cell.wires
  pub labels : AllByRecursion (λ (l : PlacedLabel). l.layer < length layers) cell.labels

-- the structure of the cell's name is the cell's, with its wires and labels in order
pub record IsDrawn (layers : List Layer) (structs : List Structure) (cell : DrawnCell) : Type 0 where
  pub sorted : DrawnCell
  pub order : IsInOrder cell sorted
  pub is : elements_of structs cell.name ≡ cell_elements layers sorted

-- The flat shapes of a drawn cell: its wires, and those of its instances.
abbrev pub CellsAreFlat : Type 0
CellsAreFlat = (layers : List Layer) (structs : List Structure) (cell : DrawnCell) → IsDrawn layers structs cell → HasLayers layers cell
    → (s : Shape) → IsFlatShape layers structs cell.name s ↔ (IsOwnWire layers cell.wires s ⊎ IsTakenOver IsShapeTaken (IsFlatShape layers structs) cell.instances s)

-- The same for labels.
abbrev pub LabelsAreFlat : Type 0
LabelsAreFlat = (layers : List Layer) (structs : List Structure) (cell : DrawnCell) → IsDrawn layers structs cell → HasLayers layers cell
    → (label : PlainLabel) → IsFlatLabel layers structs cell.name label ↔ (IsOwnLabel layers cell.labels label ⊎ IsTakenOver IsLabelTaken (IsFlatLabel layers structs) cell.instances label)

-- `both` is `inner`, an instance of the cell of `outer`, as it stands beside `outer`
pub record IsNested (outer inner both : Item) : Type 0 where
  pub name : both.name ≡ path_under outer.name inner.name
  pub some : inner.name ≡ [] → ⊥
  pub place : (p : Point) → placed both.place p ≡ placed outer.place (placed inner.place p)

-- moved by one and then by the other
pub record IsMovedTwice (outer inner : Item) (x z : Shape) : Type 0 where
  pub between : Shape
  pub first : IsMoved inner.place x between
  pub second : IsMoved outer.place between z

pub record IsLabelMovedTwice (outer inner : Item) (x z : PlainLabel) : Type 0 where
  pub between : PlainLabel
  pub first : IsLabelMoved inner x between
  pub second : IsLabelMoved outer between z

-- What is moved by an item and then by the item of its cell is what is moved by the item that is both.
pub record IsComposed (outer inner both : Item) : Type 0 where
  pub shapes : (x z : Shape) → IsMovedTwice outer inner x z ↔ IsMoved both.place x z
  pub labels : (x z : PlainLabel) → IsLabelMovedTwice outer inner x z ↔ IsLabelMoved both x z

abbrev pub ItemsCompose : Type 0
ItemsCompose = (outer inner both : Item) → IsNested outer inner both → IsComposed outer inner both
