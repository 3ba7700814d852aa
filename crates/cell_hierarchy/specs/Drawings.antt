-- What cells draw themselves, and which of their references lead to something that is drawn.
use Rattle.std.specs.Prelude.{◌≡◌, ℕ, ◌<◌, Bool, true, false, List, [], Contains, Some, slice_get, slice_index, length, map}
use Rattle.std.specs.List.{AllByRecursion}
use Rattle.std.specs.List.Sorted.{IsPermutation}
use Rattle.or_geom.specs.Place.{IsNearPoint}
use Rattle.or_geom.specs.Reachable.{AreReachable}
use Rattle.gds_library.specs.declared.library.Element.{Element}
use Rattle.gds_library.specs.declared.library.Element.TheVariants.{Boundary, Path, Sref, Aref, Text}
use Rattle.gds_library.specs.declared.library.Structure.{Structure}
use Rattle.tech_rules.specs.declared.tech.Layer.{Layer}
use Rattle.element_drawing.specs.PlainLabel.{PlainLabel}
use Rattle.element_drawing.specs.OwnShapes.{AreOwnShapes}
use Rattle.element_drawing.specs.OwnLabels.{own_labels}
use Rattle.cell_chains.specs.declared.cell.Cell.{Cell}
use Rattle.cell_chains.specs.Instances.{Item, HasItem}
use Rattle.cell_chains.specs.Hierarchy.{IsCell}
use Rattle.cell_hierarchy.specs.Plain.{plain_label}
use Rattle.cell_hierarchy.specs.Things.{Thing, IsFlatThing}
use Rattle.cell_hierarchy.specs.declared.flat.Label.{Label}
use Rattle.cell_hierarchy.specs.declared.drawing.OwnDrawing.{OwnDrawing}
use Rattle.cell_hierarchy.specs.declared.parts.CellPart.{CellPart}

-- all that it has is within 2^40, and its labels have no paths
pub record IsOwnDrawing (own : OwnDrawing) : Type 0 where
  pub shapes : AreReachable own.shapes.items
  pub labels : AllByRecursion (λ (label : Label). IsNearPoint label.at) own.labels.items
  pub bare : AllByRecursion (λ (label : Label). label.path.now ≡ []) own.labels.items
  pub points : AllByRecursion IsNearPoint own.points.items

-- the labels, where they are kept
abbrev pub kept_labels : Bool → List PlainLabel → List PlainLabel
kept_labels true labels = labels
kept_labels false labels = []

-- what the elements draw themselves: their shapes, their labels in some order (none where labels are not kept), and the points of all their labels in the order of the elements
pub record IsDrawingOf (layers : List Layer) (kept : Bool) (elements : List Element) (drawing : OwnDrawing) : Type 0 where
  pub shapes : AreOwnShapes layers elements drawing.shapes.items
  pub labels : IsPermutation (kept_labels kept (own_labels layers elements)) (map plain_label drawing.labels.items)
  pub points : drawing.points.items ≡ map (λ (label : PlainLabel). label.at) (own_labels layers elements)
  pub near : IsOwnDrawing drawing

-- the cell draws nothing, and its references lead to none that does
pub record IsBlank (part : CellPart) : Type 0 where
  pub shapes : part.own.shapes.items ≡ []
  pub labels : part.own.labels.items ≡ []
  pub points : part.own.points.items ≡ []
  pub live : part.live.items ≡ []

-- there is a part at this index, and it isn't blank
pub record IsSomeAt (parts : List CellPart) (target : ℕ) : Type 0 where
  pub part : CellPart
  pub is : slice_get parts target ≡ Some part
  pub some : IsBlank part → ⊥

abbrev pub LeadsToSome : Element → ℕ → List CellPart → Type 0
LeadsToSome (Boundary layer datatype points props) target parts = ⊥
LeadsToSome (Path layer datatype kind width points props) target parts = ⊥
LeadsToSome (Sref name place props) target parts = IsSomeAt parts target
LeadsToSome (Aref name place columns rows across down props) target parts = IsSomeAt parts target
LeadsToSome (Text layer texttype at string props) target parts = ⊥

-- the indices of the elements that lead to something
pub record IsLiveOf (elements : List Element) (targets : List ℕ) (parts : List CellPart) (live : List ℕ) : Type 0 where
  pub inside : (n : ℕ) → Contains live n → n < length elements
  pub all : (n : ℕ) (e : Element) → slice_get elements n ≡ Some e → LeadsToSome e (slice_index targets n) parts → Contains live n

-- what the cell draws itself, and its references that lead to something in the parts of the cells below
pub record IsCellPart (layers : List Layer) (kept : Bool) (structs : List Structure) (cell : Cell) (below : List CellPart) (part : CellPart) : Type 0 where
  pub structure : Structure
  pub stands : slice_get structs cell.structure ≡ Some structure
  pub drawn : IsDrawingOf layers kept structure.elements part.own
  pub live : IsLiveOf structure.elements cell.targets below part.live.items

-- an element of which something flat is taken over is among those that count
pub record IsLive (layers : List Layer) (kept : Bool) (structs : List Structure) (elements : List Element) (live : List ℕ) : Type 0 where
  pub inside : (n : ℕ) → Contains live n → n < length elements
  pub all : (n : ℕ) (e : Element) (item : Item) (x : Thing) → slice_get elements n ≡ Some e → HasItem n e item → IsFlatThing layers kept structs item.cell x → Contains live n

-- what the structure draws itself, and the references that count
pub record IsPartOf (layers : List Layer) (kept : Bool) (structs : List Structure) (structure : Structure) (part : CellPart) : Type 0 where
  pub drawn : IsDrawingOf layers kept structure.elements part.own
  pub live : IsLive layers kept structs structure.elements part.live.items

-- the parts of the first cells
pub record AreCellParts (layers : List Layer) (kept : Bool) (structs : List Structure) (cells : List Cell) (count : ℕ) (parts : List CellPart) : Type 0 where
  pub sized : length parts ≡ count
  pub each : (k : ℕ) (cell : Cell) (structure : Structure) (part : CellPart) → slice_get cells k ≡ Some cell → slice_get structs cell.structure ≡ Some structure
      → slice_get parts k ≡ Some part → IsPartOf layers kept structs structure part

-- cells from the bottom up
pub record AreAllCells (structs : List Structure) (cells : List Cell) : Type 0 where
  pub each : (k : ℕ) (cell : Cell) → slice_get cells k ≡ Some cell → IsCell structs cells k cell
