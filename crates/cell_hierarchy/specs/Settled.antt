-- From what a top draws to its flat lists, and the faults on the way.
use Rattle.std.specs.Prelude.{◌≡◌, ◌⊎◌, ◌↔◌, ◌^◌, ◌<◌, min, ℕ, Bool, true, if◌then◌else◌, List, Contains, length, map, vec_capacity}
use Rattle.std.specs.List.Sorted.{IsStrictlySortedBy}
use Rattle.or_geom.specs.declared.shape.Point.{Point}
use Rattle.or_geom.specs.declared.shape.Shape.{Shape}
use Rattle.gds_library.specs.declared.library.Structure.{Structure}
use Rattle.tech_rules.specs.declared.tech.Layer.{Layer}
use Rattle.or_geom.specs.ShapeOrder.{shape_order}
use Rattle.element_drawing.specs.PlainLabel.{PlainLabel}
use Rattle.element_drawing.specs.LabelOrder.{label_order}
use Rattle.cell_chains.specs.declared.fault.ChainFault.{ChainFault}
use Rattle.cell_chains.specs.declared.fault.ChainFault.TheVariants as chain_fault
use Rattle.cell_hierarchy.specs.declared.counts.SaturatedCounts.{SaturatedCounts}
use Rattle.cell_hierarchy.specs.declared.gathered.Gathered.{Gathered}
use Rattle.cell_hierarchy.specs.Plain.{plain_label}
use Rattle.cell_hierarchy.specs.declared.flat.Flat.{Flat}
use Rattle.cell_hierarchy.specs.declared.parts.CellPart.{CellPart}
use Rattle.cell_hierarchy.specs.declared.fault.FlattenFault.{FlattenFault}
use Rattle.cell_hierarchy.specs.declared.fault.FlattenFault.TheVariants as flatten_fault
use Rattle.cell_hierarchy.specs.FlatSet.{IsFlatShape, IsFlatLabel, IsPointOfLabel}
use Rattle.cell_hierarchy.specs.FlatLists.{HasMany, AreFlatShapes}
use Rattle.cell_hierarchy.specs.Far.{IsFirst, IsFarIn}

-- the same fault
abbrev pub fault_of : ChainFault → FlattenFault
fault_of (chain_fault.UnknownStruct name) = flatten_fault.UnknownStruct name
fault_of (chain_fault.Cycle name) = flatten_fault.Cycle name
fault_of (chain_fault.TooDeep depth) = flatten_fault.TooDeep depth
fault_of chain_fault.Memory = flatten_fault.Memory

-- the counts of what the cell draws itself
pub record AreCountsOf (part : CellPart) (counts : SaturatedCounts) : Type 0 where
  pub shapes : counts.shapes ≡ min (length part.own.shapes.items) (2 ^ 32)
  pub labels : counts.labels ≡ min (length part.own.points.items) (2 ^ 32)

-- more than 2^24 shapes or 2^22 labels
abbrev pub AreOver : SaturatedCounts → Type 0
AreOver counts = (2 ^ 24 < counts.shapes) ⊎ (2 ^ 22 < counts.labels)

abbrev pub IsManyFault : List Layer → List Structure → List ℕ → FlattenFault → Type 0
IsManyFault layers structs top (flatten_fault.UnknownStruct name) = ⊥
IsManyFault layers structs top (flatten_fault.Cycle name) = ⊥
IsManyFault layers structs top (flatten_fault.TooDeep depth) = ⊥
IsManyFault layers structs top (flatten_fault.TooMany shapes labels) = HasMany layers structs top shapes labels
IsManyFault layers structs top (flatten_fault.Far x y) = ⊥
IsManyFault layers structs top flatten_fault.Memory = Unit {0}

-- lists with room for as much as was counted, and for labels only where they are kept
pub record HasRoomFor (counts : SaturatedCounts) (kept : Bool) (gathered : Gathered) : Type 0 where
  pub shapes : vec_capacity gathered.shapes ≡ counts.shapes
  pub labels : vec_capacity gathered.labels ≡ (if kept then counts.labels else 0)
  pub points : vec_capacity gathered.points ≡ counts.labels

-- exactly the flat shapes of the structure, its flat labels where they are kept, and the points of its flat labels
pub record IsTopDrawing (layers : List Layer) (kept : Bool) (structs : List Structure) (top : List ℕ) (gathered : Gathered) : Type 0 where
  pub shapes : (s : Shape) → Contains gathered.shapes.items s ↔ IsFlatShape layers structs top s
  pub labels : (label : PlainLabel) → Contains (map plain_label gathered.labels.items) label ↔ ((kept ≡ true) × IsFlatLabel layers structs top label)
  pub points : (p : Point) → Contains gathered.points.items p ↔ IsPointOfLabel layers structs top p

-- what was gathered, in order and once, and none of it far
pub record IsFlatOf (gathered : Gathered) (flat : Flat) : Type 0 where
  pub near : (p : Point) → IsFarIn gathered.shapes.items gathered.points.items p → ⊥
  pub shapes_rise : IsStrictlySortedBy shape_order flat.shapes.now
  pub shapes_same : (s : Shape) → Contains flat.shapes.now s ↔ Contains gathered.shapes.items s
  pub labels_rise : IsStrictlySortedBy label_order (map plain_label flat.labels.now)
  pub labels_same : (label : PlainLabel) → Contains (map plain_label flat.labels.now) label ↔ Contains (map plain_label gathered.labels.items) label

abbrev pub IsFarFault : Gathered → FlattenFault → Type 0
IsFarFault gathered (flatten_fault.UnknownStruct name) = ⊥
IsFarFault gathered (flatten_fault.Cycle name) = ⊥
IsFarFault gathered (flatten_fault.TooDeep depth) = ⊥
IsFarFault gathered (flatten_fault.TooMany shapes labels) = ⊥
IsFarFault gathered (flatten_fault.Far x y) = IsFirst (IsFarIn gathered.shapes.items gathered.points.items) (record { x = x; y = y })
IsFarFault gathered flatten_fault.Memory = Unit {0}

-- the flat shapes and, where they are kept, the flat labels; and none of the faults holds
pub record IsFlatKept (layers : List Layer) (kept : Bool) (structs : List Structure) (top : List ℕ) (flat : Flat) : Type 0 where
  pub shapes : AreFlatShapes layers structs top flat.shapes.now
  pub labels_rise : IsStrictlySortedBy label_order (map plain_label flat.labels.now)
  pub labels_exact : (label : PlainLabel) → Contains (map plain_label flat.labels.now) label ↔ ((kept ≡ true) × IsFlatLabel layers structs top label)
