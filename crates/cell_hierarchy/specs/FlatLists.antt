-- The flat lists of a structure, and why there may be none.
use Rattle.std.specs.Prelude.{◌≢◌, ◌↔◌, ℕ, List, Contains}
use Rattle.std.specs.Ordering.{ordering_then, int_cmp}
use Rattle.std.specs.List.Sorted.{IsStrictlySortedBy}
use Rattle.std.specs.declared.cmp.Ordering.{Ordering}
use Rattle.std.specs.declared.cmp.Ordering.TheVariants.{Greater}
use Rattle.or_geom.specs.declared.shape.Point.{Point}
use Rattle.or_geom.specs.declared.shape.Shape.{Shape}
use Rattle.gds_library.specs.declared.library.Structure.{Structure}
use Rattle.tech_rules.specs.declared.tech.Layer.{Layer}
use Rattle.or_geom.specs.ShapeOrder.{shape_order}
use Rattle.element_drawing.specs.PlainLabel.{PlainLabel}
use Rattle.element_drawing.specs.LabelOrder.{label_order}
use Rattle.cell_chains.specs.declared.fault.ChainFault.TheVariants as chain_fault
use Rattle.cell_chains.specs.Chains.{IsSound}
use Rattle.cell_chains.specs.Hierarchy.{IsChainFault}
use Rattle.cell_hierarchy.specs.Counts.{Total, IsTotalWithin, IsSaturated, AreFew, AreMany}
use Rattle.cell_hierarchy.specs.Plain.{FlatLists}
use Rattle.cell_hierarchy.specs.declared.fault.FlattenFault.{FlattenFault}
use Rattle.cell_hierarchy.specs.declared.fault.FlattenFault.TheVariants as flatten_fault
use Rattle.cell_hierarchy.specs.FlatSet.{IsFlatShape, IsFlatLabel, IsFar}

-- by x and then y
abbrev pub point_order : Point → Point → Ordering
point_order p q = ordering_then (int_cmp p.x q.x) (int_cmp p.y q.y)

-- the first far point
pub record IsFirstFar (layers : List Layer) (structs : List Structure) (top : List ℕ) (p : Point) : Type 0 where
  pub far : IsFar layers structs top p
  pub first : (q : Point) → IsFar layers structs top q → point_order p q ≢ Greater

-- at most 2^24 shapes and 2^22 labels, before equal ones are merged
pub record HasFew (layers : List Layer) (structs : List Structure) (top : List ℕ) : Type 0 where
  pub total : Total
  pub is : IsTotalWithin 32 layers structs top total
  pub few : AreFew total

-- more than that, and how many; each number stands at 2^32 where it is larger
pub record HasMany (layers : List Layer) (structs : List Structure) (top : List ℕ) (shapes labels : ℕ) : Type 0 where
  pub total : Total
  pub is : IsTotalWithin 32 layers structs top total
  pub many : AreMany total
  pub standing : IsSaturated total (record { shapes = shapes; labels = labels })

-- why a structure has no flat lists: the first of these that holds
abbrev pub IsFault : List Layer → List Structure → List ℕ → FlattenFault → Type 0
IsFault layers structs top (flatten_fault.UnknownStruct name) = IsChainFault structs top (chain_fault.UnknownStruct name)
IsFault layers structs top (flatten_fault.Cycle name) = IsChainFault structs top (chain_fault.Cycle name)
IsFault layers structs top (flatten_fault.TooDeep depth) = IsChainFault structs top (chain_fault.TooDeep depth)
IsFault layers structs top (flatten_fault.TooMany shapes labels) = IsSound structs top × HasMany layers structs top shapes labels
IsFault layers structs top (flatten_fault.Far x y) = IsSound structs top × HasFew layers structs top × IsFirstFar layers structs top (record { x = x; y = y })
IsFault layers structs top flatten_fault.Memory = Unit {0}

-- exactly the flat shapes, in order and once; and none of the faults holds
pub record AreFlatShapes (layers : List Layer) (structs : List Structure) (top : List ℕ) (shapes : List Shape) : Type 0 where
  pub sound : IsSound structs top
  pub few : HasFew layers structs top
  pub near : (p : Point) → IsFar layers structs top p → ⊥
  pub rise : IsStrictlySortedBy shape_order shapes
  pub exact : (s : Shape) → Contains shapes s ↔ IsFlatShape layers structs top s

-- exactly the flat shapes and labels, each in order and once; and none of the faults holds
pub record AreFlatLists (layers : List Layer) (structs : List Structure) (top : List ℕ) (lists : FlatLists) : Type 0 where
  pub sound : IsSound structs top
  pub few : HasFew layers structs top
  pub near : (p : Point) → IsFar layers structs top p → ⊥
  pub shapes_rise : IsStrictlySortedBy shape_order lists.shapes
  pub shapes_exact : (s : Shape) → Contains lists.shapes s ↔ IsFlatShape layers structs top s
  pub labels_rise : IsStrictlySortedBy label_order lists.labels
  pub labels_exact : (label : PlainLabel) → Contains lists.labels label ↔ IsFlatLabel layers structs top label
