-- In which instances the shapes of a flat layout stand.
use Rattle.std.specs.Prelude.{◌≡◌, ◌≢◌, ◌⊎◌, ℕ, ◌<◌, ◌^◌, List, length, Contains, Option, Some, slice_get, true, false, MatchOption}
use Rattle.std.specs.Option.{option_copied}
use Rattle.or_geom.specs.declared.shape.Rect.{Rect}
use Rattle.or_geom.specs.declared.shape.Shape.{Shape}
use Rattle.or_geom.specs.Place.{IsWithin}
use Rattle.or_geom.specs.Reachable.{AreReachable}
use Rattle.shape_bins.specs.Hits.{IsNearShape}
use Rattle.tech_rules.specs.declared.tech.Connect.{Connect}
use Rattle.tech_rules.specs.Touch.{Touch}
use Rattle.or_geom.specs.Gathering.{SomeHas}
use Rattle.leaf_nets.specs.declared.leaves.LooseLeaf.{LooseLeaf}
use Rattle.leaf_contacts.specs.declared.contact.MarkedLayout.{MarkedLayout}
use Rattle.leaf_contacts.specs.declared.cells.CellSummary.{CellSummary}
use Rattle.leaf_contacts.specs.declared.cells.ReachedCells.{ReachedCells}
use Rattle.cell_hierarchy.specs.FlatSet.{IsMoved}
use Rattle.leaf_contacts.specs.declared.stand.Stand.{Stand}
use Rattle.leaf_contacts.specs.declared.stand.ReferenceStep.{ReferenceStep}
use Rattle.leaf_contacts.specs.declared.marks.Mark.{Mark}
use Rattle.leaf_contacts.specs.Stands.{IsCellNamed}

-- a shape, and the references that lead to the instance in which it stands, if it stands in one
pub record ShapeEntry : Type 0 where
  pub shape : Shape
  pub instance : Option (List ReferenceStep)

abbrev pub shape_entry : Shape → Option (List ReferenceStep) → ShapeEntry
shape_entry shape instance = record { shape = shape; instance = instance }

-- the shape stands also in something else than this
pub record IsListedElsewhere (entries : List ShapeEntry) (shape : Shape) (instance : Option (List ReferenceStep)) : Type 0 where
  pub other : Option (List ReferenceStep)
  pub listed : Contains entries (shape_entry shape other)
  pub differs : other ≢ instance

-- the mark has one of the shape's instances, and tells whether there is another
pub record IsMark (entries : List ShapeEntry) (shape : Shape) (mark : Mark) : Type 0 where
  pub listed : Contains entries (shape_entry shape (option_copied mark.instance))
  pub elsewhere : mark.elsewhere ≡ true → IsListedElsewhere entries shape (option_copied mark.instance)
  pub nowhere : mark.elsewhere ≡ false → IsListedElsewhere entries shape (option_copied mark.instance) → ⊥

-- there is no mark exactly where the shape isn't listed
abbrev pub IsMarkOrNone : List ShapeEntry → Shape → Option Mark → Type 0
IsMarkOrNone entries shape mark = MatchOption mark ((instance : Option (List ReferenceStep)) → Contains entries (shape_entry shape instance) → ⊥) (IsMark entries shape)

-- a mark for each shape
pub record AreMarks (shapes : List Shape) (entries : List ShapeEntry) (marks : List (Option Mark)) : Type 0 where
  pub sized : length marks ≡ length shapes
  pub each : (place : ℕ) (shape : Shape) (mark : Option Mark) → slice_get shapes place ≡ Some shape → slice_get marks place ≡ Some mark → IsMarkOrNone entries shape mark

-- an entry of one of the shapes, where the cell that draws them stands
pub record IsShapeEntryOf (stand : Stand) (shapes : List Shape) (e : ShapeEntry) : Type 0 where
  pub inner : Shape
  pub listed : Contains shapes inner
  pub moved : IsMoved stand.place inner e.shape
  pub is : e.instance ≡ option_copied stand.instance

-- an entry of the shape, where the cell stands there
pub record HasEntryOf (entries : List ShapeEntry) (stand : Stand) (inner : Shape) : Type 0 where
  pub e : ShapeEntry
  pub listed : Contains entries e
  pub moved : IsMoved stand.place inner e.shape
  pub is : e.instance ≡ option_copied stand.instance

-- one of each of the shapes
pub record AreEntriesOf (stand : Stand) (shapes : List Shape) (entries : List ShapeEntry) : Type 0 where
  pub each : (e : ShapeEntry) → Contains entries e → IsShapeEntryOf stand shapes e
  pub all : (inner : Shape) → Contains shapes inner → HasEntryOf entries stand inner

-- the shapes, where their cell stands, are among the others
abbrev pub HasShapesOf : Stand → List Shape → List Shape → Type 0
HasShapesOf stand own shapes = (inner s : Shape) → Contains own inner → IsMoved stand.place inner s → Contains shapes s

-- the cell that stands there has a summary, whose shapes are, where it stands, among the others
pub record IsStandIn (tree : ReachedCells) (shapes : List Shape) (stand : Stand) : Type 0 where
  pub near : IsWithin (2 ^ 39) stand.place.at
  pub summary : CellSummary
  pub there : slice_get tree.summaries.now stand.cell ≡ Some summary
  pub listed : HasShapesOf stand summary.shapes.items shapes

abbrev pub AreStandsIn : ReachedCells → List Shape → List Stand → Type 0
AreStandsIn tree shapes stands = (stand : Stand) → Contains stands stand → IsStandIn tree shapes stand

-- an entry of a shape that the cell of one of the stands draws
pub record IsEntryIn (tree : ReachedCells) (stands : List Stand) (e : ShapeEntry) : Type 0 where
  pub stand : Stand
  pub listed : Contains stands stand
  pub summary : CellSummary
  pub there : slice_get tree.summaries.now stand.cell ≡ Some summary
  pub of : IsShapeEntryOf stand summary.shapes.items e

-- one for each shape of each stand
pub record AreAllEntries (tree : ReachedCells) (stands : List Stand) (entries : List ShapeEntry) : Type 0 where
  pub each : (e : ShapeEntry) → Contains entries e → IsEntryIn tree stands e
  pub all : (stand : Stand) (summary : CellSummary) (inner : Shape) → Contains stands stand → slice_get tree.summaries.now stand.cell ≡ Some summary → Contains summary.shapes.items inner → HasEntryOf entries stand inner

-- the shape touches the other, or is it
abbrev pub IsTouching : List Connect → Shape → Shape → Type 0
IsTouching connections other shape = Touch connections shape other ⊎ (shape ≡ other)

-- one of the shapes touches, or is, the one at this place, which stands elsewhere than in the instance
pub record IsTouchedElsewhere (connections : List Connect) (shapes : List Shape) (entries : List ShapeEntry) (moved : List Shape) (instance : List ReferenceStep) (place : ℕ) : Type 0 where
  pub other : Shape
  pub there : slice_get shapes place ≡ Some other
  pub elsewhere : IsListedElsewhere entries other (Some instance)
  pub touch : SomeHas (IsTouching connections other) moved

-- the shape touches, or is, one that stands also elsewhere than in the instance
pub record TouchesElsewhere (connections : List Connect) (entries : List ShapeEntry) (instance : List ReferenceStep) (shape : Shape) : Type 0 where
  pub other : Shape
  pub elsewhere : IsListedElsewhere entries other (Some instance)
  pub touch : IsTouching connections other shape

-- the loose shape, where its cell stands, does
pub record IsContactOf (connections : List Connect) (entries : List ShapeEntry) (stand : Stand) (inner : Shape) : Type 0 where
  pub shape : Shape
  pub moved : IsMoved stand.place inner shape
  pub touches : TouchesElsewhere connections entries stand.steps.now shape

-- it is the leaf cell that stands there, and one of its loose shapes does
pub record IsContactWith (connections : List Connect) (tree : ReachedCells) (entries : List ShapeEntry) (stand : Stand) (leaf : LooseLeaf) : Type 0 where
  pub cell : IsCellNamed tree stand.cell leaf.cell
  pub contact : SomeHas (IsContactOf connections entries stand) leaf.shapes

-- the stand is an instance of a leaf cell with such a loose shape
pub record HasContactAt (connections : List Connect) (tree : ReachedCells) (entries : List ShapeEntry) (stand : Stand) : Type 0 where
  pub instance : option_copied stand.instance ≡ Some stand.steps.now
  pub leaf : SomeHas (IsContactWith connections tree entries stand) tree.leaves.now

-- all entries' shapes are among those of the layout, and are on its layers
pub record AreEntriesIn (layers : ℕ) (shapes : List Shape) (entries : List ShapeEntry) : Type 0 where
  pub listed : (e : ShapeEntry) → Contains entries e → Contains shapes e.shape
  pub on : (e : ShapeEntry) → Contains entries e → e.shape.layer < layers

-- the entries of the layout's shapes, told by its marks
pub record AreLayoutEntries (layout : MarkedLayout) (entries : List ShapeEntry) : Type 0 where
  pub marks : AreMarks layout.bins.now entries layout.marks.now
  pub listed : AreEntriesIn (length layout.tech.now.layers) layout.bins.now entries

-- the loose shapes of all leaf cells lie near the origin
abbrev pub AreNearLeaves : List LooseLeaf → Type 0
AreNearLeaves leaves = (leaf : LooseLeaf) → Contains leaves leaf → AreReachable leaf.shapes

-- the shape at this place is on one of the first layers, and its closed box meets the area
pub record IsNearOnLayers (shapes : List Shape) (area : Rect) (layers : ℕ) (place : ℕ) : Type 0 where
  pub layer : ℕ
  pub below : layer < layers
  pub near : IsNearShape shapes layer area place
