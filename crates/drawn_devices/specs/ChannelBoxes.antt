-- Channels as lists of boxes.
use Rattle.std.specs.Prelude.{◌≡◌, ◌↔◌, ℕ, ◌<◌, List, ◌∷◌, Contains, slice_get, Some}
use Rattle.std.specs.List.Sorted.{IsStrictlySortedBy}
use Rattle.std.specs.declared.cmp.Ordering.TheVariants.{Less}
use Rattle.or_geom.specs.declared.shape.Point.{Point}
use Rattle.or_geom.specs.declared.shape.Rect.{Rect}
use Rattle.or_geom.specs.declared.shape.Shape.{Shape}
use Rattle.or_geom.specs.Covered.{HasCellInSome}
use Rattle.or_geom.specs.ShapeOrder.{shape_order}
use Rattle.tech_rules.specs.declared.tech.Device.{Device}
use Rattle.cell_hierarchy.specs.FlatLists.{point_order}
use Rattle.drawn_devices.specs.Cells.{LiesOn}
use Rattle.drawn_devices.specs.Channels.{IsChannelCell, ChannelOf, IsLeastCell}

-- the boxes have exactly the channel cells of the device
abbrev pub HaveChannelCells : List Shape → Device → List Rect → Type 0
HaveChannelCells shapes device boxes = (cell : Point) → HasCellInSome boxes cell.x cell.y ↔ IsChannelCell shapes device cell

-- shapes on layer 0, in order and once, that have them
pub record AreChannelShapes (shapes : List Shape) (device : Device) (list : List Shape) : Type 0 where
  pub rise : IsStrictlySortedBy shape_order list
  pub on : (s : Shape) → Contains list s → s.layer ≡ 0
  pub cells : (cell : Point) → LiesOn list 0 cell ↔ IsChannelCell shapes device cell

-- the cell at the lower left corner of a box
abbrev pub low_cell : Rect → Point
low_cell r = record { x = r.x1; y = r.y1 }

-- the boxes have exactly the cells of the channel in which this cell lies
abbrev pub HaveCellsOf : List Shape → Device → Point → List Rect → Type 0
HaveCellsOf shapes device least boxes = (cell : Point) → HasCellInSome boxes cell.x cell.y ↔ ChannelOf shapes device least cell

-- the boxes are those of a channel, whose least cell is at the corner of the first
pub record AreChannelBoxes (shapes : List Shape) (device : Device) (boxes : List Rect) : Type 0 where
  pub first : Rect
  pub rest : List Rect
  pub is : boxes ≡ first ∷ rest
  pub least : IsLeastCell shapes device (low_cell first)
  pub cells : HaveCellsOf shapes device (low_cell first) boxes

-- the first box of the one list begins before that of the other
abbrev pub BeginsBefore : List Rect → List Rect → Type 0
BeginsBefore a b = (first second : Rect) (rest others : List Rect) → a ≡ first ∷ rest → b ≡ second ∷ others → point_order (low_cell first) (low_cell second) ≡ Less

-- the channels of the device, in the order of their least cells
pub record AreChannelGroups (shapes : List Shape) (device : Device) (groups : List (List Rect)) : Type 0 where
  pub each : (k : ℕ) (boxes : List Rect) → slice_get groups k ≡ Some boxes → AreChannelBoxes shapes device boxes
  pub rise : (j k : ℕ) (a b : List Rect) → j < k → slice_get groups j ≡ Some a → slice_get groups k ≡ Some b → BeginsBefore a b
  pub all : (cell : Point) → IsChannelCell shapes device cell → (k : ℕ) × (boxes : List Rect) × (slice_get groups k ≡ Some boxes) × HasCellInSome boxes cell.x cell.y
