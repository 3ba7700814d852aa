-- The shapes of leaf instances, and the parts of the plane that they take.
use Rattle.std.specs.Prelude.{◌≡◌, ◌⊎◌, ◌↔◌, ℕ, ◌*◌, ◌≤◌, ℤ, pos, ◌≤ℤ◌, ◌<ℤ◌, ◌+ℤ◌, List, Contains}
use Rattle.or_geom.specs.declared.shape.Rect.{Rect}
use Rattle.or_geom.specs.declared.shape.Shape.{Shape}
use Rattle.or_geom.specs.declared.place.Place.{Place}
use Rattle.cell_builder.specs.Flat.{IsShapeTaken}
use Rattle.cell_roles.specs.declared.role.Role.TheVariants.{Bitcell, Precharge, Mux, Tie, Sense, Write, Driver, Inv, Dff, Nand2, Nand3}
use Rattle.tech_rules.specs.declared.tech.Wire.{Wire}
use Rattle.wire_drawing.specs.Drawing.{pitch}
use Rattle.sram_netlist.specs.Organization.{Organization, words_per_row}
use Rattle.sram_netlist.specs.Instances.{LogicCell, LeafInstance, BitAt, NandAt, DriverAt, PrechargeAt, WriteAt, SenseAt, MuxAt, TieAt, LogicAt}
use Rattle.sram_netlist.specs.Netlist.{role, row_gate}
use Rattle.sram_netlist.specs.Membership.{HasLeafInstance}
use Rattle.sram_netlist.specs.BitCells.{BitCells}
use Rattle.macro_layout.specs.LayoutKit.{LayoutKit}
use Rattle.macro_layout.specs.Places.{Floorplan, bank_x, columns_x, column_x, leaf_cell}
use Rattle.macro_layout.specs.Floorplan.{column_channel_y, upper_y}
use Rattle.macro_layout.specs.Layout.{IsOfLeaf}

-- the layout has on the layer exactly the shapes of leaf instances
abbrev pub HasLeavesOn : ℕ → (List ℕ → Shape → Type 0) → Organization → LayoutKit → BitCells → Floorplan → List Shape → Type 0
HasLeavesOn layer Flat plan kit bits f shapes = (s : Shape) → s.layer ≡ layer → Contains shapes s ↔ IsOfLeaf plan kit bits f IsShapeTaken Flat s

-- the layout has on the layer exactly the wires and the shapes of leaf instances
abbrev pub HasLeavesAndWires : ℕ → (List ℕ → Shape → Type 0) → Organization → LayoutKit → BitCells → Floorplan → (Shape → Type 0) → List Shape → Type 0
HasLeavesAndWires layer Flat plan kit bits f IsWire shapes = (s : Shape) → s.layer ≡ layer → Contains shapes s ↔ (IsWire s ⊎ IsOfLeaf plan kit bits f IsShapeTaken Flat s)

-- a part of the plane, of which columns, slices and cells of the logic row take one each
pub record Zone : Type 0 where
  pub left : ℤ
  pub right : ℤ
  pub low : ℤ
  pub high : ℤ

abbrev pub zone : ℤ → ℤ → ℤ → ℤ → Zone
zone left right low high = record { left = left; right = right; low = low; high = high }

-- the rectangle passes the zone by so much at most
pub record LiesNear (by : ℤ) (zone : Zone) (r : Rect) : Type 0 where
  pub left : zone.left ≤ℤ (r.x1 +ℤ by)
  pub right : r.x2 ≤ℤ (zone.right +ℤ by)
  pub low : zone.low ≤ℤ (r.y1 +ℤ by)
  pub high : r.y2 ≤ℤ (zone.high +ℤ by)

-- the zones are nearer than so much
pub record AreNearZones (reach : ℤ) (a b : Zone) : Type 0 where
  pub left : a.left <ℤ (b.right +ℤ reach)
  pub right : b.left <ℤ (a.right +ℤ reach)
  pub low : a.low <ℤ (b.high +ℤ reach)
  pub high : b.low <ℤ (a.high +ℤ reach)

-- a column, from its multiplexer or tie to its precharge cell; what stands in front of the first column; a slice
abbrev pub column_zone : Organization → LayoutKit → Floorplan → ℕ → ℕ → Zone
column_zone plan kit f b c = zone (bank_x f b (column_x plan kit f c)) (bank_x f b (column_x plan kit f c) +ℤ pos (kit.width Bitcell)) f.column_y (upper_y kit f)

abbrev pub front_zone : Organization → LayoutKit → Floorplan → ℕ → Zone
front_zone plan kit f b = zone (bank_x f b f.row_x) (bank_x f b (columns_x plan kit f)) f.column_y (upper_y kit f)

abbrev pub slice_zone : Organization → LayoutKit → Floorplan → ℕ → ℕ → Zone
slice_zone plan kit f b i = zone (bank_x f b (column_x plan kit f (i * words_per_row plan))) (bank_x f b (column_x plan kit f (i * words_per_row plan)) +ℤ pos (words_per_row plan * kit.width Bitcell)) f.write_y (column_channel_y kit f)

-- the zone of a leaf instance, which for a cell of the logic row is the cell
abbrev pub zone_of : Organization → LayoutKit → Floorplan → LeafInstance → Place → Zone
zone_of plan kit f (BitAt b r c) place = column_zone plan kit f b c
zone_of plan kit f (NandAt b r) place = front_zone plan kit f b
zone_of plan kit f (DriverAt b r) place = front_zone plan kit f b
zone_of plan kit f (PrechargeAt b c) place = column_zone plan kit f b c
zone_of plan kit f (WriteAt b i) place = slice_zone plan kit f b i
zone_of plan kit f (SenseAt b i) place = slice_zone plan kit f b i
zone_of plan kit f (MuxAt b c) place = column_zone plan kit f b c
zone_of plan kit f (TieAt b c) place = column_zone plan kit f b c
zone_of plan kit f (LogicAt cell) place = zone place.at.x (place.at.x +ℤ pos (kit.width (role plan (LogicAt cell)))) (pos 0) (pos (kit.height Inv))

-- leaf cells that fit into their zones
pub record FitsZones (plan : Organization) (kit : LayoutKit) : Type 0 where
  pub gate : kit.height (row_gate plan.groups) ≡ kit.height Bitcell
  pub driver : kit.height Driver ≡ kit.height Bitcell
  pub precharge : kit.width Precharge ≡ kit.width Bitcell
  pub mux : kit.width Mux ≡ kit.width Bitcell
  pub tie : kit.width Tie ≡ kit.width Bitcell
  pub sense : kit.width Sense ≤ words_per_row plan * kit.width Bitcell
  pub write : kit.width Write ≤ words_per_row plan * kit.width Bitcell
  pub logic : (cell : LogicCell) → kit.height (role plan (LogicAt cell)) ≡ kit.height Inv

-- the rectangle passes a cell of these sides by so much at most
pub record PassesAtMost (by : ℤ) (width height : ℕ) (r : Rect) : Type 0 where
  pub left : pos 0 ≤ℤ (r.x1 +ℤ by)
  pub right : r.x2 ≤ℤ (pos width +ℤ by)
  pub low : pos 0 ≤ℤ (r.y1 +ℤ by)
  pub high : r.y2 ≤ℤ (pos height +ℤ by)

-- so do all shapes of the leaf cells
abbrev pub AllPassAtMost : ℤ → (List ℕ → Shape → Type 0) → Organization → LayoutKit → BitCells → Type 0
AllPassAtMost by Flat plan kit bits = (leaf : LeafInstance) (s : Shape) → HasLeafInstance plan leaf → Flat (leaf_cell plan kit bits leaf) s → PassesAtMost by (kit.width (role plan leaf)) (kit.height (role plan leaf)) s.rect

-- Rules reach no further from a leaf cell than a bitcell or a flip-flop is wide, a channel of one track is high, and an inverter and a
-- gate are wide together.
pub record ReachesNeighboursOnly (kit : LayoutKit) (wire : Wire) (reach : ℤ) : Type 0 where
  pub some : pos 1 ≤ℤ reach
  pub bitcell : reach ≤ℤ pos (kit.width Bitcell)
  pub dff : reach ≤ℤ pos (kit.width Dff)
  pub wires : reach ≤ℤ (wire.space +ℤ pitch wire)
  pub nand2 : reach ≤ℤ (pos (kit.width Inv) +ℤ pos (kit.width Nand2))
  pub nand3 : reach ≤ℤ (pos (kit.width Inv) +ℤ pos (kit.width Nand3))
