-- The taps of a memory's rows: where the inputs of a row's gate and the enable of its driver join their rails.
use Rattle.std.specs.Prelude.{◌≡◌, ℕ, ◌+◌, ◌%◌, ◌==◌, ℤ, pos, ◌+ℤ◌, ◌*ℤ◌, List, [], ◌∷◌, ◌++◌, cond, slice_get, Some}
use Rattle.std.specs.Int.{int_max, int_min}
use Rattle.or_geom.specs.declared.shape.Point.{Point}
use Rattle.or_geom.specs.declared.shape.Rect.{Rect}
use Rattle.or_geom.specs.declared.place.Place.{Place}
use Rattle.or_geom.specs.Place.{placed, low_corner, high_corner}
use Rattle.cell_roles.specs.declared.role.Role.TheVariants.{Bitcell, Driver}
use Rattle.wire_drawing.specs.declared.route.Tap.{Tap}
use Rattle.sram_netlist.specs.Organization.{Organization, power_of_two, bank_rows}
use Rattle.sram_netlist.specs.Netlist.{low_bits, high_bits, row_gate}
use Rattle.sram_netlist.specs.InstanceList.{tabulate_lists}
use Rattle.leaf_shapes.specs.declared.pins.LeafPin.{LeafPin}
use Rattle.leaf_tables.specs.declared.kit.Leaf.{Leaf}
use Rattle.leaf_tables.specs.Alignment.{leaf_in, height_in}
use Rattle.macro_layout.specs.Places.{upright, mirrored_at}
use Rattle.macro_layout.specs.Floorplan.{line_count}

abbrev pub corner_at : ℤ → ℤ → Point
corner_at x y = record { x = x; y = y }

-- the lower end and the right end of a cell's rectangle, as the cell is placed
abbrev pub lower_end : Place → Rect → ℤ
lower_end place r = int_min (placed place (low_corner r)).y (placed place (high_corner r)).y

abbrev pub right_end : Place → Rect → ℤ
right_end place r = int_max (placed place (low_corner r)).x (placed place (high_corner r)).x

-- a pin's tap: at the pin's lower end, and from the rail to the pin's right end
abbrev pub pin_tap : ℕ → Place → LeafPin → Tap
pin_tap rail place pin = record { rail = rail; y = lower_end place pin.rect; end = right_end place pin.rect }

-- The place of a cell of row r, where rows are so high and row 0 begins at the corner: an even row stands upright, an odd one
-- mirrored.
abbrev pub row_place : ℤ → Point → ℕ → Place
row_place height corner r = cond (r % 2 == 0) (upright corner.x (corner.y +ℤ (pos r *ℤ height))) (mirrored_at corner.x (corner.y +ℤ (pos (r + 1) *ℤ height)))

-- what the taps of a row take of its leaf cells: the pins of the gate, of which the inputs are the first; the driver's enable;
-- the gate's width, behind which the driver stands; and the height of a row
pub record RowLeaves : Type 0 where
  pub inputs : List LeafPin
  pub enable : LeafPin
  pub gate_width : ℤ
  pub height : ℤ

abbrev pub row_leaves_of : Leaf → LeafPin → ℤ → RowLeaves
row_leaves_of gate enable height = record { inputs = gate.pins; enable = enable; gate_width = gate.width; height = height }

-- The taps of the inputs of a row's gate, one a group: each on the rail of the group's line that is the row's. The lines of the
-- groups before these have the rails below the given one. (Where pins run out there are no more taps; a kit's gate has an input
-- for each group.)
abbrev pub input_taps : Place → List LeafPin → List ℕ → ℕ → ℕ → List Tap
input_taps place pins [] rail r = []
input_taps place [] (b ∷ bs) rail r = []
input_taps place (p ∷ ps) (b ∷ bs) rail r = pin_tap (rail + low_bits b r) place p ∷ input_taps place ps bs (rail + power_of_two b) (high_bits b r)

-- the taps of row r: the inputs, and then the driver's enable on the rail behind those of all lines
abbrev pub row_taps : List ℕ → RowLeaves → Point → ℕ → List Tap
row_taps groups leaves corner r =
    input_taps (row_place leaves.height corner r) leaves.inputs groups 0 r
    ++ pin_tap (line_count groups) (row_place leaves.height (corner_at (corner.x +ℤ leaves.gate_width) corner.y) r) leaves.enable ∷ []

-- these are the leaf cells of a row over the groups (the driver's pins are its input, its enable and others)
pub record AreRowLeaves (kit : List Leaf) (groups : List ℕ) (leaves : RowLeaves) : Type 0 where
  pub gate : Leaf
  pub is_gate : leaf_in kit (row_gate groups) ≡ Some gate
  pub inputs : leaves.inputs ≡ gate.pins
  pub gate_width : leaves.gate_width ≡ gate.width
  pub driver : Leaf
  pub is_driver : leaf_in kit Driver ≡ Some driver
  pub enable : slice_get driver.pins 1 ≡ Some leaves.enable
  pub height : height_in kit Bitcell ≡ Some leaves.height

-- the taps of all rows, row by row, where the gate of row 0 has its lower left corner here
pub record AreTapsOfRows (kit : List Leaf) (plan : Organization) (corner : Point) (taps : List Tap) : Type 0 where
  pub leaves : RowLeaves
  pub of : AreRowLeaves kit plan.groups leaves
  pub are : taps ≡ tabulate_lists (bank_rows plan) (row_taps plan.groups leaves corner)
