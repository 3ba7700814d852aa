-- Where a cell stands in the logic row of a memory.
use Rattle.std.specs.Prelude.{◌≡◌, ◌⊎◌, ℕ, ◌+◌, ◌*◌, ◌<◌, ◌≤◌, ℤ, pos, ◌≤ℤ◌, List, ◌∷◌, ◌++◌}
use Rattle.cell_roles.specs.declared.role.Role.TheVariants.{Dff, Inv}
use Rattle.sram_netlist.specs.Organization.{Organization, banks_of, inputs_of}
use Rattle.sram_netlist.specs.Instances.{LogicCell, Dd, Dm, Gn, Gi}
use Rattle.sram_netlist.specs.InstanceList.{logic_cells, banks_cells}
use Rattle.sram_netlist.specs.Netlist.{enables_of}
use Rattle.sram_netlist.specs.Membership.{IsGated}
use Rattle.macro_layout.specs.LayoutKit.{LayoutKit}
use Rattle.macro_layout.specs.Places.{total_width}
use Rattle.moved_nets.specs.Moved.{Moves, moved_cell, MovesAsMask}
use Rattle.good_places.proofs.CellRowLaws.{begin_cells, enable_gate}

-- the cell stands in the row, behind cells that are so wide together
pub record IsCellAt (plan : Organization) (kit : LayoutKit) (cell : LogicCell) (x : ℕ) : Type 0 where
  pub before : List LogicCell
  pub after : List LogicCell
  pub row : logic_cells plan ≡ before ++ (cell ∷ after)
  pub at : x ≡ total_width plan kit before

-- the same in a part of a row that begins there
pub record IsInPart (plan : Organization) (kit : LayoutKit) (part : List LogicCell) (start : ℕ) (cell : LogicCell) (x : ℕ) : Type 0 where
  pub before : List LogicCell
  pub after : List LogicCell
  pub row : part ≡ before ++ (cell ∷ after)
  pub at : x ≡ start + total_width plan kit before

-- where the flip-flops of data bits begin, the cells of banks, and the gates of write enables
abbrev pub data_start : Organization → LayoutKit → ℕ
data_start plan kit = total_width plan kit (begin_cells plan)

abbrev pub banks_start : Organization → LayoutKit → ℕ
banks_start plan kit = data_start plan kit + (inputs_of plan + plan.masks) * kit.width Dff

abbrev pub enables_start : Organization → LayoutKit → ℕ
enables_start plan kit = banks_start plan kit + total_width plan kit (banks_cells plan plan.bank_bits)

-- the widths of a gate of an enable, and of it with its inverter
abbrev pub enable_width : Organization → LayoutKit → ℕ
enable_width plan kit = kit.width (enable_gate plan)

abbrev pub pair_width : Organization → LayoutKit → ℕ
pair_width plan kit = enable_width plan kit + kit.width Inv

-- the flip-flop of a data bit, and of a mask
pub record IsData (plan : Organization) (kit : LayoutKit) (cell : LogicCell) (x : ℕ) : Type 0 where
  pub i : ℕ
  pub less : i < inputs_of plan
  pub is : cell ≡ Dd i
  pub at : x ≡ data_start plan kit + i * kit.width Dff

pub record IsMask (plan : Organization) (kit : LayoutKit) (cell : LogicCell) (x : ℕ) : Type 0 where
  pub m : ℕ
  pub less : m < plan.masks
  pub is : cell ≡ Dm m
  pub at : x ≡ data_start plan kit + (inputs_of plan + m) * kit.width Dff

-- the gate of an enable, or the inverter behind it
pub record IsEnable (plan : Organization) (kit : LayoutKit) (cell : LogicCell) (x : ℕ) : Type 0 where
  pub b : ℕ
  pub m : ℕ
  pub off : ℕ
  pub less_b : b < banks_of plan
  pub less : m < enables_of plan
  pub gated : IsGated plan
  pub kind : ((cell ≡ Gn b m) × (off ≡ 0)) ⊎ ((cell ≡ Gi b m) × (off ≡ enable_width plan kit))
  pub at : x ≡ enables_start plan kit + ((b * enables_of plan + m) * pair_width plan kit + off)

abbrev pub IsInRow : Organization → LayoutKit → LogicCell → ℕ → Type 0
IsInRow plan kit cell x =
    IsInPart plan kit (begin_cells plan) 0 cell x ⊎ (IsData plan kit cell x ⊎ (IsMask plan kit cell x ⊎ (IsInPart plan kit (banks_cells plan plan.bank_bits) (banks_start plan kit) cell x ⊎ IsEnable plan kit cell x)))

-- A cell of the other memory's row stands for this one, whose nets are moved so. It stands at the same place, or behind what is so wide.
pub record IsCellThere (other : Organization) (kit : LayoutKit) (least : ℕ) (moves : Moves) (c : LogicCell) (x x2 : ℕ) : Type 0 where
  pub one : LogicCell
  pub at : IsCellAt other kit one x2
  pub as_mask : MovesAsMask moves one
  pub is : c ≡ moved_cell moves one
  pub left : (x2 ≡ x) ⊎ (least ≤ x2)

-- Two cells stand in the other memory's row as they stand here, moved, and their nets move alike.
pub record AreCellsSeen (other : Organization) (kit : LayoutKit) (least : ℕ) (c d : LogicCell) (x y : ℕ) : Type 0 where
  pub moves : Moves
  pub x2 : ℕ
  pub y2 : ℕ
  pub one : IsCellThere other kit least moves c x x2
  pub two : IsCellThere other kit least moves d y y2
  pub as_far : x2 + y ≡ y2 + x

-- cells of the row with these widths are nearer than each length that leaf cells may be felt
pub record AreNearCells (reach : ℤ) (one two x y : ℕ) : Type 0 where
  pub before : (u : ℕ) → reach ≤ℤ pos u → y < (x + one) + u
  pub behind : (u : ℕ) → reach ≤ℤ pos u → x < (y + two) + u
