-- What stands beside a column of a bank, and where a memory's cells stand as those of another.
use Rattle.std.specs.Prelude.{◌≡◌, ◌↔◌, ℕ, ◌+◌, ◌<◌, ◌≤◌, ℤ, ◌+ℤ◌, List}
use Rattle.or_geom.specs.declared.place.Place.{Place}
use Rattle.cell_roles.specs.declared.role.Role.{Role}
use Rattle.sram_netlist.specs.Netlist.{role}
use Rattle.sram_netlist.specs.Organization.{Organization}
use Rattle.sram_netlist.specs.Instances.{LeafInstance, BitAt, NandAt, DriverAt, PrechargeAt, WriteAt, SenseAt, MuxAt, TieAt}
use Rattle.sram_netlist.specs.Membership.{HasLeafInstance}
use Rattle.sram_netlist.specs.BitCells.{BitCells}
use Rattle.macro_layout.specs.LayoutKit.{LayoutKit}
use Rattle.macro_layout.specs.Places.{Floorplan, IsPlaceOf, leaf_cell}

-- the same number, or the next or the one before
pub record IsNext (c d : ℕ) : Type 0 where
  pub not_after : d ≤ c + 1
  pub not_before : c ≤ d + 1

-- In a column or next to it; and where the column is the first, the gates and drivers of the rows in front of it.
abbrev pub IsBeside : ℕ → ℕ → LeafInstance → Type 0
IsBeside b c (BitAt bank r d) = (bank ≡ b) × IsNext c d
IsBeside b c (PrechargeAt bank d) = (bank ≡ b) × IsNext c d
IsBeside b c (MuxAt bank d) = (bank ≡ b) × IsNext c d
IsBeside b c (TieAt bank d) = (bank ≡ b) × IsNext c d
IsBeside b c (NandAt bank r) = (bank ≡ b) × (c ≡ 0)
IsBeside b c (DriverAt bank r) = (bank ≡ b) × (c ≡ 0)
IsBeside b c leaf = ⊥

-- in a slice or next to it
abbrev pub IsBesideSlice : ℕ → ℕ → LeafInstance → Type 0
IsBesideSlice b i (WriteAt bank j) = (bank ≡ b) × IsNext i j
IsBesideSlice b i (SenseAt bank j) = (bank ≡ b) × IsNext i j
IsBesideSlice b i leaf = ⊥

-- of so many the one is the first or the last exactly where, of others, the other is
pub record AreAtOneEdge (count c others d : ℕ) : Type 0 where
  pub here : c < count
  pub there : d < others
  pub first : (c ≡ 0) ↔ (d ≡ 0)
  pub last : (c + 1 ≡ count) ↔ (d + 1 ≡ others)

-- of so many the one is the last but one exactly where, of others, the other is
abbrev pub AreNextToLast : ℕ → ℕ → ℕ → ℕ → Type 0
AreNextToLast count c others d = (c + 2 ≡ count) ↔ (d + 2 ≡ others)

-- memories with the same rows, words in a row and banks
pub record HaveOneLeftPart (plan other : Organization) : Type 0 where
  pub groups : other.groups ≡ plan.groups
  pub col_bits : other.col_bits ≡ plan.col_bits
  pub bank_bits : other.bank_bits ≡ plan.bank_bits

-- the place, so much further right and up
abbrev pub moved_place : ℤ → ℤ → Place → Place
moved_place dx dy place = record { orient = place.orient; at = record { x = place.at.x +ℤ dx; y = place.at.y +ℤ dy } }

-- an instance of the memory has the role and the cell, and stands so much further right and up than the place
pub record StandsMoved (plan : Organization) (kit : LayoutKit) (bits : BitCells) (floorplan : Floorplan) (dx dy : ℤ) (plays : Role) (cell : List ℕ) (place : Place) : Type 0 where
  pub leaf : LeafInstance
  pub has : HasLeafInstance plan leaf
  pub stands : IsPlaceOf plan kit floorplan leaf (moved_place dx dy place)
  pub alike : leaf_cell plan kit bits leaf ≡ cell
  pub same_role : role plan leaf ≡ plays
