-- An instance of a memory and one of a small memory that stands for it.
use Rattle.std.specs.Prelude.{◌≡◌, ℕ, ◌*◌, ℤ, pos, ◌-ℤ◌, ◌*ℤ◌}
use Rattle.or_geom.specs.declared.place.Place.{Place}
use Rattle.sram_netlist.specs.Organization.{Organization, words_per_row}
use Rattle.sram_netlist.specs.Instances.{LeafInstance, BitAt, NandAt, DriverAt, PrechargeAt, WriteAt, SenseAt, MuxAt, TieAt, LogicAt}
use Rattle.sram_netlist.specs.Membership.{HasLeafInstance}
use Rattle.sram_netlist.specs.Netlist.{role}
use Rattle.macro_layout.specs.LayoutKit.{LayoutKit}
use Rattle.macro_layout.specs.Places.{Floorplan, IsPlaceOf, bit_width}
use Rattle.macro_layout.specs.Floorplan.{Tracks}
use Rattle.moved_nets.specs.Moved.{slice_leaf, IsInSlices}
use Rattle.good_places.specs.Beside.{moved_place}
use Rattle.good_places.specs.Windows.{with_bits}
use Rattle.kit_nets.specs.StatedParts.{Source}

-- the source's kit and cells, with a word of so many bits, on this floorplan
abbrev pub window_source : Source → ℕ → ℕ → ℕ → Tracks → Floorplan → Source
window_source s word write masks tracks floorplan = record { layers = s.layers; structs = s.structs; plan = with_bits s.plan word write masks; kit = s.kit; bits = s.bits; wire = s.wire; tracks = tracks; floorplan = floorplan; lists = s.lists }

-- Instances of columns, in front of them, and of slices

abbrev pub IsOfColumns : LeafInstance → Type 0
IsOfColumns (BitAt b r c) = Unit {0}
IsOfColumns (PrechargeAt b c) = Unit {0}
IsOfColumns (MuxAt b c) = Unit {0}
IsOfColumns (TieAt b c) = Unit {0}
IsOfColumns leaf = ⊥

abbrev pub IsOfFronts : LeafInstance → Type 0
IsOfFronts (NandAt b r) = Unit {0}
IsOfFronts (DriverAt b r) = Unit {0}
IsOfFronts leaf = ⊥

abbrev pub IsOfSlices : LeafInstance → Type 0
IsOfSlices (WriteAt b i) = Unit {0}
IsOfSlices (SenseAt b i) = Unit {0}
IsOfSlices leaf = ⊥

abbrev pub leaf_bank : LeafInstance → ℕ
leaf_bank (BitAt b r c) = b
leaf_bank (NandAt b r) = b
leaf_bank (DriverAt b r) = b
leaf_bank (PrechargeAt b c) = b
leaf_bank (WriteAt b i) = b
leaf_bank (SenseAt b i) = b
leaf_bank (MuxAt b c) = b
leaf_bank (TieAt b c) = b
leaf_bank (LogicAt cell) = 0

-- its column or its slice
abbrev pub number_of : LeafInstance → ℕ
number_of (BitAt b r c) = c
number_of (PrechargeAt b c) = c
number_of (WriteAt b i) = i
number_of (SenseAt b i) = i
number_of (MuxAt b c) = c
number_of (TieAt b c) = c
number_of leaf = 0

-- how much further right what is so many slices before stands in the other memory's bank, and how much further up
abbrev pub right_by : Organization → LayoutKit → Floorplan → Floorplan → ℕ → ℕ → ℤ
right_by plan kit f g b m = ((pos b *ℤ g.bank_width) -ℤ (pos b *ℤ f.bank_width)) -ℤ pos ((m * words_per_row plan) * bit_width kit)

abbrev pub columns_up : Floorplan → Floorplan → ℤ
columns_up f g = g.column_y -ℤ f.column_y

abbrev pub slices_up : Floorplan → Floorplan → ℤ
slices_up f g = g.write_y -ℤ f.write_y

-- the instance of the other memory, so many slices before, stands for this one
pub record IsCounterpart (plan : Organization) (kit : LayoutKit) (g : Floorplan) (word write masks m : ℕ) (dx dy : ℤ) (leaf : LeafInstance) (place : Place) : Type 0 where
  pub there : LeafInstance
  pub has : HasLeafInstance (with_bits plan word write masks) there
  pub inside : IsInSlices there
  pub is : leaf ≡ slice_leaf plan m there
  pub stands : IsPlaceOf (with_bits plan word write masks) kit g there (moved_place dx dy place)
  pub same_role : role (with_bits plan word write masks) there ≡ role plan leaf
