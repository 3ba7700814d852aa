-- Zones around which the leaf instances of two memories stand alike.
use Rattle.std.specs.Prelude.{ℕ, ◌*◌, ◌≤◌, ℤ, ◌-ℤ◌, List}
use Rattle.or_geom.specs.declared.place.Place.{Place}
use Rattle.tech_rules.specs.declared.tech.Wire.{Wire}
use Rattle.tech_rules.specs.Facts.{AreSizes}
use Rattle.sram_netlist.specs.Organization.{Organization, IsWritten, columns_of, words_per_row}
use Rattle.sram_netlist.specs.Instances.{LeafInstance}
use Rattle.sram_netlist.specs.Membership.{HasLeafInstance}
use Rattle.sram_netlist.specs.Netlist.{role}
use Rattle.sram_netlist.specs.BitCells.{BitCells, Alike}
use Rattle.macro_layout.specs.LayoutKit.{LayoutKit}
use Rattle.macro_layout.specs.Places.{Floorplan, IsPlaceOf, bank_x, column_x, leaf_cell}
use Rattle.macro_layout.specs.Floorplan.{Tracks, IsFloorplan}
use Rattle.good_places.specs.Beside.{AreAtOneEdge, HaveOneLeftPart, StandsMoved}
use Rattle.good_places.specs.Columns.{right_of, up_of}
use Rattle.good_places.specs.Leaves.{Zone, AreNearZones, zone_of, column_zone, front_zone, slice_zone, FitsZones, ReachesNeighboursOnly}

-- each instance of the other memory near its zone stands, so much further right and up, in this memory
abbrev pub MovesNear : ℤ → Organization → Floorplan → Zone → Organization → Floorplan → LayoutKit → BitCells → ℤ → ℤ → Type 0
MovesNear reach other g near plan f kit bits dx dy = (leaf : LeafInstance) (place : Place) → HasLeafInstance other leaf → IsPlaceOf other kit g leaf place → AreNearZones reach (zone_of other kit g leaf place) near
    → StandsMoved plan kit bits f dx dy (role other leaf) (leaf_cell other kit bits leaf) place

-- a memory of the kit on its floorplan, in which there is a track in each channel
pub record IsLaid (plan : Organization) (kit : LayoutKit) (wire : Wire) (f : Floorplan) : Type 0 where
  pub tracks : Tracks
  pub stands : IsFloorplan plan kit wire tracks f
  pub fits : FitsZones plan kit
  pub sizes : AreSizes wire
  pub main : 1 ≤ tracks.main
  pub column : 1 ≤ tracks.column
  pub written : IsWritten plan

-- What stands near a column stands near a column of another memory, and what stands near the front of a bank's rows near that of another's.
abbrev pub ColumnsAreNearAlike : Type 0
ColumnsAreNearAlike = (plan other : Organization) (kit : LayoutKit) (bit : List ℕ) (wire : Wire) (f g : Floorplan) (reach : ℤ) → HaveOneLeftPart plan other → IsLaid plan kit wire f → IsLaid other kit wire g → ReachesNeighboursOnly kit wire reach
    → (b c d : ℕ) → AreAtOneEdge (columns_of plan) c (columns_of other) d
    → MovesNear reach other g (column_zone other kit g b d) plan f kit (Alike bit) (right_of plan kit f other g b c d) (up_of f g)

abbrev pub FrontsAreNearAlike : Type 0
FrontsAreNearAlike = (plan other : Organization) (kit : LayoutKit) (bit : List ℕ) (wire : Wire) (f g : Floorplan) (reach : ℤ) → HaveOneLeftPart plan other → IsLaid plan kit wire f → IsLaid other kit wire g → ReachesNeighboursOnly kit wire reach
    → (b : ℕ) → AreAtOneEdge (columns_of plan) 0 (columns_of other) 0
    → MovesNear reach other g (front_zone other kit g b) plan f kit (Alike bit) (right_of plan kit f other g b 0 0) (up_of f g)

-- What stands near a slice stands near a slice of another memory.
abbrev pub slice_right_of : Organization → LayoutKit → Floorplan → Organization → Floorplan → ℕ → ℕ → ℕ → ℤ
slice_right_of plan kit f other g b i j = bank_x f b (column_x plan kit f (i * words_per_row plan)) -ℤ bank_x g b (column_x other kit g (j * words_per_row other))

abbrev pub SlicesAreNearAlike : Type 0
SlicesAreNearAlike = (plan other : Organization) (kit : LayoutKit) (bit : List ℕ) (wire : Wire) (f g : Floorplan) (reach : ℤ) → HaveOneLeftPart plan other → IsLaid plan kit wire f → IsLaid other kit wire g → ReachesNeighboursOnly kit wire reach
    → (b i j : ℕ) → AreAtOneEdge plan.word_size i other.word_size j
    → MovesNear reach other g (slice_zone other kit g b j) plan f kit (Alike bit) (slice_right_of plan kit f other g b i j) (f.write_y -ℤ g.write_y)
