-- Small memories in which all that stands side by side in a memory stands too.
use Rattle.std.specs.Prelude.{◌≡◌, ◌⊎◌, ℕ, ◌<◌, ◌≤◌, ℤ, List}
use Rattle.or_geom.specs.declared.place.Place.{Place}
use Rattle.tech_rules.specs.declared.tech.Wire.{Wire}
use Rattle.sram_netlist.specs.Organization.{Organization}
use Rattle.sram_netlist.specs.Instances.{LeafInstance}
use Rattle.sram_netlist.specs.Membership.{HasLeafInstance}
use Rattle.sram_netlist.specs.BitCells.{Alike}
use Rattle.macro_layout.specs.LayoutKit.{LayoutKit}
use Rattle.macro_layout.specs.Places.{Floorplan, IsPlaceOf}
use Rattle.good_places.specs.Leaves.{Zone, zone_of, ReachesNeighboursOnly}
use Rattle.good_places.specs.Zones.{IsLaid}
use Rattle.good_places.specs.Seen.{AreAlikeZones}
use Rattle.good_places.specs.Kinds.{AreOfOneKind}

-- the same memory with so many bits in a word, which are written in so many at a time
abbrev pub with_bits : Organization → ℕ → ℕ → ℕ → Organization
with_bits plan word write masks = record { word_size = word; write_size = write; masks = masks; bank_bits = plan.bank_bits; col_bits = plan.col_bits; groups = plan.groups }

-- One to four bits, all of which are written at once; or three that are written one by one.
abbrev pub IsWindowOf : Organization → Organization → Type 0
IsWindowOf plan other = ((k : ℕ) × (1 ≤ k) × (k ≤ 4) × (other ≡ with_bits plan k k 0)) ⊎ (other ≡ with_bits plan 3 1 3)

-- words have bits, which are written, and masks are none or at least two
pub record IsWrittenPlan (plan : Organization) : Type 0 where
  pub words : 0 < plan.word_size
  pub written : 0 < plan.write_size
  pub masks : (plan.masks ≡ 0) ⊎ (2 ≤ plan.masks)

-- a window of the memory, in which, on each of its floorplans, instances stand around some zone of this one's kind as around this one
pub record HasWindow (reach : ℤ) (plan : Organization) (kit : LayoutKit) (bit : List ℕ) (wire : Wire) (f : Floorplan) (here : Zone) : Type 0 where
  pub other : Organization
  pub is : IsWindowOf plan other
  pub there : (g : Floorplan) → IsLaid other kit wire g → (zone : Zone) × AreAlikeZones reach plan other kit (Alike bit) f g here zone × AreOfOneKind reach plan other kit f g here zone

-- Each leaf instance has a window.
abbrev pub LeavesHaveWindows : Type 0
LeavesHaveWindows = (plan : Organization) (kit : LayoutKit) (bit : List ℕ) (wire : Wire) (f : Floorplan) (reach : ℤ) → IsWrittenPlan plan → IsLaid plan kit wire f → ReachesNeighboursOnly kit wire reach
    → (leaf : LeafInstance) (place : Place) → HasLeafInstance plan leaf → IsPlaceOf plan kit f leaf place → HasWindow reach plan kit bit wire f (zone_of plan kit f leaf place)
