-- Zones of two memories around which leaf instances stand alike: of columns, of the fronts of a bank's rows, of slices, and of cells of the
-- logic row.
use Rattle.std.specs.Prelude.{ℕ, ◌≡◌, ℤ, List, ◌∷◌, ◌++◌}
use Rattle.tech_rules.specs.declared.tech.Wire.{Wire}
use Rattle.sram_netlist.specs.Organization.{Organization, columns_of}
use Rattle.sram_netlist.specs.Instances.{LogicCell}
use Rattle.sram_netlist.specs.Netlist.{logic_role}
use Rattle.sram_netlist.specs.BitCells.{Alike}
use Rattle.macro_layout.specs.LayoutKit.{LayoutKit}
use Rattle.macro_layout.specs.Places.{Floorplan}
use Rattle.good_places.specs.Beside.{AreAtOneEdge, HaveOneLeftPart}
use Rattle.good_places.specs.Leaves.{column_zone, front_zone, slice_zone, ReachesNeighboursOnly}
use Rattle.good_places.specs.Zones.{IsLaid}
use Rattle.good_places.specs.Row.{roles_of, AreAlikeParts, IsGuarded, cell_zone, behind}
use Rattle.good_places.specs.Seen.{AreAlikeZones}

abbrev pub ColumnsAreAlikeZones : Type 0
ColumnsAreAlikeZones = (plan other : Organization) (kit : LayoutKit) (bit : List ℕ) (wire : Wire) (f g : Floorplan) (reach : ℤ) → HaveOneLeftPart plan other → IsLaid plan kit wire f → IsLaid other kit wire g → ReachesNeighboursOnly kit wire reach
    → (b c d : ℕ) → AreAtOneEdge (columns_of plan) c (columns_of other) d → AreAlikeZones reach plan other kit (Alike bit) f g (column_zone plan kit f b c) (column_zone other kit g b d)

abbrev pub FrontsAreAlikeZones : Type 0
FrontsAreAlikeZones = (plan other : Organization) (kit : LayoutKit) (bit : List ℕ) (wire : Wire) (f g : Floorplan) (reach : ℤ) → HaveOneLeftPart plan other → IsLaid plan kit wire f → IsLaid other kit wire g → ReachesNeighboursOnly kit wire reach
    → (b : ℕ) → AreAtOneEdge (columns_of plan) 0 (columns_of other) 0 → AreAlikeZones reach plan other kit (Alike bit) f g (front_zone plan kit f b) (front_zone other kit g b)

abbrev pub SlicesAreAlikeZones : Type 0
SlicesAreAlikeZones = (plan other : Organization) (kit : LayoutKit) (bit : List ℕ) (wire : Wire) (f g : Floorplan) (reach : ℤ) → HaveOneLeftPart plan other → IsLaid plan kit wire f → IsLaid other kit wire g → ReachesNeighboursOnly kit wire reach
    → (b i j : ℕ) → AreAtOneEdge plan.word_size i other.word_size j → AreAlikeZones reach plan other kit (Alike bit) f g (slice_zone plan kit f b i) (slice_zone other kit g b j)

-- the cells at one place of the parts, which are guarded in both rows
abbrev pub CellsAreAlikeZones : Type 0
CellsAreAlikeZones = (plan other : Organization) (kit : LayoutKit) (bit : List ℕ) (wire : Wire) (f g : Floorplan) (reach : ℤ) → IsLaid plan kit wire f → IsLaid other kit wire g → ReachesNeighboursOnly kit wire reach
    → (front before after back front2 before2 after2 back2 : List LogicCell) (cell cell2 : LogicCell) → AreAlikeParts plan other front (before ++ (cell ∷ after)) back front2 (before2 ++ (cell2 ∷ after2)) back2
    → roles_of plan before ≡ roles_of other before2 → logic_role plan cell ≡ logic_role other cell2 → IsGuarded reach plan kit front before after back → IsGuarded reach other kit front2 before2 after2 back2
    → AreAlikeZones reach plan other kit (Alike bit) f g (cell_zone plan kit (behind plan kit f (front ++ before)) cell) (cell_zone other kit (behind other kit g (front2 ++ before2)) cell2)
