-- Zones of one kind in two memories: where they are first, last or last but one of what stands side by side, both are.
use Rattle.std.specs.Prelude.{◌≡◌, ◌⊎◌, ◌<◌, ℕ, ℤ, List, ◌∷◌, ◌++◌}
use Rattle.sram_netlist.specs.Organization.{Organization, columns_of, banks_of}
use Rattle.sram_netlist.specs.Instances.{LogicCell}
use Rattle.sram_netlist.specs.Netlist.{logic_role}
use Rattle.macro_layout.specs.LayoutKit.{LayoutKit}
use Rattle.macro_layout.specs.Places.{Floorplan}
use Rattle.good_places.specs.Beside.{AreAtOneEdge, AreNextToLast}
use Rattle.good_places.specs.Leaves.{Zone, column_zone, front_zone, slice_zone}
use Rattle.good_places.specs.Row.{roles_of, AreAlikeParts, IsGuarded, cell_zone, behind}

-- columns of one bank
pub record AreColumns (plan other : Organization) (kit : LayoutKit) (f g : Floorplan) (here there : Zone) : Type 0 where
  pub bank : ℕ
  pub below : bank < banks_of plan
  pub c : ℕ
  pub d : ℕ
  pub edge : AreAtOneEdge (columns_of plan) c (columns_of other) d
  pub next : AreNextToLast (columns_of plan) c (columns_of other) d
  pub here_is : here ≡ column_zone plan kit f bank c
  pub there_is : there ≡ column_zone other kit g bank d

-- the fronts of one bank's rows
pub record AreFronts (plan other : Organization) (kit : LayoutKit) (f g : Floorplan) (here there : Zone) : Type 0 where
  pub bank : ℕ
  pub below : bank < banks_of plan
  pub edge : AreAtOneEdge (columns_of plan) 0 (columns_of other) 0
  pub here_is : here ≡ front_zone plan kit f bank
  pub there_is : there ≡ front_zone other kit g bank

-- slices of one bank
pub record AreSlices (plan other : Organization) (kit : LayoutKit) (f g : Floorplan) (here there : Zone) : Type 0 where
  pub bank : ℕ
  pub below : bank < banks_of plan
  pub i : ℕ
  pub j : ℕ
  pub edge : AreAtOneEdge plan.word_size i other.word_size j
  pub next : AreNextToLast plan.word_size i other.word_size j
  pub here_is : here ≡ slice_zone plan kit f bank i
  pub there_is : there ≡ slice_zone other kit g bank j

-- cells of the logic rows at one place of parts that are guarded
pub record AreRowCells (reach : ℤ) (plan other : Organization) (kit : LayoutKit) (f g : Floorplan) (here there : Zone) : Type 0 where
  pub front : List LogicCell
  pub before : List LogicCell
  pub after : List LogicCell
  pub back : List LogicCell
  pub front2 : List LogicCell
  pub before2 : List LogicCell
  pub after2 : List LogicCell
  pub back2 : List LogicCell
  pub cell : LogicCell
  pub cell2 : LogicCell
  pub parts : AreAlikeParts plan other front (before ++ (cell ∷ after)) back front2 (before2 ++ (cell2 ∷ after2)) back2
  pub roles : roles_of plan before ≡ roles_of other before2
  pub role : logic_role plan cell ≡ logic_role other cell2
  pub guarded : IsGuarded reach plan kit front before after back
  pub guarded2 : IsGuarded reach other kit front2 before2 after2 back2
  pub here_is : here ≡ cell_zone plan kit (behind plan kit f (front ++ before)) cell
  pub there_is : there ≡ cell_zone other kit (behind other kit g (front2 ++ before2)) cell2

abbrev pub AreOfOneKind : ℤ → Organization → Organization → LayoutKit → Floorplan → Floorplan → Zone → Zone → Type 0
AreOfOneKind reach plan other kit f g here there =
    AreColumns plan other kit f g here there ⊎ (AreFronts plan other kit f g here there ⊎ (AreSlices plan other kit f g here there ⊎ AreRowCells reach plan other kit f g here there))
