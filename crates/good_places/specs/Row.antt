-- Parts of the logic rows of two memories in which cells of the same roles stand.
use Rattle.std.specs.Prelude.{◌≡◌, ◌⊎◌, ℕ, ℤ, pos, ◌≤ℤ◌, ◌+ℤ◌, ◌-ℤ◌, List, [], ◌∷◌, ◌++◌, map}
use Rattle.cell_roles.specs.declared.role.Role.{Role}
use Rattle.cell_roles.specs.declared.role.Role.TheVariants.{Inv}
use Rattle.tech_rules.specs.declared.tech.Wire.{Wire}
use Rattle.sram_netlist.specs.Organization.{Organization}
use Rattle.sram_netlist.specs.Instances.{LogicCell}
use Rattle.sram_netlist.specs.InstanceList.{logic_cells}
use Rattle.sram_netlist.specs.Netlist.{logic_role}
use Rattle.sram_netlist.specs.BitCells.{Alike}
use Rattle.macro_layout.specs.LayoutKit.{LayoutKit}
use Rattle.macro_layout.specs.Places.{Floorplan, total_width}
use Rattle.good_places.specs.Leaves.{Zone, zone, ReachesNeighboursOnly}
use Rattle.good_places.specs.Zones.{IsLaid, MovesNear}

abbrev pub roles_of : Organization → List LogicCell → List Role
roles_of plan cells = map (logic_role plan) cells

-- both rows have a part in which the roles are the same
pub record AreAlikeParts (plan other : Organization) (front part back front2 part2 back2 : List LogicCell) : Type 0 where
  pub here : logic_cells plan ≡ front ++ (part ++ back)
  pub there : logic_cells other ≡ front2 ++ (part2 ++ back2)
  pub alike : roles_of plan part ≡ roles_of other part2

-- what stands in front of the part and behind it is further away than a rule reaches
pub record IsGuarded (reach : ℤ) (plan : Organization) (kit : LayoutKit) (front before after back : List LogicCell) : Type 0 where
  pub left : (front ≡ []) ⊎ (reach ≤ℤ pos (total_width plan kit before))
  pub right : (back ≡ []) ⊎ (reach ≤ℤ pos (total_width plan kit after))

-- a cell of the logic row that begins at x
abbrev pub cell_zone : Organization → LayoutKit → ℤ → LogicCell → Zone
cell_zone plan kit x cell = zone x (x +ℤ pos (kit.width (logic_role plan cell))) (pos 0) (pos (kit.height Inv))

-- where cells behind these begin
abbrev pub behind : Organization → LayoutKit → Floorplan → List LogicCell → ℤ
behind plan kit f cells = f.logic_x +ℤ pos (total_width plan kit cells)

-- What stands near a cell of a logic row stands near a cell of another.
abbrev pub CellsAreNearAlike : Type 0
CellsAreNearAlike = (plan other : Organization) (kit : LayoutKit) (bit : List ℕ) (wire : Wire) (f g : Floorplan) (reach : ℤ) → IsLaid plan kit wire f → IsLaid other kit wire g → ReachesNeighboursOnly kit wire reach
    → (front part back front2 before after back2 : List LogicCell) (cell : LogicCell) → AreAlikeParts plan other front part back front2 (before ++ (cell ∷ after)) back2 → IsGuarded reach other kit front2 before after back2
    → MovesNear reach other g (cell_zone other kit (behind other kit g (front2 ++ before)) cell) plan f kit (Alike bit) (behind plan kit f front -ℤ behind other kit g front2) (pos 0)
