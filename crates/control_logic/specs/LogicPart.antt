-- The logic row of a memory as a list of gates; what it adds: its subcircuit, beside the cell that draws it; its pins and sides.
use Rattle.std.specs.Prelude.{◌≡◌, ℕ, List, ◌++◌, map, codes}
use Rattle.cell_roles.specs.declared.role.Role.{Role}
use Rattle.cell_roles.specs.declared.role.Role.TheVariants.{Inv}
use Rattle.netlist.specs.declared.deck.Subckt.{Subckt}
use Rattle.sram_netlist.specs.Organization.{Organization, IsBuildable}
use Rattle.sram_netlist.specs.Netlist.{logic_role}
use Rattle.sram_netlist.specs.InstanceList.{logic_cells}
use Rattle.sram_deck.specs.Deck.{made_subckt, logic_ports, logic_instances}
use Rattle.leaf_tables.specs.declared.kit.Kit.{Kit}
use Rattle.port_lists.specs.Cells.{cell_in}
use Rattle.macro_layout.specs.LayoutKit.{LayoutKit}
use Rattle.macro_layout.specs.Places.{total_width}
use Rattle.macro_layout.specs.Cells.{side_by_side}
use Rattle.floorplan.specs.LayoutOfKit.{layout_kit}
use Rattle.part_edges.specs.PartPins.{PartPin, part_pins}
use Rattle.control_logic.specs.declared.row.LogicRow.{LogicRow}

-- the gates of the row are those of the netlist, in its order, and these are their roles; `cell` is the name of a role's cell
pub record IsLogicRow (plan : Organization) (cell : Role → List ℕ) (row : LogicRow) : Type 0 where
  pub gates : row.gates.items ≡ logic_instances plan cell
  pub roles : row.roles.items ≡ map (logic_role plan) (logic_cells plan)

-- it is that of some memory that can be built
abbrev pub IsRowOfMemory : (Role → List ℕ) → LogicRow → Type 0
IsRowOfMemory cell row = (plan : Organization) × IsBuildable plan × IsLogicRow plan cell row

-- the subcircuit of the logic row; `cell` is the name of a role's cell
abbrev pub logic_row_subckt : Organization → (Role → List ℕ) → List ℕ → Subckt
logic_row_subckt plan cell n = made_subckt (n ++ codes "_logic") (logic_ports plan) (logic_instances plan cell)

-- the pins of the row's cells, which stand side by side from 0 on
abbrev pub logic_pins : Kit → Organization → List PartPin
logic_pins kit plan = part_pins kit.leaves (map (logic_role plan) (logic_cells plan)) (logic_instances plan (cell_in kit.tech.roles)) (side_by_side plan (layout_kit kit) 0 (logic_cells plan))

-- the cells stand side by side, and all are as high as the inverter
abbrev pub logic_width : Organization → LayoutKit → ℕ
logic_width plan kit = total_width plan kit (logic_cells plan)

abbrev pub logic_height : LayoutKit → ℕ
logic_height kit = kit.height Inv
