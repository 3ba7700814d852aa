-- The gates of the logic row, each with its role. `cell` is the name of a role's cell.
use Rattle.std.specs.Prelude.{ℕ, List, ◌++◌}
use Rattle.cell_roles.specs.declared.role.Role.{Role}
use Rattle.cell_roles.specs.Roles.{supplies}
use Rattle.sram_netlist.specs.Organization.{Organization}
use Rattle.sram_netlist.specs.Instances.{LogicCell}
use Rattle.sram_netlist.specs.Netlist.{logic_role}
use Rattle.sram_deck.specs.Deck.{subckt_instance, logic_cell}
use Rattle.row_decoder.specs.declared.gate.LogicGate.{LogicGate}

-- a gate by its role, its name and its nodes before the supplies
abbrev pub gate_of_role : (Role → List ℕ) → Role → List ℕ → List (List ℕ) → LogicGate
gate_of_role cell role name nodes = record { role = role; instance = subckt_instance name (nodes ++ supplies) (cell role) }

-- that of a logic cell of the netlist
abbrev pub logic_gate : Organization → (Role → List ℕ) → LogicCell → LogicGate
logic_gate plan cell c = record { role = logic_role plan c; instance = logic_cell plan cell c }
