-- The subcircuits of the demonstration kit: a role's ports, and nothing inside.
use Rattle.std.specs.Prelude.{List, [], map}
use Rattle.netlist.specs.declared.deck.Subckt.{Subckt}
use Rattle.cell_roles.specs.declared.role.Role.{Role}
use Rattle.cell_roles.specs.Roles.{all_roles, role_ports}
use Rattle.demo_kit.specs.CellNames.{demo_cell_name}

abbrev pub cell_subckt : Role → Subckt
cell_subckt role = record { name = demo_cell_name role; ports = role_ports role; instances = []; raw = [] }

unfoldable pub demo_subckts : List Subckt
demo_subckts = map cell_subckt all_roles
