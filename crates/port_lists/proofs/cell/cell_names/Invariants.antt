use Rattle.std.proofs.Common.{◌≡◌, map, take}
use Rattle.port_lists.specs.Cells.{cell_in}
use Rattle.port_lists.proofs.cell.cell_names.Given as goal

abbrev pub invariant-loop-role : goal.invariant-loop-role
invariant-loop-role l = l.cells.items ≡ map (cell_in l.names) (take l.role-index l.roles)
