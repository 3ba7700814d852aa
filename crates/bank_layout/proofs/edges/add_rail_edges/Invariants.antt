use Rattle.std.proofs.Common.{◌≡◌, ◌++◌}
use Rattle.sram_netlist.specs.InstanceList.{tabulate}
use Rattle.bank_layout.specs.BankEdges.{rail_edge}
use Rattle.bank_layout.proofs.edges.add_rail_edges.Given as goal

abbrev pub invariant-loop-rail : goal.invariant-loop-rail
invariant-loop-rail l = l.edges.items ≡ l.fn.edges.items ++ tabulate l.rail (rail_edge l.wire l.ports)
