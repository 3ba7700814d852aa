use Rattle.std.proofs.Common.{◌≡◌, ◌++◌, ◌+◌, ◌-◌, map}
use Rattle.sram_netlist.specs.Organization.{Organization}
use Rattle.sram_netlist.specs.Netlist.{picks}
use Rattle.sram_netlist.specs.Names.{net_name}
use Rattle.row_decoder.proofs.lines.add_picks.Given as goal

abbrev pub invariant-loop-bit : goal.invariant-loop-bit
invariant-loop-bit l = (plan : Organization) → l.nodes ++ map (net_name plan) (picks (l.low + l.bit) (l.bits - l.bit) l.rest) ≡ l.fn.nodes ++ map (net_name plan) (picks l.low l.bits l.number)
