use Rattle.std.proofs.Common.{◌≡◌, ◌++◌, ◌+◌, ◌*◌, ◌≤◌, ℕ, length, map}
use Rattle.std.specs.List.{AllByRecursion}
use Rattle.sram_netlist.specs.Organization.{IsGroupSize}
use Rattle.sram_netlist.specs.Names.{line_kind, line_kind_in}
use Rattle.sram_netlist.specs.InstanceList.{groups_gates}
use Rattle.sram_plan.specs.PlanNumbers.{organization}
use Rattle.row_decoder.specs.Gates.{logic_gate}
use Rattle.port_lists.specs.Cells.{cell_in}
use Rattle.row_decoder.proofs.decoder.add_group_lines.Given as goal

abbrev pub invariant-loop-bits : goal.invariant-loop-bits
invariant-loop-bits l = record {
  gates : l.row.items ++ map (logic_gate (organization l.plan) (cell_in l.roles)) (groups_gates l.rest l.low) ≡ l.fn.row.items ++ map (logic_gate (organization l.plan) (cell_in l.roles)) (groups_gates l.groups l.plan.col_bits);
  kinds : (o : ℕ) → l.low ≤ o → line_kind (organization l.plan) o ≡ line_kind_in l.rest l.low l.group o;
  sizes : AllByRecursion IsGroupSize l.rest;
  group : l.group + length l.rest ≤ 3;
  low : l.low ≤ 3 + 3 * l.group;
}

abbrev pub decreases-loop-bits : goal.decreases-loop-bits
decreases-loop-bits l = length l.rest
