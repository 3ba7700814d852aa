use Rattle.std.proofs.Common.{◌≡◌, ◌+◌, ◌*◌, ◌≤◌, length}
use Rattle.std.specs.List.{AllByRecursion}
use Rattle.sram_netlist.specs.Organization.{IsGroupSize}
use Rattle.macro_layout.specs.Floorplan.{line_count}
use Rattle.row_decoder.proofs.rows.line_count.Given as goal

abbrev pub invariant-loop-bits : goal.invariant-loop-bits
invariant-loop-bits l = record {
  count : l.count + line_count l.rest ≡ line_count l.groups;
  few : l.count + 8 * length l.rest ≤ 24;
  sizes : AllByRecursion IsGroupSize l.rest;
}

abbrev pub decreases-loop-bits : goal.decreases-loop-bits
decreases-loop-bits l = length l.rest
