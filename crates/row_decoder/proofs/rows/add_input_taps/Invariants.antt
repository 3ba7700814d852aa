use Rattle.std.proofs.Common.{◌≡◌, ◌++◌, ◌+◌, ◌*◌, ◌≤◌, length, drop}
use Rattle.std.specs.List.{AllByRecursion}
use Rattle.sram_netlist.specs.Organization.{IsGroupSize}
use Rattle.row_decoder.specs.RowTaps.{input_taps}
use Rattle.row_decoder.proofs.rows.add_input_taps.Given as goal

abbrev pub invariant-loop-bits : goal.invariant-loop-bits
invariant-loop-bits l = record {
  taps : l.taps.items ++ input_taps l.place (drop l.input l.pins) l.rest l.rail l.left ≡ l.fn.taps.items ++ input_taps l.place l.pins l.groups 0 l.row;
  few : l.rail + 8 * length l.rest ≤ 24;
  input : l.input + length l.rest ≡ length l.groups;
  sizes : AllByRecursion IsGroupSize l.rest;
}

abbrev pub decreases-loop-bits : goal.decreases-loop-bits
decreases-loop-bits l = length l.rest
