use Rattle.std.proofs.Common.{◌≡◌, ◌++◌, ◌+◌, length}
use Rattle.std.specs.List.{AllByRecursion}
use Rattle.sram_netlist.specs.Organization.{IsGroupSize}
use Rattle.sram_deck.specs.Deck.{row_lines_from}
use Rattle.port_lists.proofs.names.NameList.add_row_lines.Given as goal

abbrev pub invariant-loop-bits : goal.invariant-loop-bits
invariant-loop-bits l = record {
  lines : l.self ++ row_lines_from l.rest l.group l.left ≡ l.fn.self ++ row_lines_from l.groups 0 l.row;
  group : l.group + length l.rest ≡ length l.groups;
  sizes : AllByRecursion IsGroupSize l.rest;
}

abbrev pub decreases-loop-bits : goal.decreases-loop-bits
decreases-loop-bits l = length l.rest
