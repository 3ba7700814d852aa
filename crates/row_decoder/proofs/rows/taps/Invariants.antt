use Rattle.std.proofs.Common.{◌≡◌}
use Rattle.sram_netlist.specs.InstanceList.{tabulate_lists}
use Rattle.row_decoder.specs.RowTaps.{row_taps, row_leaves_of}
use Rattle.row_decoder.proofs.rows.taps.Given as goal

abbrev pub invariant-loop-row : goal.invariant-loop-row
invariant-loop-row l = l.taps.items ≡ tabulate_lists l.row (row_taps l.groups.items (row_leaves_of l.gate l.enable l.height) l.corner)
