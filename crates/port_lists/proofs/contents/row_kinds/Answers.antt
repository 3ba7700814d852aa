-- Rows with fixed bits are told apart, all of them.
use Rattle.std.proofs.Common.{ap, sym, ◌∙◌}
use Rattle.sram_netlist.specs.BitCells.{row_kinds}
use Rattle.sram_netlist.specs.Organization.{bank_rows}
use Rattle.sram_plan.specs.PlanNumbers.{numbers_of, organization}
use Rattle.port_lists.specs.declared.contents.Contents.{Contents}
use Rattle.port_lists.specs.Contents.{bit_cells}
use Rattle.port_lists.proofs.NumberLaws.{rows_are}
use Rattle.port_lists.proofs.contents.row_kinds.Goals as goal

pub returns-in-Fixed : goal.returns-in-Fixed
returns-in-Fixed c roles =
    let plan = organization c.args.plan.now in
    rows_are (numbers_of c.args.plan.now) c.requires ∙ sym (ap (λ (x : Contents). row_kinds (bit_cells roles plan x) (bank_rows plan)) c.in-Fixed.is)
