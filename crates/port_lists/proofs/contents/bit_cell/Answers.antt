-- The word of the row and the choice, and the column's bit of it.
use Rattle.std.proofs.Common.{ℕ, ◌+◌, ◌*◌, ◌/◌, ◌%◌, ap, sym, subst, ◌∙◌}
use Rattle.std.specs.Prelude.{slice_index}
use Rattle.sram_netlist.specs.BitCells.{bit_cell}
use Rattle.sram_netlist.specs.Netlist.{lowest_bit, high_bits}
use Rattle.sram_netlist.specs.Organization.{bank_rows}
use Rattle.sram_plan.specs.PlanNumbers.{numbers_of, organization}
use Rattle.port_lists.specs.declared.contents.Contents.{Contents}
use Rattle.port_lists.specs.Cells.{fixed_cell_in}
use Rattle.port_lists.specs.Contents.{IsContents, bit_cells}
use Rattle.port_lists.proofs.NumberLaws.{words_are}
use Rattle.port_lists.proofs.BitLaws.{place_below}
use Rattle.port_lists.proofs.contents.bit_cell.Goals as goal

pub bounds-words-row : goal.bounds-words-row
bounds-words-row c =
    let plan = organization c.args.plan.now in
    let words = subst (λ (x : Contents). IsContents plan x) c.in-Fixed.is c.requires.contents in
    let wpr = words_are (numbers_of c.args.plan.now) c.requires.numbers in
    place_below (bank_rows plan) c.args.plan.now.wpr c.args.plan.now.col_bits c.args.row c.args.column _ wpr c.requires.row words

pub returns-in-Fixed : goal.returns-in-Fixed
returns-in-Fixed c =
    let plan = organization c.args.plan.now in
    let wpr = words_are (numbers_of c.args.plan.now) c.requires.numbers in
    let at = λ (w : ℕ). lowest_bit (high_bits (c.args.column / w) (slice_index c.in-Fixed.words.now (c.args.row * w + c.args.column % w))) in
    c.fixed_cell_of.ensures ∙ ap (fixed_cell_in c.args.roles.now) (c.has_bit.ensures ∙ ap at wpr)
    ∙ sym (ap (λ (x : Contents). bit_cell (bit_cells c.args.roles.now plan x) c.args.row c.args.column) c.in-Fixed.is)
