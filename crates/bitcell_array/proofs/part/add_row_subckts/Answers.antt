-- A subcircuit more.
use Rattle.std.proofs.Common.{List, ap, ◌∙◌, arith}
use Rattle.port_lists.specs.Cells.{cell_in}
use Rattle.tech_rules.specs.declared.tech.RoleName.{RoleName}
use Rattle.port_lists.specs.Contents.{bit_cells}
use Rattle.port_lists.proofs.TabulateLaws.{grown_as, all_of}
use Rattle.sram_deck.specs.Deck.{row_subckt}
use Rattle.sram_netlist.specs.BitCells.{row_kinds}
use Rattle.sram_netlist.specs.Organization.{bank_rows}
use Rattle.sram_plan.specs.PlanNumbers.{organization}
use Rattle.bitcell_array.proofs.RowLaws.{row_below}
use Rattle.bitcell_array.proofs.part.add_row_subckts.Goals as goal

pub row_subckt-requires-clause-row : goal.row_subckt-requires-clause-row
row_subckt-requires-clause-row c =
    let plan = organization c.args.plan.now in
    row_below (bit_cells c.args.kit.now.tech.roles plan c.args.contents) plan c.loop-row.row _ (c.row_kinds-row-end.ensures c.args.kit.now.tech.roles) c.loop-row-test.true

pub loop-row-preserved : goal.loop-row-preserved
loop-row-preserved c =
    let plan = organization c.args.plan.now in
    let bits = bit_cells c.args.kit.now.tech.roles plan c.args.contents in
    let roles = ap (λ (rs : List RoleName). row_subckt plan (cell_in rs) (bit_cells rs plan c.args.contents) c.args.name.now c.loop-row.row) c.as_slice-roles.ensures in
    grown_as c.args.subckts.now _ _ _ c.loop-row.row (row_subckt plan (cell_in c.args.kit.now.tech.roles) bits c.args.name.now) c.loop-row.invariant c.in_ok-push.ensures.ok (c.in_ok-row_subckt.ensures ∙ roles)

pub returns : goal.returns
returns c =
    let plan = organization c.args.plan.now in
    let bits = bit_cells c.args.kit.now.tech.roles plan c.args.contents in
    let end = c.row_kinds-row-end.ensures c.args.kit.now.tech.roles in
    all_of c.args.subckts.now _ c.loop-row.row (row_kinds bits (bank_rows plan)) (row_subckt plan (cell_in c.args.kit.now.tech.roles) bits c.args.name.now) c.loop-row.invariant (omega (arith, end))
