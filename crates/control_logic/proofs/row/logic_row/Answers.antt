-- The gates and the roles of one list.
use Rattle.std.proofs.Common.{List, ◌++◌, map, ap, ◌∙◌, sym}
use Rattle.tech_rules.specs.declared.tech.RoleName.{RoleName}
use Rattle.sram_netlist.specs.InstanceList.{choice_gates, groups_gates, logic_cells}
use Rattle.sram_plan.specs.PlanNumbers.{organization}
use Rattle.port_lists.specs.Cells.{cell_in}
use Rattle.row_decoder.specs.Gates.{logic_gate}
use Rattle.port_lists.proofs.SubcktLaws.{from_none}
use Rattle.control_logic.proofs.LogicLaws.{row_is}
use Rattle.control_logic.proofs.row.logic_row.Goals as goal

pub add_gates-requires-clause-lines : goal.add_gates-requires-clause-lines
add_gates-requires-clause-lines c =
    let plan = organization c.args.plan.now in
    c.in_ok-lines.ensures ∙ ap (λ (roles : List RoleName). map (logic_gate plan (cell_in roles)) (choice_gates plan.col_bits ++ groups_gates plan.groups plan.col_bits)) (sym c.as_slice.ensures)

pub returns : goal.returns
returns c =
    let plan = organization c.args.plan.now in
    let list = from_none _ _ _ c.in_ok-add_gates.ensures c.new-row.ensures.items ∙ ap (λ (roles : List RoleName). map (logic_gate plan (cell_in roles)) (logic_cells plan)) c.as_slice.ensures in
    row_is plan (cell_in c.args.kit.now.tech.roles) _ c.in_ok-row_of.field-0 list c.in_ok-row_of.ensures.gates c.in_ok-row_of.ensures.roles
