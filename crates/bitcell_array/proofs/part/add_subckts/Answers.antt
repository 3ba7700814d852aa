-- The subcircuits of the rows, and two more.
use Rattle.std.proofs.Common.{List, [], ◌∷◌, ◌++◌, append_assoc, ap, ◌∙◌}
use Rattle.std.specs.Prelude.{codes}
use Rattle.tech_rules.specs.declared.tech.RoleName.{RoleName}
use Rattle.port_lists.specs.Cells.{cell_in}
use Rattle.port_lists.specs.Contents.{bit_cells}
use Rattle.sram_deck.specs.Deck.{made_subckt, array_ports, array_instances, pre_ports, pre_instances}
use Rattle.sram_plan.specs.PlanNumbers.{organization}
use Rattle.bitcell_array.specs.ArrayPart.{row_subckts}
use Rattle.bitcell_array.proofs.RowLaws.{two_added}
use Rattle.bitcell_array.proofs.part.add_subckts.Goals as goal

pub returns : goal.returns
returns c =
    let plan = organization c.args.plan.now in
    let n = c.args.name.now in
    let cell = cell_in c.args.kit.now.tech.roles in
    let bits = bit_cells c.args.kit.now.tech.roles plan c.args.contents in
    let rows = row_subckts plan cell bits n in
    let array = made_subckt (n ++ codes "_array") (array_ports plan) (array_instances plan bits n) in
    let pre = made_subckt (n ++ codes "_pre") (pre_ports plan) (pre_instances plan cell) in
    let is_pre = c.in_ok-precharge_subckt.ensures ∙ ap (λ (rs : List RoleName). made_subckt (n ++ codes "_pre") (pre_ports plan) (pre_instances plan (cell_in rs))) c.as_slice-roles.ensures in
    two_added (c.args.subckts.now ++ rows) _ _ _ _ _ array pre c.in_ok-add_row_subckts.ensures c.in_ok-push.ensures.ok c.in_ok-push-2.ensures.ok (c.in_ok-array_subckt.ensures c.args.kit.now.tech.roles) is_pre
    ∙ append_assoc c.args.subckts.now rows (array ∷ pre ∷ [])
