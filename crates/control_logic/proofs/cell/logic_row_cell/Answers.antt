-- The instances are those that are stated.
use Rattle.std.proofs.Common.{ap, ◌∙◌, length, arith}
use Rattle.macro_layout.specs.Cells.{bare_cell, logic_cell_name}
use Rattle.port_lists.specs.Cells.{cell_in}
use Rattle.control_logic.proofs.LogicLaws.{few_roles, same_count}
use Rattle.control_logic.proofs.cell.logic_row_cell.Goals as goal

pub side_by_side-requires-clause-few : goal.side_by_side-requires-clause-few
side_by_side-requires-clause-few c =
    let row = c.requires.row in
    let few = few_roles row.0 row.1 _ row.2.roles in
    let same = same_count row.0 (cell_in c.args.kit.now.tech.roles) _ _ row.2.gates row.2.roles in
    let gates = ap length c.deref.ensures.value in
    omega (arith, few, same, gates)

pub side_by_side-requires-clause-roles : goal.side_by_side-requires-clause-roles
side_by_side-requires-clause-roles c =
    let row = c.requires.row in
    same_count row.0 (cell_in c.args.kit.now.tech.roles) _ _ (c.deref.ensures.value ∙ row.2.gates) (c.deref-2.ensures.value ∙ row.2.roles)

pub returns : goal.returns
returns c = λ plan row. c.in_ok-bare_cell.ensures ∙ ap (bare_cell (logic_cell_name c.args.name.now)) (c.in_ok-instances.ensures plan (c.deref.ensures.value ∙ row.gates) (c.deref-2.ensures.value ∙ row.roles))
