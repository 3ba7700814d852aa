-- The gate's role, name, nodes and cell.
use Rattle.std.proofs.Common.{◌++◌, ◌∷◌, [], ap, ◌∙◌}
use Rattle.cell_roles.specs.declared.role.Role.{Role}
use Rattle.sram_plan.specs.PlanNumbers.{organization}
use Rattle.row_decoder.specs.declared.gate.LogicGate.{LogicGate}
use Rattle.port_lists.specs.Cells.{cell_in}
use Rattle.row_decoder.specs.Lines.{chosen_by}
use Rattle.row_decoder.proofs.LineLaws.{gate_is, nodes_are}
use Rattle.row_decoder.proofs.lines.add_line_gate.Goals as goal

pub returns : goal.returns
returns c =
    let lines = c.args.lines in
    let nodes = c.into_items.ensures ∙ nodes_are _ _ _ _ _ _ _ c.new-nodes.ensures (c.in_ok-add_picks.ensures (organization c.args.plan.now)) c.in_ok-add.ensures c.complement.ensures c.in_ok-add_supplies.ensures in
    let name = c.in_ok-spell.ensures ∙ c.gate.ensures in
    let of = c.in_ok-from_bytes.ensures ∙ (c.cell_of.ensures ∙ ap (λ (role : Role). cell_in c.args.roles.now role) c.gate_role-role.ensures) in
    c.in_ok-push.ensures.items ∙ ap (λ (g : LogicGate). c.args.row.now.items ++ g ∷ []) (gate_is (organization c.args.plan.now) (cell_in c.args.roles.now) lines.low lines.bits c.args.number (chosen_by lines.choice) _ c.requires.choice
    (λ i. record { role = c.gate_role-role.ensures i; instance = record { name = name i; nodes = nodes i; of = of i } }))
