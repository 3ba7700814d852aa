use Rattle.std.proofs.Common.{◌≡◌, ℕ, List, map, ap, ◌∙◌}
use Rattle.tech_rules.specs.declared.tech.RoleName.{RoleName}
use Rattle.spice_netlist.specs.Faults.{AreFlatRows, IsFlatFault}
use Rattle.reply_lines.specs.declared.refusal.Refusal.TheVariants.{Rows}
use Rattle.command_steps.proofs.OutcomeLaws.{said_outcome}
use Rattle.openram_cli.specs.Answer.{leaves_of}
use Rattle.openram_cli.proofs.answer.rows_of.Goals as goal

pub returns-clause-rows : goal.returns-clause-rows
returns-clause-rows c =
    let layout = c.args.layout.now in
    let subckts = c.args.deck.now.subckts in
    let leaves : List (List ℕ) = leaves_of layout.tech in
    let are_leaves : c.deref.result.now ≡ leaves = c.deref.ensures.value ∙ c.in_ok-leaves.ensures ∙ ap (map (λ (r : RoleName). r.cell)) c.as_slice.ensures in
    let rows = rw are_leaves at c.flat_rows.ensures.rows in
    let fault = rw are_leaves at c.flat_rows.ensures.fault in
    said_outcome (λ rows. AreFlatRows subckts layout.top leaves rows.pins) (IsFlatFault subckts layout.top leaves) Rows c.flat_rows.result c.map_err.result rows fault c.map_err.ensures.cases
