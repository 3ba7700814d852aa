use Rattle.std.proofs.Common.{Ok, refl, ap}
use Rattle.std.proofs.lemmas.Result.{err_from_is_err_and}
use Rattle.rom_leaves.specs.RomLeaves.{HasRomLeaves, IsRomLeafFault}
use Rattle.reply_lines.specs.Statuses.{is_read_failure}
use Rattle.reply_lines.specs.declared.refusal.Refusal.TheVariants.{Kit}
use Rattle.command_steps.proofs.OutcomeLaws.{said_value, said_fault}
use Rattle.build_command.specs.RomDesign.{HasFixedCells, IsRomWith}
use Rattle.build_command.proofs.StepLaws.{step_on, step_ends}
use Rattle.build_command.proofs.rom_design.rom_over.Goals as goal

pub returns-in_err-map_err-clause-read : goal.returns-in_err-map_err-clause-read
returns-in_err-map_err-clause-read g c =
    let p = err_from_is_err_and c.from_residual.result c.from_residual.ensures.1 in
    let refusal = c.in_err-map_err.field-0.0 in
    let store = g.S.Store.state c.args.store.now in
    let told = said_fault (IsRomLeafFault c.args.design.kit) Kit c.rom_leaves.result refusal c.rom_leaves.ensures.fault c.in_err-map_err.ensures.cases in
    rw (p.1, p.2) (step_ends (HasFixedCells c.args.design) (λ files. IsRomWith files c.args.content.now) refusal store (λ lasts. told) (ap is_read_failure told.2))

pub returns-clause-read : goal.returns-clause-read
returns-clause-read g c =
    let before = g.S.Store.state c.args.store.now in
    let now = g.S.Store.state c.rom_with.new.store in
    let cells = said_value (λ cells. HasRomLeaves c.args.design.kit) Kit c.rom_leaves.result (Ok c.in_ok-map_err.field-0) c.rom_leaves.ensures.leaves c.in_ok-map_err.ensures.cases in
    step_on (HasFixedCells c.args.design) (λ files. IsRomWith files c.args.content.now) c.args.design c.rom_with.result before now (refl, cells) c.rom_with.ensures.read
