use Rattle.std.proofs.lemmas.Result.{err_from_is_err_and}
use Rattle.build_command.specs.RomDesign.{IsRomConfiguration, IsRomUnder}
use Rattle.build_command.proofs.StepLaws.{step_on, step_ends}
use Rattle.build_command.proofs.rom_design.rom_after.Goals as goal

pub returns-in_err-config-clause-read : goal.returns-in_err-config-clause-read
returns-in_err-config-clause-read g c =
    let p = err_from_is_err_and c.from_residual.result c.from_residual.ensures.1 in
    let store = g.S.Store.state c.args.store.now in
    rw (p.1, p.2) (step_ends (IsRomConfiguration c.args.config) (λ files. IsRomUnder files c.args.content.now) c.in_err-config.field-0.0 store c.in_err-config.ensures.config c.in_err-config.ensures.read)

pub returns-clause-read : goal.returns-clause-read
returns-clause-read g c =
    let before = g.S.Store.state c.args.store.now in
    let now = g.S.Store.state c.rom_under.new.store in
    step_on (IsRomConfiguration c.args.config) (λ files. IsRomUnder files c.args.content.now) c.in_ok-config.config c.rom_under.result before now c.in_ok-config.ensures.config c.rom_under.ensures.read
