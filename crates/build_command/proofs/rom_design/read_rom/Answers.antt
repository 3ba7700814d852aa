use Rattle.std.proofs.lemmas.Result.{err_from_is_err_and}
use Rattle.command_steps.proofs.OutcomeLaws.{read_on, read_ends}
use Rattle.build_command.specs.Design.{IsConfigFile}
use Rattle.build_command.specs.RomDesign.{IsRomAfter}
use Rattle.build_command.proofs.rom_design.read_rom.Goals as goal

pub returns-in_err-config-clause-read : goal.returns-in_err-config-clause-read
returns-in_err-config-clause-read g c =
    let p = err_from_is_err_and c.from_residual.result c.from_residual.ensures.1 in
    let before = g.S.Store.state c.args.store.now in
    let now = g.S.Store.state c.read_configuration.new.store in
    rw (p.1, p.2) (read_ends (λ files. IsConfigFile files c.args.name.now) (λ files. IsRomAfter files c.args.content.now) c.in_err-config.field-0.0 before now c.in_err-config.ensures.read)

pub returns-clause-read : goal.returns-clause-read
returns-clause-read g c =
    let before = g.S.Store.state c.args.store.now in
    let mid = g.S.Store.state c.read_configuration.new.store in
    let now = g.S.Store.state c.rom_after.new.store in
    read_on (λ files. IsConfigFile files c.args.name.now) (λ files. IsRomAfter files c.args.content.now) c.in_ok-config.config c.rom_after.result before mid now c.in_ok-config.ensures.read c.rom_after.ensures.read
