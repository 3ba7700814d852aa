use Rattle.std.proofs.lemmas.Result.{err_from_is_err_and}
use Rattle.command_steps.proofs.OutcomeLaws.{read_on, read_ends}
use Rattle.build_command.specs.Design.{IsDesignOf}
use Rattle.build_command.specs.RomDesign.{IsRomOver}
use Rattle.build_command.proofs.rom_design.rom_under.Goals as goal

pub returns-in_err-design-clause-read : goal.returns-in_err-design-clause-read
returns-in_err-design-clause-read g c =
    let p = err_from_is_err_and c.from_residual.result c.from_residual.ensures.1 in
    let before = g.S.Store.state c.args.store.now in
    let now = g.S.Store.state c.design_of.new.store in
    rw (p.1, p.2) (read_ends (λ files. IsDesignOf files c.args.config) (λ files. IsRomOver files c.args.content.now) c.in_err-design.field-0.0 before now c.in_err-design.ensures.read)

pub returns-clause-read : goal.returns-clause-read
returns-clause-read g c =
    let before = g.S.Store.state c.args.store.now in
    let mid = g.S.Store.state c.design_of.new.store in
    let now = g.S.Store.state c.rom_over.new.store in
    read_on (λ files. IsDesignOf files c.args.config) (λ files. IsRomOver files c.args.content.now) c.in_ok-design.design c.rom_over.result before mid now c.in_ok-design.ensures.read c.rom_over.ensures.read
