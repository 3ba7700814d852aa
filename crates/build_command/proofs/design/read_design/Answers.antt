use Rattle.std.proofs.lemmas.Result.{err_from_is_err_and}
use Rattle.command_steps.proofs.OutcomeLaws.{read_on, read_ends}
use Rattle.build_command.specs.Design.{IsConfigFile, IsDesignOf}
use Rattle.build_command.proofs.design.read_design.Goals as goal

pub returns-in_err-config-clause-read : goal.returns-in_err-config-clause-read
returns-in_err-config-clause-read g c =
    let p = err_from_is_err_and c.from_residual.result c.from_residual.ensures.1 in
    let before = g.S.Store.state c.args.store.now in
    let now = g.S.Store.state c.read_configuration.new.store in
    rw (p.1, p.2) (read_ends (λ files. IsConfigFile files c.args.name.now) (IsDesignOf) c.in_err-config.field-0.0 before now c.in_err-config.ensures.read)

pub returns-clause-read : goal.returns-clause-read
returns-clause-read g c =
    let before = g.S.Store.state c.args.store.now in
    let mid = g.S.Store.state c.read_configuration.new.store in
    let now = g.S.Store.state c.design_of.new.store in
    read_on (λ files. IsConfigFile files c.args.name.now) (IsDesignOf) c.in_ok-config.config c.design_of.result before mid now c.in_ok-config.ensures.read c.design_of.ensures.read
