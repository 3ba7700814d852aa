use Rattle.std.specs.Prelude.{codes, ◌++◌}
use Rattle.std.proofs.lemmas.Result.{err_from_is_err_and}
use Rattle.command_steps.proofs.OutcomeLaws.{read_on, read_ends}
use Rattle.command_steps.specs.File.{IsTechnologyFile}
use Rattle.build_command.specs.Design.{IsKitWith}
use Rattle.build_command.proofs.design.read_kit_under.Goals as goal

pub returns-in_err-tech-clause-read : goal.returns-in_err-tech-clause-read
returns-in_err-tech-clause-read g c =
    let p = err_from_is_err_and c.from_residual.result c.from_residual.ensures.1 in
    let before = g.S.Store.state c.args.store.now in
    let now = g.S.Store.state c.read_technology_under.new.store in
    rw (p.1, p.2) (read_ends (λ files. IsTechnologyFile files (c.args.name.now ++ codes ".toml")) (λ files. IsKitWith files c.args.name.now) c.in_err-tech.field-0.0 before now c.in_err-tech.ensures.read)

pub returns-clause-read : goal.returns-clause-read
returns-clause-read g c =
    let before = g.S.Store.state c.args.store.now in
    let mid = g.S.Store.state c.read_technology_under.new.store in
    let now = g.S.Store.state c.read_kit_with.new.store in
    read_on (λ files. IsTechnologyFile files (c.args.name.now ++ codes ".toml")) (λ files. IsKitWith files c.args.name.now) c.in_ok-tech.tech c.read_kit_with.result before mid now c.in_ok-tech.ensures.read c.read_kit_with.ensures.read
