use Rattle.std.proofs.lemmas.Result.{err_from_is_err_and}
use Rattle.command_steps.specs.File.{IsFile, IsTechnology}
use Rattle.command_steps.proofs.OutcomeLaws.{read_ends}
use Rattle.command_steps.proofs.file.read_technology.Goals as goal

pub returns-in_err-bytes-clause-read : goal.returns-in_err-bytes-clause-read
returns-in_err-bytes-clause-read g c =
    let p = err_from_is_err_and c.from_residual.result c.from_residual.ensures.1 in
    let before = g.S.Store.state c.args.store.now in
    let now = g.S.Store.state c.read_file.new.store in
    rw (p.1, p.2) (read_ends (λ files. IsFile files c.args.name.now) (λ files. IsTechnology) c.in_err-bytes.field-0.0 before now c.in_err-bytes.ensures.read)
