use Rattle.std.proofs.Common.{refl}
use Rattle.std.proofs.lemmas.Result.{err_from_is_err_and}
use Rattle.gds_library.specs.FirstFault.{IsFaultOf}
use Rattle.gds_library.specs.Grammar.{Spells}
use Rattle.reply_lines.specs.declared.refusal.Refusal.TheVariants.{Gds}
use Rattle.command_steps.specs.File.{IsFile}
use Rattle.openram_cli.specs.Inputs.{IsLibrary}
use Rattle.command_steps.proofs.OutcomeLaws.{read_ends, read_said}
use Rattle.openram_cli.proofs.inputs.read_library.Goals as goal

pub returns-in_err-bytes-clause-read : goal.returns-in_err-bytes-clause-read
returns-in_err-bytes-clause-read g c =
    let p = err_from_is_err_and c.from_residual.result c.from_residual.ensures.1 in
    let before = g.S.Store.state c.args.store.now in
    let now = g.S.Store.state c.read_file.new.store in
    rw (p.1, p.2) (read_ends (λ files. IsFile files c.args.name.now) (λ files. IsLibrary) c.in_err-bytes.field-0.0 before now c.in_err-bytes.ensures.read)

pub returns-clause-read : goal.returns-clause-read
returns-clause-read g c =
    let before = g.S.Store.state c.args.store.now in
    let now = g.S.Store.state c.read_file.new.store in
    let spelled = rw c.as_slice.ensures at c.read_gds.ensures.read in
    let first = rw c.as_slice.ensures at c.read_gds.ensures.first in
    read_said (λ files. IsFile files c.args.name.now) Spells (λ bytes fault. IsFaultOf fault bytes) Gds c.in_ok-bytes.bytes c.read_gds.result c.map_err.result before now (λ fault. refl)
    c.in_ok-bytes.ensures.read spelled first c.map_err.ensures.cases
