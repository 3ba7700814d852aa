use Rattle.std.proofs.Common.{refl}
use Rattle.std.specs.Prelude.{codes, ◌++◌}
use Rattle.std.proofs.lemmas.Result.{err_from_is_err_and}
use Rattle.gds_library.specs.FirstFault.{IsFaultOf}
use Rattle.gds_library.specs.Grammar.{Spells}
use Rattle.reply_lines.specs.declared.refusal.Refusal.TheVariants.{Gds}
use Rattle.command_steps.proofs.OutcomeLaws.{read_said, read_ends}
use Rattle.command_steps.specs.File.{IsFile}
use Rattle.build_command.specs.Design.{IsLeafLibrary}
use Rattle.build_command.proofs.design.read_leaf_layout.Goals as goal

pub returns-in_err-bytes-clause-read : goal.returns-in_err-bytes-clause-read
returns-in_err-bytes-clause-read g c =
    let p = err_from_is_err_and c.from_residual.result c.from_residual.ensures.1 in
    let before = g.S.Store.state c.args.store.now in
    let now = g.S.Store.state c.read_under.new.store in
    rw (p.1, p.2) (read_ends (λ files. IsFile files (c.args.name.now ++ codes ".gds")) (λ files. IsLeafLibrary) c.in_err-bytes.field-0.0 before now c.in_err-bytes.ensures.read)

pub returns-clause-read : goal.returns-clause-read
returns-clause-read g c =
    let before = g.S.Store.state c.args.store.now in
    let now = g.S.Store.state c.read_under.new.store in
    let spelled = rw c.as_slice.ensures at c.read_gds.ensures.read in
    let first = rw c.as_slice.ensures at c.read_gds.ensures.first in
    read_said (λ files. IsFile files (c.args.name.now ++ codes ".gds")) Spells (λ bytes fault. IsFaultOf fault bytes) Gds c.in_ok-bytes.bytes c.read_gds.result c.map_err.result before now (λ fault. refl)
    c.in_ok-bytes.ensures.read spelled first c.map_err.ensures.cases
