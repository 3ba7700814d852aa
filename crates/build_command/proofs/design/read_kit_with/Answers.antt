use Rattle.std.proofs.Common.{Err}
use Rattle.std.specs.Prelude.{codes, ◌++◌}
use Rattle.std.proofs.lemmas.Result.{err_from_is_err_and}
use Rattle.command_steps.proofs.OutcomeLaws.{read_on, read_ends}
use Rattle.build_command.specs.Design.{IsLeafLibraryFile, IsKitOverLibrary}
use Rattle.build_command.proofs.LayoutLaws.{read_kit_of_bytes}
use Rattle.build_command.proofs.design.read_kit_with.Goals as goal

pub returns-in_err-lib-clause-read : goal.returns-in_err-lib-clause-read
returns-in_err-lib-clause-read g c =
    let p = err_from_is_err_and c.from_residual.result c.from_residual.ensures.1 in
    let refusal = c.in_err-lib.field-0.0 in
    let before = g.S.Store.state c.args.store.now in
    let now = g.S.Store.state c.read_leaf_layout.new.store in
    let ends = read_ends (λ files. IsLeafLibraryFile files (c.args.name.now ++ codes ".gds")) (λ files. IsKitOverLibrary files c.args.name.now c.args.tech) refusal before now c.in_err-lib.ensures.read in
    rw (p.1, p.2) (read_kit_of_bytes c.args.name.now c.args.tech (Err refusal) before now ends)

pub returns-clause-read : goal.returns-clause-read
returns-clause-read g c =
    let result = c.read_kit_over.result in
    let before = g.S.Store.state c.args.store.now in
    let mid = g.S.Store.state c.read_leaf_layout.new.store in
    let now = g.S.Store.state c.read_kit_over.new.store in
    let on = read_on (λ files. IsLeafLibraryFile files (c.args.name.now ++ codes ".gds")) (λ files. IsKitOverLibrary files c.args.name.now c.args.tech) c.in_ok-lib.lib result before mid now c.in_ok-lib.ensures.read c.read_kit_over.ensures.read in
    read_kit_of_bytes c.args.name.now c.args.tech result before now on
