use Rattle.std.proofs.Common.{◌≡◌, Err}
use Rattle.std.proofs.lemmas.Result.{err_from_is_err_and}
use Rattle.openram_cli.specs.CommandWords.{told_layout}
use Rattle.command_steps.specs.File.{IsTechnologyFile}
use Rattle.openram_cli.specs.Inputs.{IsLibraryFile, IsLayoutWith}
use Rattle.command_steps.specs.Outcome.{WithoutRefusal}
use Rattle.command_steps.proofs.OutcomeLaws.{read_on, read_ends}
use Rattle.openram_cli.specs.declared.inputs.LayoutInput.{LayoutInput}
use Rattle.openram_cli.proofs.inputs.read_layout.Goals as goal

pub returns-in_err-lib-clause-read : goal.returns-in_err-lib-clause-read
returns-in_err-lib-clause-read g c =
    let p = err_from_is_err_and c.from_residual-in_err-lib.result c.from_residual-in_err-lib.ensures.1 in
    let words = told_layout c.args.words in
    let tech = c.in_ok-tech.tech in
    let refusal = c.in_err-lib.field-0.0 in
    let before = g.S.Store.state c.args.store.now in
    let mid = g.S.Store.state c.read_technology.new.store in
    let now = g.S.Store.state c.read_library.new.store in
    rw (p.1, p.2) (
    read_on (λ files. IsTechnologyFile files words.tech) (λ files. IsLayoutWith files words) tech (Err refusal) before mid now c.in_ok-tech.ensures.read
    (read_ends (λ files. IsLibraryFile files words.gds) (λ files lib. WithoutRefusal (λ (layout : LayoutInput). layout ≡ record { tech = tech; lib = lib; top = words.top })) refusal mid now c.in_err-lib.ensures.read)
    )

pub returns-in_err-tech-clause-read : goal.returns-in_err-tech-clause-read
returns-in_err-tech-clause-read g c =
    let p = err_from_is_err_and c.from_residual.result c.from_residual.ensures.1 in
    let words = told_layout c.args.words in
    let before = g.S.Store.state c.args.store.now in
    let now = g.S.Store.state c.read_technology.new.store in
    rw (p.1, p.2) (read_ends (λ files. IsTechnologyFile files words.tech) (λ files. IsLayoutWith files words) c.in_err-tech.field-0.0 before now c.in_err-tech.ensures.read)
