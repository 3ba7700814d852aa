use Rattle.std.proofs.Common.{ℕ, List, subst, ◌∙◌}
use Rattle.openram_cli.specs.Inputs.{IsLibraryFile}
use Rattle.command_steps.specs.Reading.{HasRead}
use Rattle.openram_cli.proofs.inputs.read_library_under.Goals as goal

pub returns-clause-read : goal.returns-clause-read
returns-clause-read g c =
    let before = g.S.Store.state c.args.store.now in
    let now = g.S.Store.state c.read_library.new.store in
    subst (λ (n : List ℕ). HasRead (λ files. IsLibraryFile files n) c.read_library.result before now) (c.as_str.ensures.value ∙ c.in_ok-file.ensures) c.read_library.ensures.read
