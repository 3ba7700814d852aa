use Rattle.std.proofs.Common.{ℕ, List, subst, ◌∙◌}
use Rattle.command_steps.specs.File.{IsFile}
use Rattle.command_steps.specs.Reading.{HasRead}
use Rattle.build_command.proofs.design.read_under.Goals as goal

pub returns-clause-read : goal.returns-clause-read
returns-clause-read g c =
    let before = g.S.Store.state c.args.store.now in
    let now = g.S.Store.state c.read_file.new.store in
    subst (λ (n : List ℕ). HasRead (λ files. IsFile files n) c.read_file.result before now) (c.as_str.ensures.value ∙ c.in_ok-file.ensures) c.read_file.ensures.read
