use Rattle.std.proofs.Common.{ℕ, List, subst, ◌∙◌}
use Rattle.command_steps.specs.File.{IsTechnologyFile}
use Rattle.command_steps.specs.Reading.{HasRead}
use Rattle.command_steps.proofs.file.read_technology_under.Goals as goal

pub returns-clause-read : goal.returns-clause-read
returns-clause-read g c =
    let before = g.S.Store.state c.args.store.now in
    let now = g.S.Store.state c.read_technology.new.store in
    subst (λ (n : List ℕ). HasRead (λ files. IsTechnologyFile files n) c.read_technology.result before now) (c.as_str.ensures.value ∙ c.in_ok-file.ensures) c.read_technology.ensures.read
