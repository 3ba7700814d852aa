use Rattle.std.proofs.Common.{ℕ, List, subst, ◌∙◌}
use Rattle.openram_cli.specs.Inputs.{IsDeckFile}
use Rattle.command_steps.specs.Reading.{HasRead}
use Rattle.openram_cli.proofs.inputs.read_deck_under.Goals as goal

pub returns-clause-read : goal.returns-clause-read
returns-clause-read g c =
    let before = g.S.Store.state c.args.store.now in
    let now = g.S.Store.state c.read_deck.new.store in
    subst (λ (n : List ℕ). HasRead (λ files. IsDeckFile files n) c.read_deck.result before now) (c.as_str.ensures.value ∙ c.in_ok-file.ensures) c.read_deck.ensures.read
