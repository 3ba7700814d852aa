use Rattle.std.proofs.Common.{sym, subst}
use Rattle.std.proofs.lemmas.Result.{err_from_is_err_and}
use Rattle.port_lists.specs.Held.{held_of}
use Rattle.command_steps.specs.Writing.{HaveAsciiNames}
use Rattle.build_command.specs.declared.made.Made.{Made}
use Rattle.build_command.specs.Made.{IsOrderMade, ordered}
use Rattle.build_command.proofs.NameLaws.{views_ascii}
use Rattle.build_command.proofs.StepLaws.{memory_instead, memory_reads, memory_words}
use Rattle.build_command.proofs.made.make_ordered.Goals as goal

pub returns-in-Ok-clause-names : goal.returns-in-Ok-clause-names
returns-in-Ok-clause-names g c =
    subst (λ (made : Made). HaveAsciiNames made.views) (sym c.in_ok-made_of-in-Ok.ensures) (views_ascii c.args.design.config c.in-Ok.built c.requires.config)

pub returns-in_err-made_of-in-Ok-clause-made : goal.returns-in_err-made_of-in-Ok-clause-made
returns-in_err-made_of-in-Ok-clause-made g c =
    let p = err_from_is_err_and c.from_residual.result c.from_residual.ensures.1 in
    rw p.1 (memory_instead (IsOrderMade (ordered c.args.design.config c.args.design.kit c.args.design.plan (held_of c.args.contents))) p.0 p.2)

pub returns-in_err-made_of-in-Ok-clause-read : goal.returns-in_err-made_of-in-Ok-clause-read
returns-in_err-made_of-in-Ok-clause-read g c =
    let p = err_from_is_err_and c.from_residual.result c.from_residual.ensures.1 in
    rw p.1 (memory_reads p.0 p.2)

pub returns-in_err-made_of-in-Ok-clause-words : goal.returns-in_err-made_of-in-Ok-clause-words
returns-in_err-made_of-in-Ok-clause-words g c =
    let p = err_from_is_err_and c.from_residual.result c.from_residual.ensures.1 in
    rw p.1 (memory_words p.0 p.2)
