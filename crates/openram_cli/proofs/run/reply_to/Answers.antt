use Rattle.std.proofs.Common.{Err, map, ap, sym, ◌∙◌}
use Rattle.std.proofs.lemmas.Result.{err_from_is_err_and}
use Rattle.std.specs.Prelude.{string_bytes}
use Rattle.std.specs.Option.{option_map}
use Rattle.openram_cli.specs.Answer.{IsReplyTo}
use Rattle.openram_cli.specs.CommandWords.{told_question}
use Rattle.openram_cli.specs.Inputs.{AreInputs}
use Rattle.command_steps.proofs.OutcomeLaws.{read_then, read_ends}
use Rattle.openram_cli.proofs.WorkLaws.{work_of}
use Rattle.openram_cli.proofs.run.reply_to.Goals as goal

pub returns-clause-read : goal.returns-clause-read
returns-clause-read g c =
    let command = told_question c.in-Some.question in
    let before = g.S.Store.state c.args.store.now in
    let now = g.S.Store.state c.read_inputs.new.store in
    work_of (map string_bytes c.args._words.now) command c.answer.result before now (ap (option_map told_question) (sym c.in-Some.is) ∙ c.requires.asked)
    (read_then (λ files. AreInputs files command) IsReplyTo c.in_ok-inputs.inputs c.answer.result before now c.in_ok-inputs.ensures.read c.answer.ensures.answer c.answer.ensures.read)

pub returns-in_err-inputs-clause-read : goal.returns-in_err-inputs-clause-read
returns-in_err-inputs-clause-read g c =
    let p = err_from_is_err_and c.from_residual.result c.from_residual.ensures.1 in
    let command = told_question c.in-Some.question in
    let refusal = c.in_err-inputs.field-0.0 in
    let before = g.S.Store.state c.args.store.now in
    let now = g.S.Store.state c.read_inputs.new.store in
    rw (p.1, p.2)
    (work_of (map string_bytes c.args._words.now) command (Err refusal) before now (ap (option_map told_question) (sym c.in-Some.is) ∙ c.requires.asked)
    (read_ends (λ files. AreInputs files command) (λ files. IsReplyTo) refusal before now c.in_err-inputs.ensures.read))
