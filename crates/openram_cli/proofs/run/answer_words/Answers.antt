use Rattle.std.proofs.Common.{map}
use Rattle.std.specs.Prelude.{string_bytes}
use Rattle.openram_cli.proofs.OneRunLaws.{ends_as_answer}
use Rattle.openram_cli.proofs.RunLaws.{answer_run, refusal_run}
use Rattle.openram_cli.proofs.run.answer_words.Goals as goal

pub returns-in-Ok-clause-run : goal.returns-in-Ok-clause-run
returns-in-Ok-clause-run g c =
    answer_run (map string_bytes c.args.words.now) c.in-Ok.reply c.finish.result _ _ c.in-Ok.ensures.read c.in-Ok.ensures.small c.in-Ok.ensures.usage c.finish.ensures

pub returns-in-Err-clause-run : goal.returns-in-Err-clause-run
returns-in-Err-clause-run g c =
    refusal_run (map string_bytes c.args.words.now) c.in-Err.refusal c.refuse.result _ _ c.in-Err.ensures.read c.in-Err.ensures.usage c.refuse.ensures

pub returns-in-Ok-clause-one : goal.returns-in-Ok-clause-one
returns-in-Ok-clause-one g c =
    ends_as_answer (map string_bytes c.args.words.now) c.finish.result _ _
    (answer_run (map string_bytes c.args.words.now) c.in-Ok.reply c.finish.result _ _ c.in-Ok.ensures.read c.in-Ok.ensures.small c.in-Ok.ensures.usage c.finish.ensures)

pub returns-in-Err-clause-one : goal.returns-in-Err-clause-one
returns-in-Err-clause-one g c =
    ends_as_answer (map string_bytes c.args.words.now) c.refuse.result _ _
    (refusal_run (map string_bytes c.args.words.now) c.in-Err.refusal c.refuse.result _ _ c.in-Err.ensures.read c.in-Err.ensures.usage c.refuse.ensures)
