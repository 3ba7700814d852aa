use Rattle.std.proofs.Common.{inl, inr, map}
use Rattle.std.specs.Prelude.{string_bytes}
use Rattle.build_command.proofs.OneWorkLaws.{runs_end_as_work}
use Rattle.build_command.specs.Words.{told_making}
use Rattle.openram_cli.proofs.GoodKitLaws.{ends_within_good_kit}
use Rattle.openram_cli.specs.CommandWords.{AreMaking, AreQuestion}
use Rattle.openram_cli.proofs.run.run_gated.Goals as goal

pub returns-in-Some-Make-clause-run : goal.returns-in-Some-Make-clause-run
returns-in-Some-Make-clause-run g c =
    let asks : AreMaking (map string_bytes c.args.words.now) c.in-Some-Make.making = rw c.in-Some-Make.field-0-is at c.in-Some-Make.ensures in
    inl (told_making c.in-Some-Make.making, asks.form, c.make.ensures)

pub returns-in-Some-Make-clause-one : goal.returns-in-Some-Make-clause-one
returns-in-Some-Make-clause-one g c =
    let asks : AreMaking (map string_bytes c.args.words.now) c.in-Some-Make.making = rw c.in-Some-Make.field-0-is at c.in-Some-Make.ensures in
    λ none. absurd (none (told_making c.in-Some-Make.making) asks.form)

pub returns-in-Some-Make-clause-work : goal.returns-in-Some-Make-clause-work
returns-in-Some-Make-clause-work g c =
    let asks : AreMaking (map string_bytes c.args.words.now) c.in-Some-Make.making = rw c.in-Some-Make.field-0-is at c.in-Some-Make.ensures in
    inr (told_making c.in-Some-Make.making, asks.form, runs_end_as_work (told_making c.in-Some-Make.making) _ _ _ c.make.ensures)

pub returns-in-Some-Make-clause-good : goal.returns-in-Some-Make-clause-good
returns-in-Some-Make-clause-good g c =
    let asks : AreMaking (map string_bytes c.args.words.now) c.in-Some-Make.making = rw c.in-Some-Make.field-0-is at c.in-Some-Make.ensures in
    ends_within_good_kit (map string_bytes c.args.words.now) _ _ _ (inl (told_making c.in-Some-Make.making, asks.form, c.make.ensures))

pub returns-in-Some-Answer-clause-run : goal.returns-in-Some-Answer-clause-run
returns-in-Some-Answer-clause-run g c =
    let asks : AreQuestion (map string_bytes c.args.words.now) c.in-Some-Answer.question = rw c.in-Some-Answer.field-0-is at c.in-Some-Answer.ensures in
    inr (asks.no_making, c.answer_words.ensures.run)

pub returns-in-Some-Answer-clause-one : goal.returns-in-Some-Answer-clause-one
returns-in-Some-Answer-clause-one g c = c.answer_words.ensures.one

pub returns-in-Some-Answer-clause-work : goal.returns-in-Some-Answer-clause-work
returns-in-Some-Answer-clause-work g c =
    let asks : AreQuestion (map string_bytes c.args.words.now) c.in-Some-Answer.question = rw c.in-Some-Answer.field-0-is at c.in-Some-Answer.ensures in
    inl asks.no_making

pub returns-in-Some-Answer-clause-good : goal.returns-in-Some-Answer-clause-good
returns-in-Some-Answer-clause-good g c =
    let asks : AreQuestion (map string_bytes c.args.words.now) c.in-Some-Answer.question = rw c.in-Some-Answer.field-0-is at c.in-Some-Answer.ensures in
    ends_within_good_kit (map string_bytes c.args.words.now) _ _ _ (inr (asks.no_making, c.answer_words.ensures.run))

pub returns-in-None-clause-run : goal.returns-in-None-clause-run
returns-in-None-clause-run g c = inr (c.in-None.ensures.no_making, c.answer_words-in-None.ensures.run)

pub returns-in-None-clause-one : goal.returns-in-None-clause-one
returns-in-None-clause-one g c = c.answer_words-in-None.ensures.one

pub returns-in-None-clause-work : goal.returns-in-None-clause-work
returns-in-None-clause-work g c = inl c.in-None.ensures.no_making

pub returns-in-None-clause-good : goal.returns-in-None-clause-good
returns-in-None-clause-good g c = ends_within_good_kit (map string_bytes c.args.words.now) _ _ _ (inr (c.in-None.ensures.no_making, c.answer_words-in-None.ensures.run))
