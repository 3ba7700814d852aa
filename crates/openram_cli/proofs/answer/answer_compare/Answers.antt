use Rattle.std.proofs.Common.{◌≡◌, List, map, Option, Some, None, Err, refl}
use Rattle.std.specs.Prelude.{◌↔◌, IfSome}
use Rattle.std.proofs.lemmas.Result.{err_from_is_err_and}
use Rattle.netlist.specs.declared.rows.RowPin.{RowPin}
use Rattle.cell_hierarchy.specs.Plain.{lists_of}
use Rattle.net_extractor.specs.declared.difference.NetDiff.{NetDiff}
use Rattle.net_extractor.specs.PlainNetLabel.{PlainNetLabel}
use Rattle.net_extractor.specs.PlainNets.{plain_net}
use Rattle.net_extractor.specs.Difference.{AreAlike}
use Rattle.net_extractor.specs.FirstDifference.{IsFirstDifference}
use Rattle.command_steps.proofs.OutcomeLaws.{then_on, then_ends}
use Rattle.command_steps.specs.Outcome.{WithoutRefusal, Then}
use Rattle.openram_cli.specs.Answer.{AreFlat, AreLeafRows, IsCompared, IsDifference}
use Rattle.openram_cli.proofs.answer.answer_compare.Goals as goal

is_difference : (labels : List PlainNetLabel) (rows : List RowPin) (found : Option NetDiff) → (found ≡ None) ↔ AreAlike labels rows → IfSome found (IsFirstDifference labels rows) → IsDifference labels rows found
is_difference labels rows None none first = none.0 refl
is_difference labels rows (Some difference) none first = first

pub returns-clause-answer : goal.returns-clause-answer
returns-clause-answer g c =
    let flat = c.in_ok-flat.flat in
    let rows = c.in_ok-rows.rows in
    let labels = map plain_net c.in_ok-nets.nets.labels in
    let found = c.in_ok-difference.difference in (
      lists_of flat,
      c.in_ok-flat.ensures.flat,
      (
        rows,
        c.in_ok-rows.ensures.rows,
        (labels, c.in_ok-nets.ensures, (found, is_difference labels rows.pins found c.in_ok-difference.ensures.none c.in_ok-difference.ensures.first, c.in_ok-comparison_reply.ensures)),
      ),
    )

pub returns-in_err-rows-clause-answer : goal.returns-in_err-rows-clause-answer
returns-in_err-rows-clause-answer g c =
    let p = err_from_is_err_and c.from_residual-in_err-rows.result c.from_residual-in_err-rows.ensures.1 in
    let layout = c.args.layout.now in
    let deck = c.args.deck.now in
    let lists = lists_of c.in_ok-flat.flat in
    let refusal = c.in_err-rows.field-0.0 in
    rw (p.1, p.2)
    (then_on (AreFlat layout) (λ lists. Then (AreLeafRows layout deck) (λ rows. WithoutRefusal (IsCompared layout.tech lists rows))) lists (Err refusal) c.in_ok-flat.ensures.flat
    (then_ends (AreLeafRows layout deck) (λ rows. WithoutRefusal (IsCompared layout.tech lists rows)) refusal c.in_err-rows.ensures.rows))
