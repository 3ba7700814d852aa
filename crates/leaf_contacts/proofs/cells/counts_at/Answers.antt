use Rattle.std.proofs.Common.{sym, subst, ◌∙◌}
use Rattle.std.specs.Prelude.{IsTrue}
use Rattle.std.proofs.lemmas.Option.{same_Some}
use Rattle.leaf_contacts.proofs.SummaryLaws.{got, not_got}
use Rattle.leaf_contacts.specs.declared.cells.CellSummary.{CellSummary}
use Rattle.leaf_contacts.proofs.cells.counts_at.Goals as goal

pub returns-in-Some : goal.returns-in-Some
returns-in-Some c =
    let there = got c.args.summaries.now c.args.index c.in-Some.summary.now c.in-Some.ensures.lookup.0 c.in-Some.ensures.lookup.1 in (
      λ t. record { summary = c.in-Some.summary.now; there = there; counts = t },
      λ s. subst (λ (summary : CellSummary). IsTrue summary.counts) (same_Some _ _ (sym s.there ∙ there)) s.counts,
    )

pub returns-in-None : goal.returns-in-None
returns-in-None c = (λ t. absurd cc, λ s. absurd (not_got c.args.summaries.now c.args.index s.summary c.in-None.ensures.lookup.0 s.there))
