use Rattle.std.proofs.Common.{refl}
use Rattle.std.proofs.lemmas.Option.{slice_get_read}
use Rattle.leaf_contacts.proofs.SummaryLaws.{none_more, none_refers}
use Rattle.leaf_contacts.proofs.cells.refers_to_counted.Goals as goal

pub returns-then-leads_to_counted : goal.returns-then-leads_to_counted
returns-then-leads_to_counted c = (
  λ _. record {
    index = c.loop-index.index;
    element = c.index-elements-index.result;
    there = slice_get_read c.args.elements.now _ c.loop-index.index c.index-elements-index.result refl c.loop-index-test.true c.index-elements-index.is;
    leads = c.if-leads_to_counted.ensures.0 refl;
  },
  λ _. refl,
)

pub loop-index-preserved : goal.loop-index-preserved
loop-index-preserved c =
    none_more c.args.elements.now c.args.targets.now c.args.summaries.now c.loop-index.index c.index-elements-index.result (slice_get_read c.args.elements.now _ c.loop-index.index c.index-elements-index.result refl c.loop-index-test.true c.index-elements-index.is)
    (λ h. let t = c.if-leads_to_counted.ensures.1 h in absurd cc) c.loop-index.invariant

pub returns : goal.returns
returns c = (λ t. absurd cc, λ r. absurd (none_refers c.args.elements.now c.args.targets.now c.args.summaries.now c.loop-index.index c.loop-index-test.false c.loop-index.invariant r))
