use Rattle.shape_bins.proofs.RunLaws.{single_filled, taken_filled}
use Rattle.shape_bins.proofs.runs.run_of.Goals as goal

pub returns-in-Some : goal.returns-in-Some
returns-in-Some c = λ shapes there fills.
    let first = c.in_ok-run.ensures shapes there fills in
    (first.0, taken_filled shapes c.in_ok-run.field-0 c.in-Some.run' c.in-Some.is first.1)

pub returns-in-Some-2 : goal.returns-in-Some-2
returns-in-Some-2 c = λ shapes there fills.
    let second = c.in_ok-run-2.ensures shapes there (c.in_ok-run.ensures shapes there fills).0 in
    (second.0, taken_filled shapes c.in_ok-run-2.field-0 c.in-Some-2.run' c.in-Some-2.is second.1)

pub returns : goal.returns
returns c = λ shapes there fills.
    ((c.in_ok-run-2.ensures shapes there (c.in_ok-run.ensures shapes there fills).0).0, single_filled shapes c.args.shape c.single.result c.single.ensures there)
