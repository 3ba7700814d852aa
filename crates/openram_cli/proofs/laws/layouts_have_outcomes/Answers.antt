use Rattle.openram_cli.proofs.LayoutOutcomeLaws.{checks_have_outcomes, listings_have_outcomes, comparisons_have_outcomes}
use Rattle.openram_cli.proofs.laws.layouts_have_outcomes.Goals as goal

pub returns-clause-check : goal.returns-clause-check
returns-clause-check c = checks_have_outcomes c.reports_are_there.ensures

pub returns-clause-nets : goal.returns-clause-nets
returns-clause-nets c = listings_have_outcomes

pub returns-clause-compare : goal.returns-clause-compare
returns-clause-compare c = comparisons_have_outcomes
