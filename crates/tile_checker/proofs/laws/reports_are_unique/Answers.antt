-- Two lists in strict order that hold the same violations are one list.
use Rattle.tile_checker.proofs.OneReportLaws.{one_report}
use Rattle.tile_checker.proofs.laws.reports_are_unique.Goals as goal

pub returns : goal.returns
returns c = one_report
