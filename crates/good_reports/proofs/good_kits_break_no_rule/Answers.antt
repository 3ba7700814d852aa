use Rattle.good_reports.proofs.ReportLaws.{good_kits_break_no_rule}
use Rattle.good_reports.proofs.good_kits_break_no_rule.Goals as goal

pub returns : goal.returns
returns c = good_kits_break_no_rule
