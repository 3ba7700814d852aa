use Rattle.kept_rules.proofs.KeptLaws.{reports_are_empty}
use Rattle.kept_rules.proofs.reports_are_empty.Goals as goal

pub returns : goal.returns
returns c = reports_are_empty
