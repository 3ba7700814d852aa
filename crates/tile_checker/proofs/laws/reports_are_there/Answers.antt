-- What may break a rule is a list, and each of it is decided.
use Rattle.tile_checker.proofs.ReportThereLaws.{reports_are_there}
use Rattle.tile_checker.proofs.laws.reports_are_there.Goals as goal

pub returns : goal.returns
returns c = reports_are_there
