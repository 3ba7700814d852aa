use Rattle.quick_checks.proofs.SufficeLaws.{quick_checks_suffice}
use Rattle.quick_checks.proofs.quick_checks_suffice.Goals as goal

pub returns : goal.returns
returns c = quick_checks_suffice
