use Rattle.net_answers.proofs.DifferThereLaws.{alike_or_different}
use Rattle.net_answers.proofs.alike_or_different.Goals as goal

pub returns : goal.returns
returns c = alike_or_different
