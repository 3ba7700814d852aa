use Rattle.port_data.proofs.RefusedLaws.{built_excludes_refused}
use Rattle.port_data.proofs.laws.built_excludes_refused.Goals as goal

pub returns : goal.returns
returns c = built_excludes_refused
