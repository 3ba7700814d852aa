use Rattle.macro_laws.proofs.OneBuildLaws.{one_build}
use Rattle.macro_laws.proofs.builds_are_unique.Goals as goal

pub returns : goal.returns
returns c = one_build
