use Rattle.macro_laws.proofs.OneBuildLaws.{no_build_beside}
use Rattle.macro_laws.proofs.build_faults_exclude_builds.Goals as goal

pub returns : goal.returns
returns c = no_build_beside
