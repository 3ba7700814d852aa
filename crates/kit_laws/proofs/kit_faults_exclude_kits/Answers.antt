use Rattle.kit_laws.proofs.OneKitLaws.{no_kit_beside}
use Rattle.kit_laws.proofs.kit_faults_exclude_kits.Goals as goal

pub returns : goal.returns
returns c = no_kit_beside
