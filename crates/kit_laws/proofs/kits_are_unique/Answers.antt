use Rattle.kit_laws.proofs.OneKitLaws.{one_kit}
use Rattle.kit_laws.proofs.kits_are_unique.Goals as goal

pub returns : goal.returns
returns c = one_kit
