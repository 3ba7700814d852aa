use Rattle.kit_laws.proofs.OneCellLaws.{one_outline}
use Rattle.kit_laws.proofs.outlines_are_unique.Goals as goal

pub returns : goal.returns
returns c = one_outline
