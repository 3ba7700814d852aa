use Rattle.written_layout.proofs.WrittenLaws as laws
use Rattle.written_layout.proofs.laws.turning_keeps_flat.Goals as goal

pub returns : goal.returns
returns c = laws.turning_keeps_flat
