use Rattle.written_layout.proofs.WrittenLaws as laws
use Rattle.written_layout.proofs.laws.writing_keeps_flat.Goals as goal

pub returns : goal.returns
returns c = laws.writing_keeps_flat c.libraries_are_unique.ensures
