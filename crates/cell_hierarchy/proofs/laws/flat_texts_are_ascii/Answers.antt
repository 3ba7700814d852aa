use Rattle.cell_hierarchy.proofs.AsciiLaws.{texts_are_ascii}
use Rattle.cell_hierarchy.proofs.laws.flat_texts_are_ascii.Goals as goal

pub returns : goal.returns
returns c = texts_are_ascii
