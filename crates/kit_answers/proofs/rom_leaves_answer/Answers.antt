use Rattle.kit_answers.proofs.RomLeafLaws.{rom_leaves_answer}
use Rattle.kit_answers.proofs.rom_leaves_answer.Goals as goal

pub returns : goal.returns
returns c = rom_leaves_answer
