use Rattle.design_answers.proofs.RomDesignLaws.{rom_designs_answer}
use Rattle.design_answers.proofs.rom_designs_answer.Goals as goal

pub returns : goal.returns
returns c = rom_designs_answer
