use Rattle.rom_laws.proofs.ExampleLaw.{example_answers}
use Rattle.rom_laws.proofs.laws.rom_example_answers.Goals as goal

pub returns : goal.returns
returns c = example_answers
