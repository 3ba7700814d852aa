use Rattle.build_command.proofs.OneWorkLaws.{rom_works_are_one}
use Rattle.build_command.proofs.laws.rom_works_are_one.Goals as goal

pub returns : goal.returns
returns c = rom_works_are_one
