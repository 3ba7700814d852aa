use Rattle.kit_laws.proofs.OneRomLaws.{one_rom_fault, no_rom_fault}
use Rattle.kit_laws.proofs.rom_leaf_faults_are_unique.Goals as goal

pub returns-clause-one : goal.returns-clause-one
returns-clause-one c = one_rom_fault

pub returns-clause-apart : goal.returns-clause-apart
returns-clause-apart c = no_rom_fault
