use Rattle.rom_leaves.proofs.RomLeafLaws.{stand_as_bitcells}
use Rattle.rom_leaves.proofs.laws.rom_leaves_stand_as_bitcells.Goals as goal

pub returns : goal.returns
returns c = stand_as_bitcells
