use Rattle.rom_leaves.proofs.RomLeafLaws.{leaves_are_leaves}
use Rattle.rom_leaves.proofs.laws.rom_leaves_are_leaves.Goals as goal

pub returns : goal.returns
returns c = leaves_are_leaves
