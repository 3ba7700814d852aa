use Rattle.rom_laws.proofs.Selects.{roms_hold_words}
use Rattle.rom_laws.proofs.laws.roms_hold_words.Goals as goal

pub returns : goal.returns
returns c = roms_hold_words
