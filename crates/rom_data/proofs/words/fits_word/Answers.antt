use Rattle.rom_data.proofs.WordLaws.{fits_as_shifted}
use Rattle.rom_data.proofs.words.fits_word.Goals as goal

pub returns-else-word_size-eq64 : goal.returns-else-word_size-eq64
returns-else-word_size-eq64 c = fits_as_shifted c.args.word c.args.word_size
