use Rattle.spice_text.proofs.ReadDecks.{decks_are_lowered}
use Rattle.spice_text.proofs.laws.decks_are_lowered.Goals as goal

pub returns : goal.returns
returns c = decks_are_lowered
