use Rattle.spice_text.proofs.ReadDecks.{subckt_names_are_readable}
use Rattle.spice_text.proofs.laws.subckt_names_are_readable.Goals as goal

pub returns : goal.returns
returns c = subckt_names_are_readable
