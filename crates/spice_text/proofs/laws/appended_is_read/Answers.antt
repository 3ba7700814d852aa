use Rattle.spice_text.proofs.AppendedText.{appended_is_read}
use Rattle.spice_text.proofs.laws.appended_is_read.Goals as goal

pub returns : goal.returns
returns c = appended_is_read
