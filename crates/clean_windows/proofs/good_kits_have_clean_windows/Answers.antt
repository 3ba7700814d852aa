use Rattle.clean_windows.proofs.SoundLaws.{good_kits_have_clean_windows}
use Rattle.clean_windows.proofs.good_kits_have_clean_windows.Goals as goal

pub returns : goal.returns
returns c = good_kits_have_clean_windows
