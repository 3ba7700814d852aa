use Rattle.std.proofs.Common.{◌≡◌, ◌++◌, length}
use Rattle.spice_text.specs.Words.{words_of}
use Rattle.device_entries.proofs.words.words_in.Given as goal

abbrev pub invariant-bytes : goal.invariant-bytes
invariant-bytes l = l.words.items ++ words_of l.left ≡ words_of l.text

abbrev pub decreases-bytes : goal.decreases-bytes
decreases-bytes l = length l.left
