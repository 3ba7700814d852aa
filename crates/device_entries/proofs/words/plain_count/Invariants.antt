use Rattle.std.proofs.Common.{◌≡◌, ◌++◌, take, drop}
use Rattle.spice_text.specs.Words.{before_assignment}
use Rattle.device_entries.proofs.words.plain_count.Given as goal

abbrev pub invariant-loop-index : goal.invariant-loop-index
invariant-loop-index l = take l.index l.words ++ before_assignment (drop l.index l.words) ≡ before_assignment l.words
