use Rattle.std.proofs.Common.{◌≡◌, take}
use Rattle.std.specs.List.{flat_map}
use Rattle.kit_check.specs.Windows.{windows_of_size, word_sizes}
use Rattle.kit_check.proofs.window.windows.Given as goal

abbrev pub invariant-loop-index : goal.invariant-loop-index
invariant-loop-index l = l.list.items ≡ flat_map windows_of_size (take l.index word_sizes)
