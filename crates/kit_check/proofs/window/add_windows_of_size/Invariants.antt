use Rattle.std.proofs.Common.{◌≡◌, ◌++◌, take}
use Rattle.std.specs.List.{flat_map}
use Rattle.kit_check.specs.Windows.{windows_of_words}
use Rattle.kit_check.proofs.window.add_windows_of_size.Given as goal

abbrev pub invariant-loop-wpr : goal.invariant-loop-wpr
invariant-loop-wpr l = l.out.items ≡ l.fn.out.items ++ flat_map (windows_of_words l.size) (take l.wpr-index l.wpr-items)
