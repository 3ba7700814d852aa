use Rattle.std.proofs.Common.{◌≡◌, ◌++◌, take}
use Rattle.std.specs.List.{flat_map}
use Rattle.kit_check.specs.Windows.{windows_of_rows}
use Rattle.kit_check.proofs.window.add_windows_of_words.Given as goal

abbrev pub invariant-loop-rows : goal.invariant-loop-rows
invariant-loop-rows l = l.out.items ≡ l.fn.out.items ++ flat_map (windows_of_rows l.size l.wpr) (take l.rows-index l.rows-items)
