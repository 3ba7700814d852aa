use Rattle.std.proofs.Common.{◌≡◌, ◌++◌, map, take}
use Rattle.kit_check.specs.Windows.{window_with}
use Rattle.kit_check.proofs.window.add_windows_of_rows.Given as goal

abbrev pub invariant-loop-banks : goal.invariant-loop-banks
invariant-loop-banks l = l.out.items ≡ l.fn.out.items ++ map (window_with l.size l.wpr l.rows) (take l.banks-index l.banks-items)
