use Rattle.std.proofs.Common.{◌≡◌, ◌++◌, map, length}
use Rattle.device_lvs.specs.Sorted.{name_first}
use Rattle.device_lvs.proofs.sorted.add_names.Given as goal

abbrev pub invariant-loop-first : goal.invariant-loop-first
invariant-loop-first l = map name_first l.sorted.items ++ l.rest ≡ map name_first l.fn.sorted.items ++ l.names

abbrev pub decreases-loop-first : goal.decreases-loop-first
decreases-loop-first l = length l.rest
