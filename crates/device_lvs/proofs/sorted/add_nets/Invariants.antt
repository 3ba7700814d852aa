use Rattle.std.proofs.Common.{◌≡◌, ◌++◌, map, length}
use Rattle.device_lvs.specs.Sorted.{net_first}
use Rattle.device_lvs.proofs.sorted.add_nets.Given as goal

abbrev pub invariant-loop-first : goal.invariant-loop-first
invariant-loop-first l = map net_first l.sorted.items ++ l.rest ≡ map net_first l.fn.sorted.items ++ l.names

abbrev pub decreases-loop-first : goal.decreases-loop-first
decreases-loop-first l = length l.rest
