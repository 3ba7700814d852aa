use Rattle.std.proofs.Common.{map}
use Rattle.device_lvs.specs.Sorted.{AreLeastBelow, net_first}
use Rattle.device_lvs.proofs.joined.least_place.Given as goal

abbrev pub invariant-loop-place : goal.invariant-loop-place
invariant-loop-place l = AreLeastBelow (map net_first l.nets) l.place l.least
