use Rattle.std.proofs.Common.{map}
use Rattle.device_lvs.specs.Sorted.{AreNotSplitBelow, name_first}
use Rattle.device_lvs.proofs.split.first_split.Given as goal

abbrev pub invariant-loop-place : goal.invariant-loop-place
invariant-loop-place l = AreNotSplitBelow (map name_first l.names) l.place
