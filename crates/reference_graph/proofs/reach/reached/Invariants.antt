use Rattle.std.proofs.Common.{◌+◌, ◌-◌, length}
use Rattle.reference_graph.specs.Spread.{unmarked}
use Rattle.reference_graph.proofs.ReachLaws.{IsSpread}
use Rattle.reference_graph.proofs.reach.reached.Given as goal

abbrev pub invariant-loop-place : goal.invariant-loop-place
invariant-loop-place l = IsSpread l.graph l.start l.marks.items l.found.items l.place

abbrev pub decreases-loop-place : goal.decreases-loop-place
decreases-loop-place l = unmarked l.marks.items + (length l.found.items - l.place)
