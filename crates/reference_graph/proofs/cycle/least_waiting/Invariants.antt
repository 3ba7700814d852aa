use Rattle.std.proofs.Common.{take}
use Rattle.std.specs.Prelude.{MatchOption}
use Rattle.reference_graph.specs.Waits.{NoneWaits, IsLeastWaiting}
use Rattle.reference_graph.proofs.cycle.least_waiting.Given as goal

abbrev pub invariant-loop-node : goal.invariant-loop-node
invariant-loop-node l = MatchOption l.least (NoneWaits l.standings (take l.node-index l.references)) (IsLeastWaiting l.standings (take l.node-index l.references))
