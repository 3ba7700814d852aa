-- A reference that waits may stand lower than those before it, and another changes nothing.
use Rattle.std.proofs.Common.{◌≤◌, List, ℕ, length, subst, arith}
use Rattle.std.specs.Prelude.{MatchOption}
use Rattle.std.proofs.lemmas.List.{take_all}
use Rattle.reference_graph.specs.Waits.{NoneWaits, IsLeastWaiting}
use Rattle.reference_graph.proofs.WaitLaws.{least_skips, least_takes}
use Rattle.reference_graph.proofs.cycle.least_waiting.Goals as goal
use Rattle.reference_graph.proofs.cycle.least_waiting.Goals.{in-Waiting, in_default}

pub loop-node-preserved : goal.loop-node-preserved
loop-node-preserved c = elim c.match-standings-node.branch [
  | in-Waiting w ↦
      rw (w.least-is, w.min.ensures, w.unwrap_or.ensures)
      (least_takes c.args.standings.now c.args.references.now c.loop-node.node-index w.in-Waiting.place c.loop-node.least c.loop-node-test.true w.in-Waiting.is c.loop-node.invariant)
  | in_default w ↦
      rw w.least-is
      (least_skips c.args.standings.now c.args.references.now c.loop-node.node-index c.loop-node.least c.loop-node-test.true w.in_default.not-Waiting c.loop-node.invariant)
]

pub returns : goal.returns
returns c =
    let le : length c.args.references.now ≤ c.loop-node.node-index = omega arith in
    subst (λ (xs : List ℕ). MatchOption c.loop-node.least (NoneWaits c.args.standings.now xs) (IsLeastWaiting c.args.standings.now xs)) (take_all c.loop-node.node-index c.args.references.now le) c.loop-node.invariant
