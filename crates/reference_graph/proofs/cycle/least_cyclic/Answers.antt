-- No node before this one is marked.
use Rattle.std.proofs.Common.{arith}
use Rattle.reference_graph.proofs.PathLaws.{reaches_within}
use Rattle.reference_graph.proofs.cycle.least_cyclic.Goals as goal

pub returns-clause-none : goal.returns-clause-none
returns-clause-none c = λ node reached itself.
    let within = reaches_within c.args.graph.now c.args.start node c.requires.within c.requires.inside reached in
    c.loop-node.invariant node (omega arith) ((c.in_ok-marks.ensures.exact node).1 (reached, itself))
