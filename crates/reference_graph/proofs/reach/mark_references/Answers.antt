-- A reference that has its mark is passed over, and another is marked and added.
use Rattle.std.proofs.Common.{ap, ◌∙◌, arith}
use Rattle.reference_graph.proofs.MarkLaws.{mark_skips, mark_adds}
use Rattle.reference_graph.proofs.reach.mark_references.Goals as goal
use Rattle.reference_graph.proofs.reach.mark_references.Goals.{then-not-marks-node+in_ok-push, else-not-marks-node}

pub loop-node-preserved : goal.loop-node-preserved
loop-node-preserved c = elim c.if-not-marks-node.branch [
  | then-not-marks-node+in_ok-push w ↦
      mark_adds c.args.references.now c.loop-node.node-index c.args.marks.now c.args.found.now.items c.loop-node.marks c.loop-node.found.items c.if-not-marks-node.marks c.if-not-marks-node.found.items
      c.loop-node-test.true (omega (arith, c.requires c.loop-node.node-index 0 c.loop-node-test.true)) w.if-not-marks-node.true w.marks-is (ap (λ v. v.items) w.found-is ∙ w.in_ok-push.ensures.items) c.loop-node.invariant
  | else-not-marks-node w ↦
      mark_skips c.args.references.now c.loop-node.node-index c.args.marks.now c.args.found.now.items c.loop-node.marks c.loop-node.found.items c.if-not-marks-node.marks c.if-not-marks-node.found.items
      c.loop-node-test.true w.if-not-marks-node.false w.marks-is (ap (λ v. v.items) w.found-is) c.loop-node.invariant
]
