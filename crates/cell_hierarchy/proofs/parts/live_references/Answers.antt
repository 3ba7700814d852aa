use Rattle.cell_hierarchy.proofs.PartLaws.{live_all, live_more, live_skip}
use Rattle.cell_hierarchy.proofs.parts.live_references.Goals as goal
use Rattle.cell_hierarchy.proofs.parts.live_references.Goals.{then-leads_to_some+in_ok-push, else-leads_to_some}

pub loop-n-preserved : goal.loop-n-preserved
loop-n-preserved c = elim c.if-leads_to_some.branch [
  | then-leads_to_some+in_ok-push w ↦
      rw w.live-is (live_more c.args.elements.now c.args.targets.now c.args.parts.now c.loop-n.n c.loop-n.live.items _ c.loop-n-test.true w.in_ok-push.ensures.items c.loop-n.invariant)
  | else-leads_to_some w ↦
      rw w.live-is
      (live_skip c.args.elements.now c.args.targets.now c.args.parts.now c.loop-n.n c.loop-n.live.items c.index-elements-n.result c.leads_to_some.result c.loop-n-test.true c.index-elements-n.is w.if-leads_to_some.false c.leads_to_some.ensures c.loop-n.invariant)
]

pub returns : goal.returns
returns c = live_all c.args.elements.now c.args.targets.now c.args.parts.now c.loop-n.n _ c.loop-n-test.false c.loop-n.invariant
