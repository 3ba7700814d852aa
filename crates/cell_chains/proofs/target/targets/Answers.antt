-- One element more.
use Rattle.std.proofs.Common.{sym, ap, ◌∙◌, arith}
use Rattle.cell_chains.specs.Hierarchy.{referred_name}
use Rattle.cell_chains.proofs.TargetLaws.{refers_among, targets_more, targets_all}
use Rattle.cell_chains.proofs.target.targets.Goals as goal

pub target_of-requires-clause-there : goal.target_of-requires-clause-there
target_of-requires-clause-there c = λ name refers.
    c.requires.there name (refers_among c.args.elements.now c.element-item.result name (c.loop-element.element-index, c.loop-element-test.true, sym c.element-item.is) refers)

pub loop-element-preserved : goal.loop-element-preserved
loop-element-preserved c =
    rw c.in_ok-push.ensures.ok
    (targets_more _ c.args.positions.now c.args.elements.now c.loop-element.element-index c.loop-element.targets c.element-item.result c.target_of.result
    (λ name refers. c.target_of.ensures name (ap referred_name c.element-item.is ∙ refers)) c.loop-element.invariant)

pub returns : goal.returns
returns c = targets_all _ c.args.positions.now c.args.elements.now c.loop-element.element-index c.loop-element.targets (omega arith) c.loop-element.invariant
