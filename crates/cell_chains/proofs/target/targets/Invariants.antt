use Rattle.cell_chains.specs.Numbering.{texts}
use Rattle.cell_chains.proofs.TargetLaws.{AreTargetsTo}
use Rattle.cell_chains.proofs.target.targets.Given as goal

abbrev pub invariant-loop-element : goal.invariant-loop-element
invariant-loop-element l = AreTargetsTo (texts l.names) l.positions l.elements l.element-index l.targets
