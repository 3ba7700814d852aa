use Rattle.cell_hierarchy.specs.Counts.{Total}
use Rattle.cell_hierarchy.specs.CountsBelow.{AreBelowFrom}
use Rattle.cell_hierarchy.proofs.CountsBelowLaws.{IsSumTo}
use Rattle.cell_hierarchy.proofs.references.below.Given as goal

abbrev pub invariant-loop-place : goal.invariant-loop-place
invariant-loop-place l = (total : Total) → AreBelowFrom l.counts l.targets 0 l.elements total → IsSumTo l.counts l.targets l.elements l.place l.sum total
