use Rattle.std.proofs.Common.{◌≡◌, length}
use Rattle.cell_chains.specs.Instances.{reference_name}
use Rattle.cell_chains.proofs.instance.reference_name.Given as goal

abbrev pub invariant-loop-first : goal.invariant-loop-first
invariant-loop-first l = reference_name l.place l.rest ≡ reference_name l.place l.props

abbrev pub decreases-loop-first : goal.decreases-loop-first
decreases-loop-first l = length l.rest
