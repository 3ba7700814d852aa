use Rattle.cell_chains.proofs.TargetLaws.{ArePlaced}
use Rattle.cell_chains.proofs.target.positions.Given as goal

abbrev pub invariant-loop-place : goal.invariant-loop-place
invariant-loop-place l = ArePlaced l.order l.count l.place l.positions.items
