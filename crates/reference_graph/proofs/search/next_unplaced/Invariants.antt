use Rattle.reference_graph.specs.Search.{ArePlaced}
use Rattle.reference_graph.proofs.search.next_unplaced.Given as goal

abbrev pub invariant-loop-place : goal.invariant-loop-place
invariant-loop-place l = ArePlaced l.stages l.references l.place
