use Rattle.shape_bins.specs.Clear.{AreClearTo}
use Rattle.shape_bins.proofs.clear.clearances_of.Given as goal

abbrev pub invariant-loop-index : goal.invariant-loop-index
invariant-loop-index l = AreClearTo l.forest.shapes.now l.boxes l.index l.clearances.items
