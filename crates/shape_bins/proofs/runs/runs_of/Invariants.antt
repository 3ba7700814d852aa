use Rattle.shape_bins.specs.Runs.{FillRuns}
use Rattle.shape_bins.proofs.runs.runs_of.Given as goal

abbrev pub invariant-loop-shape : goal.invariant-loop-shape
invariant-loop-shape l = FillRuns l.shapes l.growing.items l.ended.items
