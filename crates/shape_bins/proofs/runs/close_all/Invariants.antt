use Rattle.shape_bins.specs.Runs.{KeepsRuns}
use Rattle.shape_bins.proofs.runs.close_all.Given as goal

abbrev pub invariant-loop : goal.invariant-loop
invariant-loop l = KeepsRuns l.fn.growing.items l.fn.ended.items l.growing.items l.ended.items
