use Rattle.std.proofs.Common.{◌-◌, length}
use Rattle.net_extractor.specs.Runs.{IsNearRun}
use Rattle.net_extractor.proofs.run.take_run.Given as goal

abbrev pub invariant-loop-run : goal.invariant-loop-run
invariant-loop-run l = IsNearRun l.shapes l.order l.begin l.run l.own.items

abbrev pub decreases-loop-run : goal.decreases-loop-run
decreases-loop-run l = length l.order - l.run.end
