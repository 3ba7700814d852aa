use Rattle.device_entries.specs.Parting.{AreSameBelow}
use Rattle.device_entries.proofs.uneven.common_length.Given as goal

abbrev pub invariant-loop-place : goal.invariant-loop-place
invariant-loop-place l = AreSameBelow l.entries l.others l.place
