use Rattle.kit_check.specs.Quick.{AllFoundTrue}
use Rattle.kit_check.proofs.quick_share.all_pass.Given as goal

abbrev pub invariant-loop-worker : goal.invariant-loop-worker
invariant-loop-worker l = AllFoundTrue l.found l.worker
