use Rattle.kit_check.specs.Shares.{FindsFirst}
use Rattle.kit_check.proofs.share.first_of_all.Given as goal

abbrev pub invariant-loop-worker : goal.invariant-loop-worker
invariant-loop-worker l = FindsFirst l.found l.worker l.first
