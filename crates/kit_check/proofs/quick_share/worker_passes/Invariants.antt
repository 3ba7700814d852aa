use Rattle.kit_check.proofs.QuickShareLaws.{PassBefore}
use Rattle.kit_check.proofs.quick_share.worker_passes.Given as goal

abbrev pub invariant-loop-index : goal.invariant-loop-index
invariant-loop-index g l = PassBefore l.workers l.worker (g.M.Maker.answers l.trial.maker.now) l.trial.kit.now l.trial.name.now l.index
