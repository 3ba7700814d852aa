use Rattle.kit_check.proofs.ShareLaws.{AreGoodBefore}
use Rattle.kit_check.proofs.share.first_of_worker.Given as goal

abbrev pub invariant-loop-index : goal.invariant-loop-index
invariant-loop-index g l = AreGoodBefore l.workers l.worker (g.M.Maker.answers l.trial.maker.now) l.trial.kit.now l.trial.name.now l.index
