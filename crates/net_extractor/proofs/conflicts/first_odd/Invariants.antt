use Rattle.net_extractor.specs.Conflicts.{AgreeBefore}
use Rattle.net_extractor.proofs.conflicts.first_odd.Given as goal

abbrev pub invariant-loop-earlier : goal.invariant-loop-earlier
invariant-loop-earlier l = AgreeBefore l.nets l.earlier l.place
