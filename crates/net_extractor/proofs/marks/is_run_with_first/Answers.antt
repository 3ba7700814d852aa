use Rattle.net_extractor.proofs.MarkLaws.{run_first}
use Rattle.net_extractor.proofs.marks.is_run_with_first.Goals as goal

pub returns-in-Some-clause-first : goal.returns-in-Some-clause-first
returns-in-Some-clause-first c = λ yes. run_first c.args.forest c.args.node c.args.run.now c.first_root.new.above c.is_run_with.new.above c.in-Some.top c.is_run_with.ensures.alike.kept c.in-Some.ensures.first (c.is_run_with.ensures.with_top yes)
