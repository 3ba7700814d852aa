use Rattle.std.proofs.Common.{arith}
use Rattle.kit_tests.proofs.ShortLaws.{short_faults}
use Rattle.kit_tests.proofs.short_maker.ShortMakerMaker.make.Goals as goal

pub returns-clause-fault : goal.returns-clause-fault
returns-clause-fault c = short_faults c.args.kit.now c.args.plan.now c.args.name.now c.make.result (omega (arith, c.if-plan-gt-MOST_ROWS.false)) c.make.ensures.fault
