use Rattle.std.proofs.Common.{Some}
use Rattle.tile_checker.specs.Earliest.{StandsAt}
use Rattle.tile_checker.proofs.EarliestLaws.{below_begins, below_goes_on, read_one, stands_all}
use Rattle.tile_checker.proofs.earliest.earliest_of.Goals as goal

pub loop-violation-init : goal.loop-violation-init
loop-violation-init c = below_begins c.args.kept (StandsAt c.args.list.now)

pub loop-violation-preserved : goal.loop-violation-preserved
loop-violation-preserved c =
    below_goes_on c.args.kept c.loop-violation.least (Some c.earlier_of.result) (StandsAt c.args.list.now) c.loop-violation.violation-index c.loop-violation.invariant
    (read_one c.args.list.now c.loop-violation.violation-index c.violation-item.result c.loop-violation.least (Some c.earlier_of.result) c.loop-violation-test.true c.violation-item.is c.earlier_of.ensures)

pub returns : goal.returns
returns c = stands_all c.args.list.now c.loop-violation.violation-index c.args.kept c.loop-violation.least c.loop-violation-test.false c.loop-violation.invariant
