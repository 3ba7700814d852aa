use Rattle.std.proofs.Common.{Some}
use Rattle.tile_checker.proofs.EarliestLaws.{none_found, some_found}
use Rattle.tile_checker.proofs.earliest.earlier.Goals as goal

pub returns-in_default : goal.returns-in_default
returns-in_default c = none_found c.args.kept c.args.other c.in_default.is

pub returns : goal.returns
returns c = some_found c.args.kept c.args.other c.in-Some.violation (Some c.earlier_of.result) c.in-Some.is c.earlier_of.ensures
