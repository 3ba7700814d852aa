use Rattle.std.proofs.Common.{sym, ◌∙◌}
use Rattle.tile_checker.proofs.EarliestLaws.{one_alone, less_stays, equal_stays, greater_goes}
use Rattle.tile_checker.proofs.earliest.earlier_of.Goals as goal

pub returns-in_default : goal.returns-in_default
returns-in_default c = one_alone c.args.kept c.args.other c.in_default.is

pub returns-in-Less : goal.returns-in-Less
returns-in-Less c = less_stays c.args.kept c.in-Some.least c.args.other c.in-Some.is (sym c.cmp.ensures ∙ c.in-Less.is)

pub returns-in-Equal : goal.returns-in-Equal
returns-in-Equal c = equal_stays c.args.kept c.in-Some.least c.args.other c.in-Some.is (sym c.cmp.ensures ∙ c.in-Equal.is)

pub returns-in-Greater : goal.returns-in-Greater
returns-in-Greater c = greater_goes c.args.kept c.in-Some.least c.args.other c.in-Some.is (sym c.cmp.ensures ∙ c.in-Greater.is)
