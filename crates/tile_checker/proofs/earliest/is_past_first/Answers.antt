use Rattle.std.proofs.Common.{sym, ◌∙◌}
use Rattle.tile_checker.proofs.EarliestLaws.{first_behind}
use Rattle.tile_checker.proofs.earliest.is_past_first.Goals as goal

pub returns-in-Less : goal.returns-in-Less
returns-in-Less c = λ yes. rw c.in-Some.is (first_behind c.in-Some.least c.args.number c.args.first c.if-least-number.false (sym c.cmp.ensures ∙ c.in-Less.is))
