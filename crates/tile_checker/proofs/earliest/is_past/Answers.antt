use Rattle.tile_checker.proofs.EarliestLaws.{rule_behind}
use Rattle.tile_checker.proofs.earliest.is_past.Goals as goal

pub returns-then-least-number : goal.returns-then-least-number
returns-then-least-number c = λ yes. rw c.in-Some.is (rule_behind c.in-Some.least c.args.number c.if-least-number.true)
