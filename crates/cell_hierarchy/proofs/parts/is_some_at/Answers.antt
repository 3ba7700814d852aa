use Rattle.cell_hierarchy.proofs.PartLaws.{got, not_got, some_is}
use Rattle.cell_hierarchy.proofs.parts.is_some_at.Goals as goal

pub returns-in-Some : goal.returns-in-Some
returns-in-Some c =
    some_is c.args.parts.now c.args.index c.in-Some.part.now c.is_blank.result (got c.args.parts.now c.args.index c.in-Some.part.now c.in-Some.ensures.lookup.0 c.in-Some.ensures.lookup.1) c.is_blank.ensures

pub returns-in-None : goal.returns-in-None
returns-in-None c = (λ t. absurd cc, λ s. absurd (not_got c.args.parts.now c.args.index s.part c.in-None.ensures.lookup.0 s.is))
