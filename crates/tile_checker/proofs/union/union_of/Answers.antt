use Rattle.tile_checker.proofs.ViolationLaws.{same_violation}
use Rattle.tile_checker.proofs.union.union_of.Goals as goal

pub returns : goal.returns
returns c = record {
  there = c.in_ok-all.ensures.there;
  rises = c.sort_distinct.ensures.rises;
  holds = λ v. (λ h. (c.in_ok-all.ensures.holds v).0 (c.sort_distinct.ensures.adds_none v h), λ g. c.sort_distinct.ensures.keeps same_violation v ((c.in_ok-all.ensures.holds v).1 g));
}
