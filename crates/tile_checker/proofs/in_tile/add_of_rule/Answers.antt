use Rattle.std.proofs.Common.{ℕ, List, sym, subst}
use Rattle.std.proofs.lemmas.Result.{on_ok_weaker}
use Rattle.tile_checker.specs.Firsts.{ArePlaces}
use Rattle.tile_checker.proofs.OwnerLaws.{rule_found}
use Rattle.tile_checker.proofs.in_tile.add_of_rule.Goals as goal

pub add_of_firsts-requires-clause-firsts : goal.add_of_firsts-requires-clause-firsts
add_of_firsts-requires-clause-firsts c = subst (λ (l : List ℕ). ArePlaces c.args.bins.now l) (sym c.deref.ensures.value) c.in_ok-list_firsts.ensures.inside

pub returns-clause-adds : goal.returns-clause-adds
returns-clause-adds c = on_ok_weaker _ (λ a. rule_found c.args.number c.args.rule.now c.args.bins.now c.args.tile _ _ _ c.in_ok-list_firsts.ensures (rw c.deref.ensures.value at a)) c.add_of_firsts.ensures.adds
