use Rattle.std.proofs.Common.{ℕ, List, refl, sym, subst}
use Rattle.tile_checker.specs.Tiles.{AreFirstPlaces}
use Rattle.tile_checker.proofs.EarliestLaws.{stays_first}
use Rattle.tile_checker.proofs.FirstFoundLaws.{rule_passed}
use Rattle.tile_checker.proofs.first_in_tile.first_of_rule.Goals as goal

pub returns-then-is_past-clause-first : goal.returns-then-is_past-clause-first
returns-then-is_past-clause-first c = stays_first c.args.kept _ (rule_passed c.args.number c.args.rule.now c.args.bins.now c.args.tile c.args.kept (c.if-is_past.ensures refl))

pub first_of_places-requires-clause-places : goal.first_of_places-requires-clause-places
first_of_places-requires-clause-places c = subst (λ (l : List ℕ). AreFirstPlaces c.args.rule.now c.args.bins.now c.args.tile l) (sym c.deref.ensures.value) c.in_ok-list_firsts.ensures
