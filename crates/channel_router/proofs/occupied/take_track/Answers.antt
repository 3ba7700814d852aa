-- The first of the free tracks is the lowest.
use Rattle.std.proofs.Common.{◌≡◌, inl, inr, ℕ, List, ◌∷◌, refl, sym, subst, arith}
use Rattle.std.specs.Prelude.{All, Contains}
use Rattle.std.specs.Ordering.{nat_cmp}
use Rattle.std.specs.declared.cmp.Ordering.TheVariants.{Less}
use Rattle.std.proofs.lemmas.List.Elements.{All-contains}
use Rattle.or_geom.proofs.ListLaws.{contains_cases, contains_first, contains_later}
use Rattle.channel_router.specs.Occupied.{TakesFree}
use Rattle.channel_router.proofs.OccupiedLaws.{less_from}
use Rattle.channel_router.proofs.occupied.take_track.Goals as goal

takes_first : (old new : List ℕ) (track : ℕ) → old ≡ track ∷ new → All (λ u. nat_cmp track u ≡ Less) new → TakesFree old new track
takes_first old new track is above = record {
  there = subst (λ (l : List ℕ). Contains l track) (sym is) (contains_first track new);
  lowest = λ u there. elim (contains_cases track new u (subst (λ (l : List ℕ). Contains l u) is there)) [
    | inl e ↦ omega (arith, e)
    | inr later ↦ let lt = less_from track u (All-contains (λ (v : ℕ). nat_cmp track v ≡ Less) new u above later) in omega (arith, lt)
  ];
  gone = λ there. let lt = less_from track track (All-contains (λ (v : ℕ). nat_cmp track v ≡ Less) new track above there) in omega (arith, lt);
  kept = λ u there. contains_cases track new u (subst (λ (l : List ℕ). Contains l u) is there);
  only = λ u there. subst (λ (l : List ℕ). Contains l u) (sym is) (contains_later track new u there);
}

pub returns-in-Some : goal.returns-in-Some
returns-in-Some c = inl (takes_first c.args.free.now.keys c.pop_first.new.self.keys c.in-Some.lowest c.in-Some.ensures.removal c.in-Some.ensures.all_above, refl)
