use Rattle.std.proofs.Common.{ℕ, inl, subst}
use Rattle.std.proofs.lemmas.Option.{slice_get_within}
use Rattle.or_geom.specs.Gathering.{SomeHas}
use Rattle.or_geom.proofs.GatheringLaws.{who_has}
use Rattle.shape_bins.specs.declared.query.Query.TheVariants.{Meets}
use Rattle.shape_bins.specs.Hits.{IsHit, IsHitBelow}
use Rattle.shape_bins.specs.Places.{HasBetween}
use Rattle.net_extractor.specs.Contacts.{IsInContactAt}
use Rattle.net_extractor.specs.Marks.{IsPairBetween, IsSearched}
use Rattle.net_extractor.proofs.JoinLaws.{joins_as}
use Rattle.net_extractor.proofs.PairLaws.{AreAll, all_added, contact_pair, pair_contact, run_within}
use Rattle.net_extractor.proofs.walk.join_leaf.Goals as goal

pub join_places-requires-clause-places : goal.join_places-requires-clause-places
join_places-requires-clause-places c =
    let near : AreAll (IsHitBelow c.args.forest c.args.leaf (Meets c.args.search.run.hull)) c.add_of_leaf.new.out.items = all_added _ _ _ c.clear.ensures.items c.in_ok-add_of_leaf.ensures in
    rw c.deref.ensures.value (λ place h. let hit = near.only place h in slice_get_within c.args.forest.shapes.now place hit.1.shape hit.1.there)

pub join_places-requires-clause-run : goal.join_places-requires-clause-run
join_places-requires-clause-run c = run_within c.args.forest.shapes.now c.args.search.run c.args.search.own.now _ c.requires.sized c.requires.run

pub returns : goal.returns
returns c =
    let shapes = c.args.forest.shapes.now in
    let places = c.args.forest.places.now in
    let leaf = c.args.leaf in
    let search = c.args.search in
    let own = search.own.now in
    let found = c.add_of_leaf.new.out.items in
    let below : AreAll (IsHitBelow c.args.forest leaf (Meets search.run.hull)) found = all_added _ _ _ c.clear.ensures.items c.in_ok-add_of_leaf.ensures in
    let near : AreAll (HasBetween (IsHit shapes search.layer (Meets search.run.hull)) places leaf.first leaf.end) found =
    subst (λ (layer : ℕ). AreAll (HasBetween (IsHit shapes layer (Meets search.run.hull)) places leaf.first leaf.end) found) c.requires.on below in
    joins_as (λ a b. SomeHas (λ (place : ℕ). IsInContactAt search.contact shapes own place a b) found) (IsPairBetween (IsSearched c.args.forest search) places leaf.first leaf.end) _ _
    (λ a b h.
    let some = who_has (λ (place : ℕ). IsInContactAt search.contact shapes own place a b) found h in
    inl (contact_pair shapes search.run own c.requires.run search.contact search.layer places found leaf.first leaf.end some.0 a b near some.1 some.2))
    (λ a b h. inl (pair_contact shapes search.run own c.requires.run search.contact search.layer places found leaf.first leaf.end a b near h))
    (rw c.deref.ensures.value at c.join_places.ensures)
