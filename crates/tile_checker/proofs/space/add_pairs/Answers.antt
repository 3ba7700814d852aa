use Rattle.std.proofs.Common.{refl, arith}
use Rattle.std.proofs.lemmas.List.{drop_all}
use Rattle.or_geom.proofs.ListLaws.{contained_at, rest_item}
use Rattle.or_geom.proofs.AddsLaws.{adds_one}
use Rattle.or_geom.proofs.GatheringLaws.{gather_skips, gather_goes_on, gather_ends}
use Rattle.tile_checker.proofs.PlaceLaws.{item_in, reachable_in}
use Rattle.tile_checker.proofs.PairLaws.{partner_inside, partner_read, same_second}
use Rattle.tile_checker.proofs.space.add_pairs.Goals as goal

pub loop-place-preserved-then-place-first : goal.loop-place-preserved-then-place-first
loop-place-preserved-then-place-first c =
    gather_skips _ _ _ _ _ _ _ (rest_item c.args.places.now c.loop-place.place-index 0 c.loop-place-test.true) c.loop-place.invariant
    (λ v p. let later = p.later in omega (arith, later, c.if-place-first.true))

pub shape_at-second-requires : goal.shape_at-second-requires
shape_at-second-requires c =
    partner_inside c.args.rule c.args.bins.now c.shapes-shapes.result.now c.args.first.shape _ c.shapes-shapes.ensures (c.requires.partners _ (item_in c.args.places.now c.loop-place.place-index 0 c.loop-place-test.true))

pub breaks_space-requires-clause-on : goal.breaks_space-requires-clause-on
breaks_space-requires-clause-on c =
    (partner_read c.args.rule c.args.bins.now c.shapes-shapes.result.now c.args.first.shape c.shape_at-second.result _ c.shapes-shapes.ensures
    (c.requires.partners _ (item_in c.args.places.now c.loop-place.place-index 0 c.loop-place-test.true)) c.shape_at-second.ensures).0

pub breaks_space-requires-clause-first : goal.breaks_space-requires-clause-first
breaks_space-requires-clause-first c = reachable_in c.args.bins.now c.args.first.shape c.requires.reach (contained_at c.args.bins.now c.args.first.place c.args.first.shape c.requires.at)

pub breaks_space-requires-clause-second : goal.breaks_space-requires-clause-second
breaks_space-requires-clause-second c =
    let there = (partner_read c.args.rule c.args.bins.now c.shapes-shapes.result.now c.args.first.shape c.shape_at-second.result _ c.shapes-shapes.ensures
    (c.requires.partners _ (item_in c.args.places.now c.loop-place.place-index 0 c.loop-place-test.true)) c.shape_at-second.ensures).1 in
    reachable_in c.args.bins.now c.shape_at-second.result c.requires.reach (contained_at c.args.bins.now _ c.shape_at-second.result there)

pub loop-place-preserved-then-not-breaks_space : goal.loop-place-preserved-then-not-breaks_space
loop-place-preserved-then-not-breaks_space c =
    let there = (partner_read c.args.rule c.args.bins.now c.shapes-shapes.result.now c.args.first.shape c.shape_at-second.result _ c.shapes-shapes.ensures
    (c.requires.partners _ (item_in c.args.places.now c.loop-place.place-index 0 c.loop-place-test.true)) c.shape_at-second.ensures).1 in
    gather_skips _ _ _ _ _ _ _ (rest_item c.args.places.now c.loop-place.place-index 0 c.loop-place-test.true) c.loop-place.invariant
    (λ v p. let yes = c.if-not-breaks_space.ensures.1 (same_second c.args.rule c.args.bins.now c.args.tile c.args.first _ c.shape_at-second.result v there p).0 in absurd cc)

pub owns_pair-requires : goal.owns_pair-requires
owns_pair-requires c = reachable_in c.args.bins.now c.args.first.shape c.requires.reach (contained_at c.args.bins.now c.args.first.place c.args.first.shape c.requires.at)

pub loop-place-preserved-then-not-owns_pair : goal.loop-place-preserved-then-not-owns_pair
loop-place-preserved-then-not-owns_pair c =
    let there = (partner_read c.args.rule c.args.bins.now c.shapes-shapes.result.now c.args.first.shape c.shape_at-second.result _ c.shapes-shapes.ensures
    (c.requires.partners _ (item_in c.args.places.now c.loop-place.place-index 0 c.loop-place-test.true)) c.shape_at-second.ensures).1 in
    gather_skips _ _ _ _ _ _ _ (rest_item c.args.places.now c.loop-place.place-index 0 c.loop-place-test.true) c.loop-place.invariant
    (λ v p. let yes = c.if-not-owns_pair.ensures.1 (same_second c.args.rule c.args.bins.now c.args.tile c.args.first _ c.shape_at-second.result v there p).2 in absurd cc)

pub loop-place-preserved : goal.loop-place-preserved
loop-place-preserved c =
    let there = (partner_read c.args.rule c.args.bins.now c.shapes-shapes.result.now c.args.first.shape c.shape_at-second.result _ c.shapes-shapes.ensures
    (c.requires.partners _ (item_in c.args.places.now c.loop-place.place-index 0 c.loop-place-test.true)) c.shape_at-second.ensures).1 in
    gather_goes_on _ _ _ _ _ _ _ _ (rest_item c.args.places.now c.loop-place.place-index 0 c.loop-place-test.true) c.loop-place.invariant
    (adds_one _ _ _ _ c.in_ok-push.ensures.items
    (record { second = c.shape_at-second.result; there = there; later = c.if-place-first.false; is = refl; found = c.if-not-breaks_space.ensures.0 refl; owned = c.if-not-owns_pair.ensures.0 refl })
    (λ v p. (same_second c.args.rule c.args.bins.now c.args.tile c.args.first _ c.shape_at-second.result v there p).1))

pub returns : goal.returns
returns c = gather_ends _ _ _ _ _ (drop_all c.loop-place.place-index c.args.places.now c.loop-place-test.false) c.loop-place.invariant
