use Rattle.std.proofs.Common.{refl}
use Rattle.std.proofs.lemmas.List.{drop_all}
use Rattle.or_geom.proofs.AddsLaws.{adds_one}
use Rattle.or_geom.proofs.GatheringLaws.{gather_goes_on, gather_ends}
use Rattle.or_geom.proofs.ListLaws.{rest_item}
use Rattle.tile_checker.proofs.PlaceLaws.{item_in}
use Rattle.tile_checker.proofs.OwnerLaws.{inside_read, place_read}
use Rattle.tile_checker.proofs.CandidateLaws.{same_at}
use Rattle.tile_checker.proofs.candidates.candidates_at.Goals as goal

pub loop-place-init : goal.loop-place-init
loop-place-init c = record { completes = λ new a. rw c.in_ok-candidates.ensures.items at a }

pub shape_at-requires : goal.shape_at-requires
shape_at-requires c = inside_read c.args.bins.now c.shapes-shapes.result.now _ c.shapes-shapes.ensures (c.requires _ (item_in c.args.places.now c.loop-place.place-index 0 c.loop-place-test.true))

pub loop-place-preserved : goal.loop-place-preserved
loop-place-preserved c =
    let there = place_read c.args.bins.now c.shapes-shapes.result.now _ _ c.shapes-shapes.ensures c.shape_at.ensures in
    gather_goes_on _ _ _ _ _ _ _ _ (rest_item c.args.places.now c.loop-place.place-index 0 c.loop-place-test.true) c.loop-place.invariant
    (adds_one _ _ _ _ c.in_ok-push.ensures.items
    (record { shape = c.shape_at.result; there = there; is = refl })
    (λ candidate p. same_at c.args.bins.now _ c.shape_at.result candidate there p))

pub returns : goal.returns
returns c = gather_ends _ _ _ _ _ (drop_all c.loop-place.place-index c.args.places.now c.loop-place-test.false) c.loop-place.invariant
