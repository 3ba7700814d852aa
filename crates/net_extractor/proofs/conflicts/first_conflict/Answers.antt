use Rattle.std.proofs.Common.{◌<◌, length, map, refl, arith, inl, inr}
use Rattle.std.proofs.lemmas.Option.{slice_get_read}
use Rattle.net_extractor.specs.FirstDifference.{AreOpen, AreShort}
use Rattle.net_extractor.specs.PlainNets.{plain_net}
use Rattle.net_extractor.proofs.PinLaws.{exists_at}
use Rattle.net_extractor.proofs.ConflictLaws.{right_more, wrong_at, is_torn, are_open, are_short}
use Rattle.net_extractor.proofs.MatchingLaws.{matched_begins, matched_more}
use Rattle.net_extractor.proofs.conflicts.first_conflict.Goals as goal

pub loop-place-init : goal.loop-place-init
loop-place-init c = record {
  right = record { whole = λ k p lt at. absurd (omega (arith, lt)); agree = λ j k q p before lt at_j at_k. absurd (omega (arith, lt)) };
  matched = matched_begins c.args.nets.now _;
}

pub returns-then-is_torn : goal.returns-then-is_torn
returns-then-is_torn c =
    let sized = c.requires.sized in
    let lt : c.loop-place.place < length c.args.pins.now = omega (arith, sized, c.loop-place-test.true) in
    let here = slice_get_read c.args.pins.now _ c.loop-place.place c.index-pins-place.result refl lt c.index-pins-place.is in
    let is = c.requires.each c.loop-place.place c.index-pins-place.result c.net_at-net.result here c.net_at-net.ensures in
    inl (refl, record { right = c.loop-place.invariant.right; pin = c.index-pins-place.result; here = here; torn = is_torn (map plain_net c.args.labels.now) c.index-pins-place.result c.net_at-net.result is (c.if-is_torn.ensures.0 refl) })

pub is_torn-requires : goal.is_torn-requires
is_torn-requires c =
    let sized = c.requires.sized in
    let lt : c.loop-place.place < length c.args.pins.now = omega (arith, sized, c.loop-place-test.true) in
    let here = slice_get_read c.args.pins.now _ c.loop-place.place c.index-pins-place.result refl lt c.index-pins-place.is in
    c.requires.each c.loop-place.place c.index-pins-place.result c.net_at-net.result here c.net_at-net.ensures

pub loop-place-preserved : goal.loop-place-preserved
loop-place-preserved c =
    let sized = c.requires.sized in
    let lt : c.loop-place.place < length c.args.pins.now = omega (arith, sized, c.loop-place-test.true) in
    let here = slice_get_read c.args.pins.now _ c.loop-place.place c.index-pins-place.result refl lt c.index-pins-place.is in
    record {
      right = right_more (map plain_net c.args.labels.now) c.args.pins.now c.args.nets.now c.loop-place.place c.index-pins-place.result c.net_at-net.result c.requires here c.net_at-net.ensures
          (λ h. let bad = c.if-is_torn.ensures.1 h in absurd cc)
          c.in_default.ensures c.loop-place.invariant.right;
      matched = matched_more c.args.nets.now c.loop-place.place c.net_at-net.result c.loop-place.matching _ c.net_at-net.ensures c.in_default.ensures c.in_ok-put.ensures c.loop-place.invariant.matched;
    }

pub net_at-other-requires : goal.net_at-other-requires
net_at-other-requires c = let below = c.in-Some.ensures.below in omega (arith, below, c.loop-place-test.true)

pub returns-then-other-net : goal.returns-then-other-net
returns-then-other-net c =
    let sized = c.requires.sized in
    let lt : c.loop-place.place < length c.args.pins.now = omega (arith, sized, c.loop-place-test.true) in
    let here = slice_get_read c.args.pins.now _ c.loop-place.place c.index-pins-place.result refl lt c.index-pins-place.is in
    let below = c.in-Some.ensures.below in
    let q = exists_at c.args.pins.now c.in-Some.earlier (omega (arith, below, lt)) in
    let is_q = c.requires.each c.in-Some.earlier q.0 c.net_at-other.result q.1 c.net_at-other.ensures in
    let is_p = c.requires.each c.loop-place.place c.index-pins-place.result c.net_at-net.result here c.net_at-net.ensures in
    inr (wrong_at (AreOpen (map plain_net c.args.labels.now)) (map plain_net c.args.labels.now) c.args.pins.now c.args.nets.now c.in-Some.earlier c.loop-place.place q.0 c.index-pins-place.result c.net_at-net.result c.requires here c.net_at-net.ensures q.1
    (λ h. let bad = c.if-is_torn.ensures.1 h in absurd cc)
    c.in-Some.ensures c.loop-place.invariant.right
    (are_open (map plain_net c.args.labels.now) q.0 c.index-pins-place.result c.net_at-other.result c.net_at-net.result is_q is_p (c.in-Some.ensures.odd c.net_at-other.result c.net_at-net.result c.net_at-other.ensures c.net_at-net.ensures) c.if-other-net.true))

pub returns-in-loop-place : goal.returns-in-loop-place
returns-in-loop-place c =
    let sized = c.requires.sized in
    let lt : c.loop-place.place < length c.args.pins.now = omega (arith, sized, c.loop-place-test.true) in
    let here = slice_get_read c.args.pins.now _ c.loop-place.place c.index-pins-place.result refl lt c.index-pins-place.is in
    let below = c.in-Some.ensures.below in
    let q = exists_at c.args.pins.now c.in-Some.earlier (omega (arith, below, lt)) in
    let is_q = c.requires.each c.in-Some.earlier q.0 c.net_at-other.result q.1 c.net_at-other.ensures in
    let is_p = c.requires.each c.loop-place.place c.index-pins-place.result c.net_at-net.result here c.net_at-net.ensures in
    wrong_at (AreShort (map plain_net c.args.labels.now)) (map plain_net c.args.labels.now) c.args.pins.now c.args.nets.now c.in-Some.earlier c.loop-place.place q.0 c.index-pins-place.result c.net_at-net.result c.requires here c.net_at-net.ensures q.1
    (λ h. let bad = c.if-is_torn.ensures.1 h in absurd cc)
    c.in-Some.ensures c.loop-place.invariant.right
    (are_short (map plain_net c.args.labels.now) q.0 c.index-pins-place.result c.net_at-other.result c.net_at-net.result is_q is_p (c.in-Some.ensures.odd c.net_at-other.result c.net_at-net.result c.net_at-other.ensures c.net_at-net.ensures) c.if-other-net.false)
