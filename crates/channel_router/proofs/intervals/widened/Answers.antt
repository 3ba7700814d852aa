-- One pin more.
use Rattle.std.proofs.Common.{◌≡◌, ◌<◌, ◌++◌, ◌∷◌, [], List, pos, length, get_or, take, w64, FitsSigned, rules, refl, subst, ◌∙◌, append_assoc, arith}
use Rattle.std.specs.Prelude.{slice_get, slice_set, Some}
use Rattle.std.proofs.lemmas.Int.{to_z-of_z}
use Rattle.std.proofs.lemmas.List.{length-set, take_more, take_all}
use Rattle.std.proofs.lemmas.Option.{slice_get_read}
use Rattle.channel_router.specs.declared.channel.ChannelPin.{ChannelPin}
use Rattle.channel_router.specs.declared.channel.Interval.{Interval}
use Rattle.channel_router.specs.Hull.{AreHulls}
use Rattle.channel_router.proofs.PinLaws.{hulls_more}
use Rattle.channel_router.proofs.intervals.widened.Goals as goal

pub loop-pin-preserved : goal.loop-pin-preserved
loop-pin-preserved c =
    let none : ChannelPin = record { x = pos 0; net = 0 } in
    let pin : ChannelPin = get_or c.args.pins.now c.loop-pin.pin-index none in
    let old : Interval = c.index-old.result.now in
    let sized = c.loop-pin.invariant.sized in
    let inside : pin.net < length c.loop-pin.intervals.items = let lt = c.requires c.loop-pin.pin-index none c.loop-pin-test.true in omega (arith, lt, sized) in
    let there : slice_get c.loop-pin.intervals.items pin.net ≡ Some old = slice_get_read c.loop-pin.intervals.items (length c.loop-pin.intervals.items) pin.net old refl inside c.index-old.ensures in
    let fits_left : FitsSigned w64 old.left = search rules in
    let fits_right : FitsSigned w64 old.right = search rules in
    let fits_pin : FitsSigned w64 pin.x = search rules in
    let fits_min : FitsSigned w64 c.min.result = search rules in
    let fits_max : FitsSigned w64 c.max.result = search rules in
    let left = rw (to_z-of_z w64 old.left fits_left, to_z-of_z w64 pin.x fits_pin) at c.min.ensures.value in
    let right = rw (to_z-of_z w64 old.right fits_right, to_z-of_z w64 pin.x fits_pin) at c.max.ensures.value in
    record {
      sized = length-set _ _ _ ∙ sized;
      hulls = λ before held. rw (take_more c.args.pins.now c.loop-pin.pin-index none c.loop-pin-test.true, to_z-of_z w64 c.min.result fits_min, to_z-of_z w64 c.max.result fits_max)
          (subst (λ (l : List ChannelPin). AreHulls l (slice_set c.loop-pin.intervals.items pin.net (record { left = c.min.result; right = c.max.result }))) (append_assoc before (take c.loop-pin.pin-index c.args.pins.now) (pin ∷ []))
          (hulls_more (before ++ take c.loop-pin.pin-index c.args.pins.now) pin c.loop-pin.intervals.items old (record { left = c.min.result; right = c.max.result }) inside there left right (c.loop-pin.invariant.hulls before held)));
    }

pub returns : goal.returns
returns c = record {
  each = c.loop-pin.invariant.sized;
  hulls = λ before held. subst (λ (l : List ChannelPin). AreHulls (before ++ l) c.loop-pin.intervals.items) (take_all c.loop-pin.pin-index c.args.pins.now c.loop-pin-test.false) (c.loop-pin.invariant.hulls before held);
}
