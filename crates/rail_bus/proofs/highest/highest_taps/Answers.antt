-- One tap more.
use Rattle.std.proofs.Common.{◌≡◌, ◌<◌, ◌≤ℤ◌, ◌⊎◌, inl, inr, ℤ, pos, length, get_or, refl, sym, ◌∙◌, w64, FitsSigned, to_z, of_z, rules, arith}
use Rattle.std.proofs.lemmas.Int.{ints, to_z-of_z}
use Rattle.std.proofs.lemmas.List.{take_more, take_all}
use Rattle.std.proofs.lemmas.Option.{slice_get_read, get_or_from_slice_get}
use Rattle.wire_drawing.specs.declared.route.Tap.{Tap}
use Rattle.rail_bus.proofs.RailLaws.{highest_more, max_of}
use Rattle.rail_bus.proofs.highest.highest_taps.Goals as goal

pub loop-tap-preserved : goal.loop-tap-preserved
loop-tap-preserved c =
    let none : Tap = record { rail = 0; y = pos 0; end = pos 0 } in
    let tap : Tap = get_or c.args.taps.now c.loop-tap.tap-index none in
    let inside = c.requires c.loop-tap.tap-index none c.loop-tap-test.true in
    let are = rw (to_z-of_z w64 c.args.low c.ranges.low) at c.loop-tap.invariant in
    let within : tap.rail < length c.loop-tap.highest.items = let e = are.each in omega (arith, e, inside) in
    let here : get_or c.loop-tap.highest.items tap.rail c.args.low ≡ c.index.result.now = get_or_from_slice_get c.loop-tap.highest.items tap.rail c.index.result.now c.args.low (slice_get_read c.loop-tap.highest.items (length c.loop-tap.highest.items) tap.rail c.index.result.now refl within c.index.ensures) in
    let fits_old : FitsSigned w64 c.index.result.now = search rules in
    let fits_tap : FitsSigned w64 tap.y = search rules in
    let fits_new : FitsSigned w64 c.max.result = search rules in
    let is = rw (to_z-of_z w64 c.index.result.now fits_old, to_z-of_z w64 tap.y fits_tap) at c.max.ensures.value in
    let greater = max_of c.index.result.now tap.y c.max.result is in
    let above_old = greater.0 in
    rw (to_z-of_z w64 c.args.low c.ranges.low, to_z-of_z w64 c.max.result fits_new, take_more c.args.taps.now c.loop-tap.tap-index none c.loop-tap-test.true)
    (highest_more c.args.low c.args.rails _ tap c.loop-tap.highest.items c.max.result are inside (omega (arith, ints, here, above_old)) greater.1 (elim greater.2 [ inl old ↦ inl (old ∙ sym here) | inr new ↦ inr new ]))

pub returns : goal.returns
returns c = rw (take_all c.loop-tap.tap-index c.args.taps.now c.loop-tap-test.false, to_z-of_z w64 c.args.low c.ranges.low) at c.loop-tap.invariant
