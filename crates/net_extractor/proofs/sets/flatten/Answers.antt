use Rattle.std.proofs.Common.{◌<◌, length, get_or, arith}
use Rattle.std.proofs.lemmas.Option.{slice_get-get_or, slice_get_within}
use Rattle.net_extractor.proofs.SetLaws.{alike_itself, alike_on, halved, flat_more}
use Rattle.net_extractor.proofs.sets.flatten.Goals as goal

pub loop-place-init : goal.loop-place-init
loop-place-init c = record { alike = alike_itself c.args.above.now c.requires; flat = record { flat = λ place over lt there. absurd (omega (arith, lt)) } }

pub bounds-above-next : goal.bounds-above-next
bounds-above-next c =
    let above = c.loop-place.above in
    let place = c.loop-place.place in
    let lt : place < length above = omega arith in
    let le = c.loop-place.invariant.alike.falls.falls place (get_or above place 0) (slice_get-get_or above place 0 lt) in
    omega (arith, le)

pub loop-place-preserved : goal.loop-place-preserved
loop-place-preserved c =
    let above = c.loop-place.above in
    let place = c.loop-place.place in
    let next = get_or above place 0 in
    let falls = c.loop-place.invariant.alike.falls in
    let lt : place < length above = omega arith in
    let up = slice_get-get_or above place 0 lt in
    let le = falls.falls place next up in
    let lower : next < length above = omega (arith, le) in
    let higher = slice_get-get_or above next 0 lower in
    record {
      alike = alike_on c.args.above.now above _ c.loop-place.invariant.alike (halved above place next (get_or above next 0) falls up higher);
      flat = flat_more above place next (get_or above next 0) falls up higher c.loop-place.invariant.flat;
    }

pub returns : goal.returns
returns c = record {
  alike = c.loop-place.invariant.alike;
  flat = record {
    flat = λ place over there.
        let inside = slice_get_within c.loop-place.above place over there in
        c.loop-place.invariant.flat.flat place over (omega (arith, inside)) there;
  };
}
