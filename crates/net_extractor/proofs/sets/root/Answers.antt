use Rattle.std.proofs.Common.{◌≡◌, ◌<◌, ℕ, length, get_or, set, Some, subst, arith}
use Rattle.std.specs.Prelude.{slice_get}
use Rattle.std.proofs.lemmas.Option.{slice_get-get_or, slice_get_within}
use Rattle.std.proofs.lemmas.List.{length-set}
use Rattle.net_extractor.specs.Sets.{AreTogether}
use Rattle.net_extractor.proofs.SetLaws.{itself, further, upward, alike_itself, alike_on, halved}
use Rattle.net_extractor.proofs.sets.root.Goals as goal

pub loop-next-init : goal.loop-next-init
loop-next-init c = record {
  alike = alike_itself c.args.above.now c.requires.falls;
  leads = itself c.args.above.now c.args.place;
  up = slice_get-get_or c.args.above.now c.args.place 0 c.requires.inside;
}

pub bounds-above-next : goal.bounds-above-next
bounds-above-next c =
    let i = c.loop-next.invariant in
    let le = i.alike.falls.falls c.loop-next.at c.loop-next.next i.up in
    let lt = slice_get_within c.loop-next.above c.loop-next.at c.loop-next.next i.up in
    omega (arith, le, lt)

pub loop-next-preserved : goal.loop-next-preserved
loop-next-preserved c =
    let i = c.loop-next.invariant in
    let above = c.loop-next.above in
    let at = c.loop-next.at in
    let next = c.loop-next.next in
    let over = get_or above next 0 in
    let le = i.alike.falls.falls at next i.up in
    let inside = slice_get_within above at next i.up in
    let lt : next < length above = omega (arith, le, inside) in
    let higher = slice_get-get_or above next 0 lt in
    let lower = i.alike.falls.falls next over higher in
    let sized = length-set above at over in
    let after : over < length (set above at over) = omega (arith, lower, lt, sized) in
    record {
      alike = alike_on c.args.above.now above (set above at over) i.alike (halved above at next over i.alike.falls i.up higher);
      leads = further c.args.above.now c.args.place at over i.leads (i.alike.back.keeps at over (further above at next over (upward above at next i.up) (upward above next over higher)));
      up = slice_get-get_or (set above at over) over 0 after;
    }

pub loop-next-smaller : goal.loop-next-smaller
loop-next-smaller c =
    let i = c.loop-next.invariant in
    let above = c.loop-next.above in
    let le = i.alike.falls.falls c.loop-next.at c.loop-next.next i.up in
    let inside = slice_get_within above c.loop-next.at c.loop-next.next i.up in
    let lt : c.loop-next.next < length above = omega (arith, le, inside) in
    let lower = i.alike.falls.falls c.loop-next.next (get_or above c.loop-next.next 0) (slice_get-get_or above c.loop-next.next 0 lt) in
    omega (arith, le, lower, c.loop-next-test.true)

pub returns : goal.returns
returns c =
    let i = c.loop-next.invariant in
    let same : c.loop-next.at ≡ c.loop-next.next = omega (arith, c.loop-next-test.false) in
    record {
      alike = i.alike;
      leads = subst (λ (k : ℕ). AreTogether c.args.above.now c.args.place k) same i.leads;
      top = subst (λ (k : ℕ). slice_get c.loop-next.above k ≡ Some c.loop-next.next) same i.up;
    }
