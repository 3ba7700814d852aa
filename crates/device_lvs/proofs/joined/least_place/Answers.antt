use Rattle.std.proofs.Common.{ℕ, map, length, subst, arith}
use Rattle.std.proofs.lemmas.List.{length-map}
use Rattle.device_lvs.specs.Sorted.{AreLeastBelow, net_first}
use Rattle.device_lvs.proofs.PlaceLaws.{least_at_end}
use Rattle.device_lvs.proofs.joined.least_place.Goals as goal

pub returns : goal.returns
returns c =
    let past = c.loop-place-test.false in
    let long = length-map c.args.nets.now net_first in
    subst (λ (n : ℕ). AreLeastBelow (map net_first c.args.nets.now) n c.loop-place.least) long
    (least_at_end (map net_first c.args.nets.now) c.loop-place.place c.loop-place.least (omega (arith, past, long)) c.loop-place.invariant)
