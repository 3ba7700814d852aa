-- The pitch and the pins' places are what they are in the contract.
use Rattle.std.proofs.Common.{◌≡◌, ◌+ℤ◌, ℕ, ◌<◌, ℤ, List, length, get_or, w64, to_z, of_z, sym, subst, arith}
use Rattle.std.proofs.lemmas.Int.{ints}
use Rattle.or_geom.specs.Distance.{IsNear}
use Rattle.wire_drawing.specs.Drawing.{pitch}
use Rattle.wire_drawing.specs.Spacing.{IsFirstClose}
use Rattle.channel_router.proofs.PinLaws.{near_xs}
use Rattle.channel_router.proofs.close.close_pins.Goals as goal

pub first_close-requires : goal.first_close-requires
first_close-requires c = subst (λ (xs : List ℤ). (k : ℕ) (d : ℤ) → k < length xs → IsNear (get_or xs k d)) (sym c.in_ok-xs_of.ensures) (near_xs c.args.pins.now c.requires.near)

pub returns : goal.returns
returns c =
    let width = c.requires.sizes.width in
    let space = c.requires.sizes.space in
    let sum : to_z w64 (of_z w64 (to_z w64 (of_z w64 c.args.wire.now.width) +ℤ to_z w64 (of_z w64 c.args.wire.now.space))) ≡ pitch c.args.wire.now = omega (arith, ints, width.from, width.to, space.from, space.to) in
    subst (λ (xs : List ℤ). IsFirstClose (pitch c.args.wire.now) xs c.first_close.result) c.in_ok-xs_of.ensures
    (subst (λ (p : ℤ). IsFirstClose p c.in_ok-xs_of.field-0.items c.first_close.result) sum c.first_close.ensures)
