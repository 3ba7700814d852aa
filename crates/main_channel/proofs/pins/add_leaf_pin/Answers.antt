-- A pin more.
use Rattle.std.proofs.Common.{◌+ℤ◌, refl, arith}
use Rattle.std.proofs.lemmas.Int.{ints}
use Rattle.main_channel.specs.Leaves.{pin_begin}
use Rattle.main_channel.specs.Numbers.{found_number}
use Rattle.main_channel.proofs.StepLaws.{named_as}
use Rattle.main_channel.proofs.pins.add_leaf_pin.Goals as goal

pub returns-clause-is : goal.returns-clause-is
returns-clause-is c =
    let is = c.pin_left.ensures.is in
    let a = c.requires.x.above in
    let b = c.requires.x.below in
    let d = c.pin_left.ensures.near.above in
    let e = c.pin_left.ensures.near.below in
    named_as (found_number c.args.numbers.now) c.args.name.now c.args.name.now _ (c.args.x +ℤ pin_begin c.args.kit.now c.args.role c.args.pin) c.args.pins.now.items c.add_pin.new.pins.items c.in_ok-add_pin.ensures.is refl (omega (arith, ints, is, a, b, d, e))
