-- The tap's height and end.
use Rattle.std.proofs.Common.{arith}
use Rattle.std.proofs.lemmas.Int.{ints}
use Rattle.bank_layout.proofs.TapLaws.{same_tap}
use Rattle.bank_layout.proofs.taps.choice_tap.Goals as goal

pub returns : goal.returns
returns c =
    let space = c.requires.sizes.space in
    let width = c.requires.sizes.width in
    let low = c.requires.low in
    let few = c.pitches.ensures.few in
    let value = c.pitches.ensures.value in
    let track = c.requires.track in
    let is = c.rail_x.ensures.is in
    let near = c.rail_x.ensures.near in
    same_tap _ _ _ _ _ (omega (arith, ints, space.from, space.to, low.above, low.below, few, value, track)) (omega (arith, ints, width.from, width.to, is, near.above, near.below))
