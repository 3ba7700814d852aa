-- A product and a sum.
use Rattle.std.proofs.Common.{arith}
use Rattle.std.proofs.lemmas.Int.{ints}
use Rattle.sram_macro.proofs.signals.track_y.Goals as goal

pub returns-clause-is : goal.returns-clause-is
returns-clause-is c =
    let space = c.requires.sizes.space in
    let low = c.requires.low in
    let from = c.from.ensures in
    let track = c.requires.few in
    let few = c.pitches.ensures.few in
    let value = c.pitches.ensures.value in
    omega (arith, ints, space.from, space.to, low, from, track, few, value)

pub returns-clause-near : goal.returns-clause-near
returns-clause-near c =
    let space = c.requires.sizes.space in
    let low = c.requires.low in
    let from = c.from.ensures in
    let track = c.requires.few in
    let few = c.pitches.ensures.few in
    record { above = omega (arith, ints, space.from, space.to, low, from, track, few); below = omega (arith, ints, space.from, space.to, low, from, track, few) }
