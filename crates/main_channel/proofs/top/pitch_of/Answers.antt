-- A width and a space.
use Rattle.std.proofs.Common.{ap, sym, ◌∙◌, arith}
use Rattle.std.proofs.lemmas.Int.{ints}
use Rattle.std.proofs.lemmas.Option.{same_Some}
use Rattle.wire_drawing.specs.Drawing.{pitch}
use Rattle.main_channel.proofs.PinLaws.{added_read}
use Rattle.main_channel.proofs.top.pitch_of.Goals as goal

pub returns-clause-near : goal.returns-clause-near
returns-clause-near c =
    let sizes = c.wire_of-wire.ensures.wire.sizes in
    let a = sizes.width.from in
    let b = sizes.width.to in
    let d = sizes.space.from in
    let e = sizes.space.to in
    record { above = omega (arith, ints, a, d); below = omega (arith, ints, b, e) }

pub returns-clause-is : goal.returns-clause-is
returns-clause-is c = λ wire wired.
    let here = c.wire_of-wire.result.now in
    let sizes = c.wire_of-wire.ensures.wire.sizes in
    let same = same_Some here wire (sym c.wire_of-wire.ensures.is ∙ wired) in
    let a = sizes.width.from in
    let b = sizes.width.to in
    let d = sizes.space.from in
    let e = sizes.space.to in
    added_read here.width here.space (omega (arith, ints, a)) (omega (arith, ints, b)) (omega (arith, ints, d)) (omega (arith, ints, e)) ∙ ap pitch same
