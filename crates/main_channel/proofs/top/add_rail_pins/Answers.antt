-- A rail more.
use Rattle.std.proofs.Common.{length, refl, arith}
use Rattle.std.proofs.lemmas.Int.{ints}
use Rattle.main_channel.specs.Numbers.{found_number}
use Rattle.main_channel.proofs.StepLaws.{rail_more, all_rails, name_read}
use Rattle.main_channel.proofs.top.add_rail_pins.Goals as goal

pub loop-rail-preserved : goal.loop-rail-preserved
loop-rail-preserved c =
    let a = c.requires.x.above in
    let b = c.requires.x.below in
    let d = c.pitches.ensures.above in
    let e = c.pitches.ensures.below in
    let less = c.loop-rail-test.true in
    record {
      is = rail_more (found_number c.args.numbers.now) c.args.names.now _ _ _ c.pitches.result _ _ _ c.loop-rail.rail c.as_bytes.result.now c.loop-rail.invariant.is c.in_ok-add_pin.ensures.is
          (name_read c.args.names.now c.args.names.now c.loop-rail.rail c.index-names-rail.result c.as_bytes.result.now refl less c.index-names-rail.is c.as_bytes.ensures) (omega (arith, ints, a, b, d, e)) c.pitches.ensures.is;
      main = λ nets num all. c.in_ok-add_pin.ensures.main nets num (c.loop-rail.invariant.main nets num all);
    }

pub returns-clause-is : goal.returns-clause-is
returns-clause-is c =
    let a = c.requires.x.above in
    let b = c.requires.x.below in
    let d = c.requires.pitch.above in
    let e = c.requires.pitch.below in
    let most = c.loop-rail-test.false in
    let least = c.loop-rail.auto.rail-end in
    all_rails (found_number c.args.numbers.now) c.args.names.now _ c.args.x _ c.args.pitch c.loop-rail.rail (length c.args.names.now) c.args.pins.now.items c.loop-rail.pins.items c.loop-rail.invariant.is (omega (arith, ints, a, b)) (omega (arith, ints, d, e)) (omega (arith, most, least))
