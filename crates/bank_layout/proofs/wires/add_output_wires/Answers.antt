-- The outputs begin at the left ends of their pins.
use Rattle.std.proofs.Common.{arith}
use Rattle.std.proofs.lemmas.Int.{ints}
use Rattle.floorplan.proofs.JoinerLaws.{apart}
use Rattle.bank_layout.proofs.FinishLaws.{outputs_as}
use Rattle.bank_layout.proofs.wires.add_output_wires.Goals as goal

pub add_outputs-requires-clause-near : goal.add_outputs-requires-clause-near
add_outputs-requires-clause-near c =
    let x = c.columns_x.ensures.near in
    let left = c.pin_of-pin.ensures.inside.left in
    let right = c.pin_of-pin.ensures.inside.right in
    let wide = c.pin_of-pin.result.now.rect.wide in
    record { above = omega (arith, ints, x.above, x.below, left, right, wide); below = omega (arith, ints, x.above, x.below, left, right, wide) }

pub add_outputs-requires-clause-tall : goal.add_outputs-requires-clause-tall
add_outputs-requires-clause-tall c =
    let top = apart c.args.floorplan.now.sense_y c.args.floorplan.now.write_y c.requires.near.sense_y c.requires.near.write_y in
    let above = c.requires.above in
    omega (arith, ints, top, above)

pub returns : goal.returns
returns c =
    let x = c.columns_x.ensures.near in
    let is = c.columns_x.ensures.is in
    let left = c.pin_of-pin.ensures.inside.left in
    let right = c.pin_of-pin.ensures.inside.right in
    let wide = c.pin_of-pin.result.now.rect.wide in
    let gate = c.requires.sides_of.gate_width in
    let drive = c.requires.sides_of.driver_width in
    record {
      pin = c.pin_of-pin.result.now;
      is = c.pin_of-pin.ensures.is;
      inside = c.pin_of-pin.ensures.inside;
      adds = outputs_as c.args.wire.now _ _ _ _ _ _ _ _ _ _ c.in_ok-add_outputs.ensures (omega (arith, ints, x.above, x.below, is, left, right, wide, gate, drive)) c.requires.sides_of.bit_width
          (apart c.args.floorplan.now.sense_y c.args.floorplan.now.write_y c.requires.near.sense_y c.requires.near.write_y);
    }
