-- A port more.
use Rattle.std.proofs.Common.{◌-◌, length, ap, arith}
use Rattle.std.proofs.lemmas.Int.{ints}
use Rattle.main_channel.specs.Leaves.{pin_begin}
use Rattle.main_channel.specs.Numbers.{found_number}
use Rattle.main_channel.proofs.StepLaws.{port_more, all_ports, name_read}
use Rattle.main_channel.proofs.bottom.add_cell_pins.Goals as goal

pub loop-port-preserved : goal.loop-port-preserved
loop-port-preserved c =
    let less = c.loop-port-test.true in
    let long = ap length c.as_slice.ensures in
    let a = c.requires.x.above in
    let b = c.requires.x.below in
    record {
      is = port_more (pin_begin c.args.kit.now c.args.role) (found_number c.args.numbers.now) c.args.gate.now.nodes _ _ _ _ _ c.loop-port.port c.as_bytes-node.result.now c.loop-port.invariant.is c.in_ok-add_leaf_pin.ensures.is
          (name_read c.as_slice-in-loop-port.result.now c.args.gate.now.nodes c.loop-port.port c.index-as_slice-port.result c.as_bytes-node.result.now c.as_slice-in-loop-port.ensures (omega (arith, less, long)) c.index-as_slice-port.is c.as_bytes-node.ensures)
          (omega (arith, ints, a, b));
      main = λ nets num all. c.in_ok-add_leaf_pin.ensures.main nets num (c.loop-port.invariant.main nets num all);
    }

pub returns-clause-is : goal.returns-clause-is
returns-clause-is c =
    let most = c.loop-port-test.false in
    let least = c.loop-port.auto.port-end in
    let long = ap length c.as_slice.ensures in
    let a = c.requires.x.above in
    let b = c.requires.x.below in
    all_ports (pin_begin c.args.kit.now c.args.role) (found_number c.args.numbers.now) c.args.gate.now.nodes _ c.args.x c.loop-port.port (length c.args.gate.now.nodes - 2) c.args.pins.now.items c.loop-port.pins.items c.loop-port.invariant.is (omega (arith, ints, a, b)) (omega (arith, most, least, long))
