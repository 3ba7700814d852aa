-- A bit more.
use Rattle.std.proofs.Common.{arith}
use Rattle.std.proofs.lemmas.Int.{ints}
use Rattle.sram_plan.specs.PlanNumbers.{numbers_of, organization}
use Rattle.cell_roles.specs.declared.role.Role.TheVariants.{Bitcell}
use Rattle.floorplan.specs.LeafSides.{leaf_width}
use Rattle.floorplan.proofs.SideLaws.{width_is}
use Rattle.main_channel.proofs.StepLaws.{bit_more, all_bits}
use Rattle.main_channel.specs.Leaves.{pin_begin}
use Rattle.main_channel.specs.Numbers.{found_number}
use Rattle.port_lists.proofs.NumberLaws.{words_are}
use Rattle.main_channel.proofs.ColumnLaws.{few_columns}
use Rattle.main_channel.proofs.top.add_slice_pins.Goals as goal

pub columns_width-requires-clause-columns : goal.columns_width-requires-clause-columns
columns_width-requires-clause-columns c = few_columns c.loop-bit.bit c.args.plan.now.word_size c.args.plan.now.wpr _ c.loop-bit-test.true (words_are (numbers_of c.args.plan.now) c.requires.plan) c.requires.plan.plan.columns

pub add_write_pins-requires-clause-x : goal.add_write_pins-requires-clause-x
add_write_pins-requires-clause-x c =
    let a = c.requires.x.above in
    let b = c.requires.x.below in
    let d = c.columns_width.ensures.above in
    let e = c.columns_width.ensures.below in
    record { above = omega (arith, ints, a, b, d, e); below = omega (arith, ints, a, b, d, e) }

pub add_sense_pin-requires-clause-x : goal.add_sense_pin-requires-clause-x
add_sense_pin-requires-clause-x c =
    let a = c.requires.x.above in
    let b = c.requires.x.below in
    let d = c.columns_width.ensures.above in
    let e = c.columns_width.ensures.below in
    record { above = omega (arith, ints, a, b, d, e); below = omega (arith, ints, a, b, d, e) }

pub loop-bit-preserved : goal.loop-bit-preserved
loop-bit-preserved c =
    let a = c.requires.x.above in
    let b = c.requires.x.below in
    let d = c.columns_width.ensures.above in
    let e = c.columns_width.ensures.below in
    let sized = (width_is c.args.kit.now c.requires.kit Bitcell c.leaf_of.result.now c.leaf_of.ensures.is).is in
    let f = c.leaf_of.ensures.near.width.above in
    let g = c.leaf_of.ensures.near.width.below in
    record {
      is = bit_more (pin_begin c.args.kit.now) (leaf_width c.args.kit.now) (found_number c.args.numbers.now) (organization c.args.plan.now) c.args.bank _ _ c.columns_width.result _ _ _ _ _ c.loop-bit.bit c.args.plan.now.wpr c.loop-bit.invariant.is c.in_ok-add_write_pins.ensures.is c.in_ok-add_sense_pin.ensures.is
          (omega (arith, ints, a, b, d, e)) c.columns_width.ensures.is (words_are (numbers_of c.args.plan.now) c.requires.plan) (omega (arith, ints, sized, f, g));
      main = λ nets num all. c.in_ok-add_sense_pin.ensures.main nets num (c.in_ok-add_write_pins.ensures.main nets num (c.loop-bit.invariant.main nets num all));
    }

pub returns-clause-is : goal.returns-clause-is
returns-clause-is c =
    let a = c.requires.x.above in
    let b = c.requires.x.below in
    let most = c.loop-bit-test.false in
    let least = c.loop-bit.auto.bit-end in
    all_bits (pin_begin c.args.kit.now) (leaf_width c.args.kit.now) (found_number c.args.numbers.now) (organization c.args.plan.now) c.args.bank _ c.args.x c.loop-bit.bit c.args.plan.now.word_size c.args.pins.now.items c.loop-bit.pins.items c.loop-bit.invariant.is (omega (arith, ints, a, b)) (omega (arith, most, least))
