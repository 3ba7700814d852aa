-- A bank more.
use Rattle.std.proofs.Common.{length, ap, sym, ◌∙◌, arith}
use Rattle.std.proofs.lemmas.Int.{ints}
use Rattle.sram_netlist.proofs.Bounds.{bounds}
use Rattle.sram_plan.specs.PlanNumbers.{numbers_of, organization}
use Rattle.port_lists.proofs.NumberLaws.{banks_are}
use Rattle.main_channel.proofs.CountLaws.{few_rails}
use Rattle.main_channel.proofs.StepLaws.{bank_more, all_banks}
use Rattle.main_channel.proofs.RailLaws.{rails_named}
use Rattle.wire_drawing.specs.Drawing.{pitch}
use Rattle.floorplan.specs.LeafSides.{leaf_width}
use Rattle.main_channel.specs.Leaves.{pin_begin}
use Rattle.main_channel.specs.Numbers.{found_number}
use Rattle.main_channel.proofs.top.add_bank_pins.Goals as goal

pub bank_x-x-requires-clause-bank : goal.bank_x-x-requires-clause-bank
bank_x-x-requires-clause-bank c =
    let banks = banks_are (numbers_of c.args.plan.now) c.requires.plan in
    let few = (bounds (organization c.args.plan.now) c.requires.plan.plan).banks in
    let less = c.loop-bank-test.true in
    omega (arith, banks, few, less)

pub add_rail_pins-requires-clause-few : goal.add_rail_pins-requires-clause-few
add_rail_pins-requires-clause-few c =
    let same = ap length (c.deref.ensures ∙ c.in_ok-names.ensures) in
    let few = few_rails (organization c.args.plan.now) c.loop-bank.bank c.requires.plan.plan in
    omega (arith, same, few)

pub add_rail_pins-requires-clause-x : goal.add_rail_pins-requires-clause-x
add_rail_pins-requires-clause-x c =
    let a = c.bank_x-x.ensures.above in
    let b = c.bank_x-x.ensures.below in
    record { above = omega (arith, ints, a, b); below = omega (arith, ints, a, b) }

pub add_slice_pins-requires-clause-x : goal.add_slice_pins-requires-clause-x
add_slice_pins-requires-clause-x c =
    let a = c.bank_x-x.ensures.above in
    let b = c.bank_x-x.ensures.below in
    let d = c.in_ok-columns_x.ensures.near.above in
    let e = c.in_ok-columns_x.ensures.near.below in
    record { above = omega (arith, ints, a, b, d, e); below = omega (arith, ints, a, b, d, e) }

pub loop-bank-preserved : goal.loop-bank-preserved
loop-bank-preserved c =
    let a = c.bank_x-x.ensures.above in
    let b = c.bank_x-x.ensures.below in
    let d = c.in_ok-columns_x.ensures.near.above in
    let e = c.in_ok-columns_x.ensures.near.below in
    let f = c.requires.near.bank_width.above in
    let g = c.requires.near.bank_width.below in
    record {
      is = bank_more (pin_begin c.args.kit.now) (leaf_width c.args.kit.now) (found_number c.args.numbers.now) (organization c.args.plan.now) _ c.args.floorplan.now.row_x c.args.floorplan.now.bank_width _ c.bank_x-x.result _ c.in_ok-columns_x.columns_x _ _ _ _ _ c.loop-bank.bank c.deref.result.now
          ((c.deref.ensures ∙ c.in_ok-names.ensures) ∙ sym (rails_named (organization c.args.plan.now) c.loop-bank.bank c.requires.plan.plan)) c.loop-bank.invariant.is c.in_ok-add_rail_pins.ensures.is c.in_ok-add_slice_pins.ensures.is (omega (arith, ints, a, b)) c.bank_x-x.ensures.is (omega (arith, ints, f, g))
          (omega (arith, ints, a, b, d, e)) c.in_ok-columns_x.ensures.is;
      main = λ nets num all. c.in_ok-add_slice_pins.ensures.main nets num (c.in_ok-add_rail_pins.ensures.main nets num (c.loop-bank.invariant.main nets num all));
    }

pub returns-clause-is : goal.returns-clause-is
returns-clause-is c = λ wire wired.
    let is = c.pitch_of-pitch.ensures.is wire wired in
    let d = c.pitch_of-pitch.ensures.near.above in
    let e = c.pitch_of-pitch.ensures.near.below in
    let most = c.loop-bank-test.false in
    let least = c.loop-bank.auto.bank-end in
    all_banks (pin_begin c.args.kit.now) (leaf_width c.args.kit.now) (found_number c.args.numbers.now) (organization c.args.plan.now) _ (pitch wire) c.args.floorplan.now.row_x c.args.floorplan.now.bank_width c.loop-bank.bank c.args.plan.now.banks c.args.pins.now.items c.loop-bank.pins.items c.loop-bank.invariant.is
    (omega (arith, ints, is, d, e)) (omega (arith, most, least))
