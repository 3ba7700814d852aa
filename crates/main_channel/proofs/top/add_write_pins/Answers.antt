-- The data, and then the enable.
use Rattle.std.proofs.Common.{◌+ℤ◌, ◌∙◌, arith}
use Rattle.std.specs.Prelude.{codes}
use Rattle.std.proofs.lemmas.Int.{ints}
use Rattle.cell_roles.specs.declared.role.Role.TheVariants.{Write}
use Rattle.sram_netlist.specs.Names.{with_number}
use Rattle.sram_plan.specs.PlanNumbers.{organization}
use Rattle.main_channel.specs.Names.{enable_name}
use Rattle.main_channel.specs.Leaves.{pin_begin}
use Rattle.main_channel.specs.Numbers.{found_number}
use Rattle.main_channel.proofs.StepLaws.{named_as, two_lists, write_more}
use Rattle.main_channel.proofs.top.add_write_pins.Goals as goal

pub returns-clause-is : goal.returns-clause-is
returns-clause-is c =
    let a = c.requires.x.above in
    let b = c.requires.x.below in
    let look = found_number c.args.numbers.now in
    let unequal = c.if-plan-eq0.false in
    write_more c.args.plan.now.write_size _ _ _ (omega (arith, unequal)) (two_lists _ _ _ _ _
    (named_as look c.as_bytes.result.now (with_number (codes "d") c.args.slice.bit) _ (c.args.slice.x +ℤ pin_begin c.args.kit.now Write 0) _ _ c.in_ok-add_leaf_pin.ensures.is (c.as_bytes.ensures ∙ c.in_ok-data.ensures) (omega (arith, ints, a, b)))
    (named_as look c.as_bytes-2.result.now (enable_name (organization c.args.plan.now) c.args.slice.bank c.args.slice.bit) _ (c.args.slice.x +ℤ pin_begin c.args.kit.now Write 3) _ _ c.in_ok-add_leaf_pin-2.ensures.is (c.as_bytes-2.ensures ∙ (c.in_ok-enable.ensures ∙ c.write_enable.ensures)) (omega (arith, ints, a, b))))

pub returns-clause-main : goal.returns-clause-main
returns-clause-main c = λ nets num all. c.in_ok-add_leaf_pin-2.ensures.main nets num (c.in_ok-add_leaf_pin.ensures.main nets num all)
