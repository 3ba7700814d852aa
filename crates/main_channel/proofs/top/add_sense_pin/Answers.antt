-- The output.
use Rattle.std.proofs.Common.{◌+ℤ◌, ◌∙◌, arith}
use Rattle.std.specs.Prelude.{codes}
use Rattle.std.proofs.lemmas.Int.{ints}
use Rattle.cell_roles.specs.declared.role.Role.TheVariants.{Sense}
use Rattle.sram_netlist.specs.Names.{with_index}
use Rattle.main_channel.specs.Leaves.{pin_begin}
use Rattle.main_channel.specs.Numbers.{found_number}
use Rattle.main_channel.proofs.StepLaws.{named_as}
use Rattle.main_channel.proofs.top.add_sense_pin.Goals as goal

pub returns-clause-is : goal.returns-clause-is
returns-clause-is c =
    let a = c.requires.x.above in
    let b = c.requires.x.below in
    named_as (found_number c.args.numbers.now) c.as_bytes.result.now (with_index (codes "dout0") c.args.bit) _ (c.args.x +ℤ pin_begin c.args.kit.now Sense 2) _ _ c.in_ok-add_leaf_pin.ensures.is (c.as_bytes.ensures ∙ c.in_ok-output.ensures) (omega (arith, ints, a, b))
