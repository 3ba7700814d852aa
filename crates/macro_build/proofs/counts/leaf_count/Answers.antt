use Rattle.std.proofs.Common.{arith, ◌∙◌}
use Rattle.sram_plan.specs.PlanNumbers.{numbers_of, organization}
use Rattle.port_lists.proofs.NumberLaws.{banks_are}
use Rattle.macro_build.proofs.CountLaws.{leaves_small, leaves_total}
use Rattle.macro_build.proofs.counts.leaf_count.Goals as goal

pub overflow_mul-result : goal.overflow_mul-result
overflow_mul-result c =
    let small = leaves_small (organization c.args.plan.now) c.logic_count.result c.from.result c.bank_count.result c.requires.plan c.logic_count.ensures (c.from.ensures ∙ banks_are (numbers_of c.args.plan.now) c.requires) (c.bank_count.ensures 0) in
    omega (arith, small)

pub overflow_add-result : goal.overflow_add-result
overflow_add-result c =
    let small = leaves_small (organization c.args.plan.now) c.logic_count.result c.from.result c.bank_count.result c.requires.plan c.logic_count.ensures (c.from.ensures ∙ banks_are (numbers_of c.args.plan.now) c.requires) (c.bank_count.ensures 0) in
    omega (arith, small)

pub returns : goal.returns
returns c =
    leaves_total (organization c.args.plan.now) c.logic_count.result c.from.result c.bank_count.result c.logic_count.ensures (c.from.ensures ∙ banks_are (numbers_of c.args.plan.now) c.requires) (c.bank_count.ensures 0)
