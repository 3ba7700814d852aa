use Rattle.std.proofs.Common.{arith, ◌∙◌}
use Rattle.sram_plan.specs.PlanNumbers.{organization}
use Rattle.macro_build.proofs.CountLaws.{enables_small}
use Rattle.macro_build.proofs.counts.enable_cell_count.Goals as goal

pub overflow_mul-result-else-plan-eq0 : goal.overflow_mul-result-else-plan-eq0
overflow_mul-result-else-plan-eq0 c =
    let few = enables_small (organization c.args.plan.now) c.from.result c.from-else-plan-eq0.result c.requires.plan (c.from.ensures ∙ c.lines_of.ensures.value) (c.from-else-plan-eq0.ensures ∙ c.enables_of.ensures) in
    omega (arith, few)

pub returns-else-plan-eq0-clause-few : goal.returns-else-plan-eq0-clause-few
returns-else-plan-eq0-clause-few c =
    enables_small (organization c.args.plan.now) c.from.result c.from-else-plan-eq0.result c.requires.plan (c.from.ensures ∙ c.lines_of.ensures.value) (c.from-else-plan-eq0.ensures ∙ c.enables_of.ensures)
