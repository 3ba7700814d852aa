use Rattle.std.proofs.Common.{refl, ◌∙◌}
use Rattle.sram_plan.specs.PlanNumbers.{numbers_of, organization}
use Rattle.port_lists.proofs.NumberLaws.{bits_are}
use Rattle.macro_build.proofs.CountLaws.{groups_small, logic_total}
use Rattle.macro_build.proofs.counts.logic_count.Goals as goal

pub groups_count-requires-clause-small : goal.groups_count-requires-clause-small
groups_count-requires-clause-small c = groups_small c.args.plan.now.groups c.requires.plan.sizes

pub returns : goal.returns
returns c =
    let plan = c.args.plan.now in
    logic_total (organization plan) plan.groups c.fixed_count.result c.from.result c.line_count.result c.groups_count.result c.from-2.result c.from-3.result c.line_count-2.result c.enable_cell_count.result refl
    c.fixed_count.ensures.count (c.from.ensures ∙ bits_are (numbers_of plan) c.requires) c.line_count.ensures.count c.groups_count.ensures.count (c.from-2.ensures ∙ c.inputs_of.ensures) c.from-3.ensures
    c.line_count-2.ensures.count c.enable_cell_count.ensures.count
