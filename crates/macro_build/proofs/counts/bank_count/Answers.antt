use Rattle.std.proofs.Common.{arith, ◌∙◌}
use Rattle.sram_plan.specs.PlanNumbers.{numbers_of, organization}
use Rattle.port_lists.proofs.NumberLaws.{columns_are, rows_are}
use Rattle.macro_build.proofs.CountLaws.{bank_small, bank_total}
use Rattle.macro_build.proofs.counts.bank_count.Goals as goal

pub overflow_add-result-2 : goal.overflow_add-result-2
overflow_add-result-2 c =
    let numbers = numbers_of c.args.plan.now in
    let small = bank_small (organization c.args.plan.now) c.from-3.result c.from-columns.result c.from.result c.from-2.result c.requires.plan
    (record { rows_are = c.from-3.ensures ∙ rows_are numbers c.requires; columns_are = c.from-columns.ensures ∙ columns_are numbers c.requires; inputs_are = c.from.ensures ∙ c.inputs_of.ensures; words_are = c.from-2.ensures }) in
    omega (arith, small)

pub overflow_add-result-3 : goal.overflow_add-result-3
overflow_add-result-3 c =
    let numbers = numbers_of c.args.plan.now in
    let small = bank_small (organization c.args.plan.now) c.from-3.result c.from-columns.result c.from.result c.from-2.result c.requires.plan
    (record { rows_are = c.from-3.ensures ∙ rows_are numbers c.requires; columns_are = c.from-columns.ensures ∙ columns_are numbers c.requires; inputs_are = c.from.ensures ∙ c.inputs_of.ensures; words_are = c.from-2.ensures }) in
    omega (arith, small)

pub returns : goal.returns
returns c =
    let numbers = numbers_of c.args.plan.now in
    bank_total (organization c.args.plan.now) c.from-3.result c.from-columns.result c.from.result c.from-2.result
    (record { rows_are = c.from-3.ensures ∙ rows_are numbers c.requires; columns_are = c.from-columns.ensures ∙ columns_are numbers c.requires; inputs_are = c.from.ensures ∙ c.inputs_of.ensures; words_are = c.from-2.ensures })
