-- The width of all columns.
use Rattle.std.proofs.Common.{◌≡◌, ◌*◌, ℕ, pos, ap, ◌∙◌, to_z, of_z, w64, arith}
use Rattle.std.proofs.lemmas.Int.{ints}
use Rattle.sram_plan.specs.PlanNumbers.{numbers_of}
use Rattle.port_lists.proofs.NumberLaws.{columns_are}
use Rattle.port_data.proofs.DataLaws.{few_wide}
use Rattle.port_data.proofs.data.columns_width.Goals as goal

pub overflow_mul-plan : goal.overflow_mul-plan
overflow_mul-plan c =
    let most = c.requires.plan.plan.columns in
    let same = columns_are (numbers_of c.args.plan.now) c.requires.plan in
    let few = few_wide c.args.plan.now.columns c.args.width (omega (arith, most, same)) c.requires.width in
    omega (arith, few)

pub returns-clause-is : goal.returns-clause-is
returns-clause-is c =
    let most = c.requires.plan.plan.columns in
    let same = columns_are (numbers_of c.args.plan.now) c.requires.plan in
    let few = few_wide c.args.plan.now.columns c.args.width (omega (arith, most, same)) c.requires.width in
    let read = c.from.ensures in
    let product : to_z w64 (of_z w64 c.from.result) ≡ pos (c.args.plan.now.columns * c.args.width) = omega (arith, ints, few, read) in
    product ∙ ap (λ (n : ℕ). pos (n * c.args.width)) same

pub returns-clause-few : goal.returns-clause-few
returns-clause-few c =
    let most = c.requires.plan.plan.columns in
    let same = columns_are (numbers_of c.args.plan.now) c.requires.plan in
    let few = few_wide c.args.plan.now.columns c.args.width (omega (arith, most, same)) c.requires.width in
    let read = c.from.ensures in
    omega (arith, ints, few, read)
