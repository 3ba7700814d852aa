-- A configuration has a plan, or none.
use Rattle.std.specs.Prelude.{◌⊎◌, ℕ}
use Rattle.sram_plan.specs.declared.config.Config.{Config}
use Rattle.sram_plan.specs.declared.numbers.Plan.{Plan}
use Rattle.sram_plan.specs.Config.{IsConfig}
use Rattle.sram_plan.specs.Plan.{IsPlanOf, IsWordsPerRow}

-- it has a plan, or no count of words in a row fits
abbrev pub PlanOrNone : Config → Type 0
PlanOrNone config = ((plan : Plan) × IsPlanOf config plan) ⊎ ((wpr : ℕ) → ¬ IsWordsPerRow config wpr)

abbrev pub PlansAnswer : Type 0
PlansAnswer = (config : Config) → IsConfig config → PlanOrNone config
