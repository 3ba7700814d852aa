use Rattle.std.proofs.Common.{◌≡◌, ℕ, Result, Ok, Err, sym, ap, subst}
use Rattle.std.specs.Prelude.{IfOk}
use Rattle.std.proofs.lemmas.Result.{err_from_is_err_and}
use Rattle.leaf_tables.specs.Kits.{IsKit}
use Rattle.reply_lines.specs.Statuses.{is_read_failure}
use Rattle.reply_lines.specs.declared.refusal.Refusal.{Refusal}
use Rattle.reply_lines.specs.declared.refusal.Refusal.TheVariants as refusal_of
use Rattle.sram_netlist.specs.Numbers.{ArePlanNumbers}
use Rattle.sram_plan.specs.Config.{IsConfig}
use Rattle.sram_plan.specs.Plan.{IsPlanOf, IsWordsPerRow}
use Rattle.sram_plan.specs.PlanNumbers.{numbers_of}
use Rattle.sram_plan.specs.declared.config.Config.{Config}
use Rattle.sram_plan.specs.declared.numbers.Plan.{Plan}
use Rattle.command_steps.proofs.OutcomeLaws.{said_value, said_fault}
use Rattle.build_command.specs.declared.design.Design.{Design}
use Rattle.build_command.proofs.StepLaws.{step_on, step_ends}
use Rattle.build_command.specs.Design.{IsGoodDesign, IsPlanned, IsDesignWith}
use Rattle.build_command.proofs.design.design_of.Goals as goal

pub returns-in_err-plan-clause-read : goal.returns-in_err-plan-clause-read
returns-in_err-plan-clause-read g c =
    let p = err_from_is_err_and c.from_residual.result c.from_residual.ensures.1 in
    let refusal = c.in_err-plan.field-0.0 in
    let store = g.S.Store.state c.args.store.now in
    let told = said_fault (λ _. (wpr : ℕ) → ¬ IsWordsPerRow c.args.config wpr) refusal_of.Plan c.plan.result refusal c.plan.ensures.refused c.in_err-plan.ensures.cases in
    rw (p.1, p.2) (step_ends (IsPlanned c.args.config) (λ files. IsDesignWith files c.args.config) refusal store (λ lasts. told) (ap is_read_failure told.2))

pub returns-clause-read : goal.returns-clause-read
returns-clause-read g c =
    let before = g.S.Store.state c.args.store.now in
    let now = g.S.Store.state c.design_with.new.store in
    let plan = c.in_ok-plan.plan in
    let planned = said_value (IsPlanOf c.args.config) refusal_of.Plan c.plan.result (Ok plan) c.plan.ensures.planned c.in_ok-plan.ensures.cases in
    step_on (IsPlanned c.args.config) (λ files. IsDesignWith files c.args.config) plan c.design_with.result before now planned c.design_with.ensures.read

good_of : (config : Config) (plan : Plan) (result : Result Design Refusal) → IsConfig config → IsPlanOf config plan → ArePlanNumbers (numbers_of plan) → IfOk result (λ design. (design.config ≡ config) × (design.plan ≡ plan)) → IfOk result (λ design. IsKit design.kit) → IfOk result IsGoodDesign
good_of config plan (Ok design) is planned numbers parts kit = record {
  config = subst (λ (x : Config). IsConfig x) (sym parts.0) is;
  planned = subst (λ (x : Plan). IsPlanOf design.config x) (sym parts.1) (subst (λ (x : Config). IsPlanOf x plan) (sym parts.0) planned);
  numbers = subst (λ (x : Plan). ArePlanNumbers (numbers_of x)) (sym parts.1) numbers;
  kit = kit;
}
good_of config plan (Err refusal) is planned numbers parts kit = tt

pub returns-clause-good : goal.returns-clause-good
returns-clause-good g c =
    let plan = c.in_ok-plan.plan in
    let planned = said_value (IsPlanOf c.args.config) refusal_of.Plan c.plan.result (Ok plan) c.plan.ensures.planned c.in_ok-plan.ensures.cases in
    let numbers = said_value (λ p. ArePlanNumbers (numbers_of p)) refusal_of.Plan c.plan.result (Ok plan) c.plan.ensures.numbers c.in_ok-plan.ensures.cases in
    good_of c.args.config plan c.design_with.result c.requires planned numbers c.design_with.ensures.parts c.design_with.ensures.good
