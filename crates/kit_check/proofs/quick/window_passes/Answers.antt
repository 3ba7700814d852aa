use Rattle.std.proofs.Common.{Ok, sym, subst}
use Rattle.sram_netlist.specs.Numbers.{ArePlanNumbers}
use Rattle.sram_plan.specs.declared.numbers.Plan.{Plan}
use Rattle.sram_plan.specs.PlanNumbers.{numbers_of}
use Rattle.kit_check.proofs.WindowLaws.{are_planned}
use Rattle.kit_check.proofs.quick.window_passes.Goals as goal

pub make-requires-clause-plan : goal.make-requires-clause-plan
make-requires-clause-plan g c = subst (λ (p : Plan). ArePlanNumbers (numbers_of p)) (sym c.plan_of-plan.ensures) (are_planned c.args.window.now c.requires.window)

pub macro_passes-requires-clause-made : goal.macro_passes-requires-clause-made
macro_passes-requires-clause-made g c κs within =
    let kit = c.args.trial.now.kit.now in
    let name = c.args.trial.now.name.now in
    c.requires.trial.maker c.args.window.now name (Ok (c.in-Ok.lib, c.in-Ok.deck)) c.requires.window c.requires.trial.free
    (subst (λ (p : Plan). g.M.Maker.answers c.args.trial.now.maker.now kit p name (Ok (c.in-Ok.lib, c.in-Ok.deck))) c.plan_of-plan.ensures c.in-Ok.ensures.made)
