use Rattle.std.proofs.Common.{sym, subst}
use Rattle.std.proofs.lemmas.Result.{err_from_is_err_and, IfOk-at_ok, IfErr-at_err}
use Rattle.port_lists.specs.Held.{held_of}
use Rattle.sram_macro.specs.Macro.{IsMacro}
use Rattle.macro_build.specs.Built.{IsBuildFault}
use Rattle.macro_build.proofs.AnswerLaws.{is_held}
use Rattle.macro_build.proofs.CheckLaws.{part_cause}
use Rattle.macro_build.proofs.FaultLaws.{told_ok, told_err}
use Rattle.macro_build.proofs.builder.build.Goals as goal

pub assemble_with-assembled-requires-clause-contents : goal.assemble_with-assembled-requires-clause-contents
assemble_with-assembled-requires-clause-contents g c =
    is_held c.args.order.now.kit.now c.args.order.now.plan.now (held_of c.args.order.now.contents) c.requires.plan c.requires.held c.requires.cells

pub check_sound-requires-clause-made : goal.check_sound-requires-clause-made
check_sound-requires-clause-made g c κs within =
    IfOk-at_ok (IsMacro c.args.order.now.kit.now c.args.order.now.plan.now (held_of c.args.order.now.contents) c.args.order.now.name.now) c.in_ok-made.was
    (told_ok c.assemble_with-assembled.result c.map_err.result _ _ c.map_err.ensures.cases c.assemble_with-assembled.ensures.ok)

pub returns-in_err-made-clause-fault : goal.returns-in_err-made-clause-fault
returns-in_err-made-clause-fault g c =
    let kit = c.args.order.now.kit.now in
    let plan = c.args.order.now.plan.now in
    let held = held_of c.args.order.now.contents in
    let name = c.args.order.now.name.now in
    let told = told_err c.assemble_with-assembled.result c.map_err.result _ _ _ (λ e d is h. subst (IsBuildFault kit plan held name) (sym is) (part_cause kit plan held name e h)) c.map_err.ensures.cases c.assemble_with-assembled.ensures.fault in
    let p = err_from_is_err_and c.from_residual.result c.from_residual.ensures.1 in
    rw p.1 (subst (IsBuildFault kit plan held name) (sym p.2) (IfErr-at_err (IsBuildFault kit plan held name) c.in_err-made.was told))

pub returns-in_err-check_sound-clause-fault : goal.returns-in_err-check_sound-clause-fault
returns-in_err-check_sound-clause-fault g c =
    let kit = c.args.order.now.kit.now in
    let plan = c.args.order.now.plan.now in
    let held = held_of c.args.order.now.contents in
    let name = c.args.order.now.name.now in
    let p = err_from_is_err_and c.from_residual-in_err-check_sound.result c.from_residual-in_err-check_sound.ensures.1 in
    rw p.1 (subst (IsBuildFault kit plan held name) (sym p.2) c.in_err-check_sound.ensures.fault)

pub returns-in_err-views-clause-fault : goal.returns-in_err-views-clause-fault
returns-in_err-views-clause-fault g c =
    let kit = c.args.order.now.kit.now in
    let plan = c.args.order.now.plan.now in
    let held = held_of c.args.order.now.contents in
    let name = c.args.order.now.name.now in
    let p = err_from_is_err_and c.from_residual-in_err-views.result c.from_residual-in_err-views.ensures.1 in
    rw p.1 (subst (IsBuildFault kit plan held name) (sym p.2) tt)
