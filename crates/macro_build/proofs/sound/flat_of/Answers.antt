use Rattle.std.proofs.Common.{sym, subst, arith}
use Rattle.std.proofs.lemmas.Result.{IfOk-weaker}
use Rattle.std.proofs.lemmas.List.{length-map}
use Rattle.cell_hierarchy.specs.Plain.{lists_of, plain_label}
use Rattle.cell_hierarchy.proofs.FlatLaws.{labels_are_few}
use Rattle.cell_hierarchy.proofs.FlatShapeLaws.{shapes_are_few}
use Rattle.cell_hierarchy.proofs.OneListsLaws.{shapes_of_lists}
use Rattle.cell_hierarchy.proofs.OneSetLaws.{one_set}
use Rattle.cell_hierarchy.proofs.FlatNearLaws.{flat_near}
use Rattle.port_lists.specs.Held.{held_of}
use Rattle.macro_build.specs.Built.{IsBuildFault}
use Rattle.macro_build.proofs.CheckLaws.{flatten_cause}
use Rattle.macro_build.proofs.FaultLaws.{told_ok, told_err}
use Rattle.macro_build.proofs.sound.flat_of.Goals as goal

pub returns-clause-reach : goal.returns-clause-reach
returns-clause-reach g c =
    let layers = c.args.order.now.kit.now.tech.layers in
    let structs = c.args.made.now.lib.structs in
    let name = c.args.order.now.name.now in
    told_ok c.flatten_by-flattened.result c.map_err.result _ _ c.map_err.ensures.cases
    (IfOk-weaker c.flatten_by-flattened.result _ _ (λ flat h. flat_near layers structs name flat.shapes.now (shapes_of_lists layers structs name (lists_of flat) h)) c.flatten_by-flattened.ensures.flat)

pub returns-clause-few : goal.returns-clause-few
returns-clause-few g c =
    let layers = c.args.order.now.kit.now.tech.layers in
    let structs = c.args.made.now.lib.structs in
    let name = c.args.order.now.name.now in
    told_ok c.flatten_by-flattened.result c.map_err.result _ _ c.map_err.ensures.cases
    (IfOk-weaker c.flatten_by-flattened.result _ _ (λ flat h. shapes_are_few one_set layers structs name flat.shapes.now c.requires.made.writable.cells (shapes_of_lists layers structs name (lists_of flat) h)) c.flatten_by-flattened.ensures.flat)

pub returns-clause-few_labels : goal.returns-clause-few_labels
returns-clause-few_labels g c =
    let layers = c.args.order.now.kit.now.tech.layers in
    let structs = c.args.made.now.lib.structs in
    let name = c.args.order.now.name.now in
    told_ok c.flatten_by-flattened.result c.map_err.result _ _ c.map_err.ensures.cases
    (IfOk-weaker c.flatten_by-flattened.result _ _ (λ flat h.
    let few = labels_are_few layers structs name (lists_of flat) h in
    let same = length-map flat.labels.now plain_label in
    omega (arith, few, same)) c.flatten_by-flattened.ensures.flat)

pub returns-clause-fault : goal.returns-clause-fault
returns-clause-fault g c =
    let kit = c.args.order.now.kit.now in
    let plan = c.args.order.now.plan.now in
    let held = held_of c.args.order.now.contents in
    let name = c.args.order.now.name.now in
    told_err c.flatten_by-flattened.result c.map_err.result _ _ _ (λ e d is h. subst (IsBuildFault kit plan held name) (sym is) (flatten_cause kit plan held name c.args.made.now e c.requires.made h)) c.map_err.ensures.cases c.flatten_by-flattened.ensures.fault
