use Rattle.std.proofs.Common.{arith}
use Rattle.std.proofs.lemmas.Result.{IfOk-weaker}
use Rattle.std.proofs.lemmas.List.{length-map}
use Rattle.cell_hierarchy.specs.declared.flat.Flat.{Flat}
use Rattle.cell_hierarchy.specs.Plain.{lists_of, plain_label}
use Rattle.cell_hierarchy.proofs.FlatLaws.{labels_are_few}
use Rattle.cell_hierarchy.proofs.FlatShapeLaws.{shapes_are_few}
use Rattle.cell_hierarchy.proofs.OneListsLaws.{shapes_of_lists}
use Rattle.cell_hierarchy.proofs.OneSetLaws.{one_set}
use Rattle.cell_hierarchy.proofs.FlatNearLaws.{flat_near}
use Rattle.kit_check.proofs.judge.flat_of.Goals as goal

pub returns-clause-reach : goal.returns-clause-reach
returns-clause-reach c =
    let layers = c.args.kit.now.tech.layers in
    let structs = c.args.lib.now.structs in
    let name = c.args.name.now in
    IfOk-weaker _ _ _ (λ (flat : Flat) u. flat_near layers structs name flat.shapes.now (shapes_of_lists layers structs name (lists_of flat) u)) c.flatten.ensures.flat

pub returns-clause-few : goal.returns-clause-few
returns-clause-few c =
    let layers = c.args.kit.now.tech.layers in
    let structs = c.args.lib.now.structs in
    let name = c.args.name.now in
    IfOk-weaker _ _ _ (λ (flat : Flat) u. shapes_are_few one_set layers structs name flat.shapes.now c.requires.writable.cells (shapes_of_lists layers structs name (lists_of flat) u)) c.flatten.ensures.flat

pub returns-clause-few_labels : goal.returns-clause-few_labels
returns-clause-few_labels c =
    let layers = c.args.kit.now.tech.layers in
    let structs = c.args.lib.now.structs in
    let name = c.args.name.now in
    IfOk-weaker _ _ _ (λ (flat : Flat) u. let few = labels_are_few layers structs name (lists_of flat) u in let same = length-map flat.labels.now plain_label in omega (arith, few, same)) c.flatten.ensures.flat
