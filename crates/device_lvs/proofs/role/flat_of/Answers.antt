use Rattle.cell_hierarchy.specs.Plain.{lists_of}
use Rattle.cell_hierarchy.proofs.FlatNearLaws.{flat_near}
use Rattle.cell_hierarchy.proofs.OneListsLaws.{shapes_of_lists}
use Rattle.device_lvs.proofs.role.flat_of.Goals as goal

pub returns-clause-near : goal.returns-clause-near
returns-clause-near c =
    let layers = c.args.tech.now.layers in
    let structs = c.args.lib.now.structs in
    let lists = lists_of c.in_ok-flatten.field-0 in
    flat_near layers structs c.args.cell.now lists.shapes (shapes_of_lists layers structs c.args.cell.now lists c.in_ok-flatten.ensures.flat)
