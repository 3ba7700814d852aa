use Rattle.cell_hierarchy.specs.Plain.{lists_of}
use Rattle.cell_hierarchy.proofs.FlatShapeLaws.{shapes_are_few}
use Rattle.cell_hierarchy.proofs.OneFaultLaws.{fault_or_lists}
use Rattle.cell_hierarchy.proofs.TotalLaws.{one_total}
use Rattle.cell_hierarchy.proofs.OneListsLaws.{shapes_of_lists}
use Rattle.cell_hierarchy.proofs.OneSetLaws.{one_set}
use Rattle.cell_hierarchy.proofs.FlatNearLaws.{flat_near}
use Rattle.kit_rules.proofs.KitLaws.{flat_of_cell}
use Rattle.kit_rules.proofs.layout.leaf_layout.Goals as goal

pub unreachable-requires : goal.unreachable-requires
unreachable-requires c =
    let kit = c.args.kit.now in
    let flat = flat_of_cell kit c.args.role c.args.cell.now c.requires.kit c.requires.plays in
    fault_or_lists one_total kit.tech.layers kit.lib.structs c.args.cell.now flat.0 c.in-Err.fault c.requires.kit.library.cells c.in_default.not-Memory c.in-Err.ensures.fault flat.1

pub returns-in-Ok-clause-reach : goal.returns-in-Ok-clause-reach
returns-in-Ok-clause-reach c =
    let kit = c.args.kit.now in
    flat_near kit.tech.layers kit.lib.structs c.args.cell.now c.in-Ok.flat.shapes.now (shapes_of_lists kit.tech.layers kit.lib.structs c.args.cell.now (lists_of c.in-Ok.flat) c.in-Ok.ensures.flat)

pub returns-in-Ok-clause-few : goal.returns-in-Ok-clause-few
returns-in-Ok-clause-few c =
    let kit = c.args.kit.now in
    shapes_are_few one_set kit.tech.layers kit.lib.structs c.args.cell.now c.in-Ok.flat.shapes.now c.requires.kit.library.cells (shapes_of_lists kit.tech.layers kit.lib.structs c.args.cell.now (lists_of c.in-Ok.flat) c.in-Ok.ensures.flat)
