use Rattle.cell_hierarchy.specs.Plain.{lists_of}
use Rattle.cell_hierarchy.proofs.FlatShapeLaws.{shapes_are_few}
use Rattle.cell_hierarchy.proofs.OneListsLaws.{shapes_of_lists}
use Rattle.cell_hierarchy.proofs.OneSetLaws.{one_set}
use Rattle.leaf_tables.proofs.leaf.flat_of.Goals as goal

pub returns-in-Ok-clause-few : goal.returns-in-Ok-clause-few
returns-in-Ok-clause-few c =
    let flat = c.in-Ok.flat in
    shapes_are_few one_set c.args.tech.now.layers c.args.lib.now.structs c.args.cell.now flat.shapes.now c.requires.writable.cells
    (shapes_of_lists c.args.tech.now.layers c.args.lib.now.structs c.args.cell.now (lists_of flat) c.in-Ok.ensures.flat)
