use Rattle.cell_hierarchy.proofs.FlattenLaws.{shapes_if, none_if}
use Rattle.cell_hierarchy.proofs.flattening.flatten_shapes_by.Goals as goal

pub returns-clause-shapes : goal.returns-clause-shapes
returns-clause-shapes g c =
    shapes_if c.args.tech.now.layers c.args.lib.now.structs c.args.top.now c.flat_of.result (rw (c.as_slice.ensures, c.as_slice-2.ensures) at c.flat_of.ensures.flat)

pub returns-clause-none : goal.returns-clause-none
returns-clause-none g c =
    none_if c.args.tech.now.layers c.args.lib.now.structs c.args.top.now c.flat_of.result (rw (c.as_slice.ensures, c.as_slice-2.ensures) at c.flat_of.ensures.flat)
