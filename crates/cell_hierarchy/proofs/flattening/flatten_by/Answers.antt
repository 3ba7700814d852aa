use Rattle.cell_hierarchy.proofs.FlattenLaws.{lists_if}
use Rattle.cell_hierarchy.proofs.flattening.flatten_by.Goals as goal

pub returns-clause-flat : goal.returns-clause-flat
returns-clause-flat g c =
    lists_if c.args.tech.now.layers c.args.lib.now.structs c.args.top.now c.flat_of.result (rw (c.as_slice.ensures, c.as_slice-2.ensures) at c.flat_of.ensures.flat)
