use Rattle.cell_hierarchy.proofs.FlattenLaws.{flat_if, fault_if}
use Rattle.cell_hierarchy.proofs.flattening.flat_of.Goals as goal

pub returns-clause-flat : goal.returns-clause-flat
returns-clause-flat g c =
    flat_if c.args.layers.now c.args.keeps_labels c.args.structs.now c.args.top.now c.in_ok-gathered.gathered c.sorted_flat.result c.in_ok-cells.ensures.sound c.in_ok-counts.ensures.few c.in_ok-gathered.ensures c.sorted_flat.ensures.flat

pub returns-clause-fault : goal.returns-clause-fault
returns-clause-fault g c =
    fault_if c.args.layers.now c.args.keeps_labels c.args.structs.now c.args.top.now c.in_ok-gathered.gathered c.sorted_flat.result c.in_ok-cells.ensures.sound c.in_ok-counts.ensures.few c.in_ok-gathered.ensures c.sorted_flat.ensures.far
