use Rattle.cell_hierarchy.specs.Below.{SomeBelow}
use Rattle.leaf_contacts.proofs.BelowLaws.{below_end, below_step}
use Rattle.leaf_contacts.specs.Stands.{IsGridItem}
use Rattle.leaf_contacts.proofs.references.add_array.Goals as goal

pub loop-column-preserved : goal.loop-column-preserved
loop-column-preserved c chain to is end =
    below_step c.args.tree.now chain (λ column. SomeBelow (IsGridItem c.args.grid.now to column) c.args.grid.now.rows) c.loop-column.column c.args.out.now.items c.loop-column.out.items _ (c.loop-column.invariant chain to is end)
    (c.in_ok-add_column.ensures chain to is end)

pub returns : goal.returns
returns c chain to is end =
    below_end c.args.tree.now chain (λ column. SomeBelow (IsGridItem c.args.grid.now to column) c.args.grid.now.rows) c.loop-column.column c.args.grid.now.columns c.args.out.now.items c.loop-column.out.items c.loop-column.auto.column-end
    c.loop-column-test.false (c.loop-column.invariant chain to is end)
