use Rattle.leaf_contacts.proofs.BelowLaws.{below_end}
use Rattle.leaf_contacts.proofs.ReferenceLaws.{column_step}
use Rattle.leaf_contacts.specs.Stands.{IsGridItem}
use Rattle.leaf_contacts.proofs.references.add_column.Goals as goal

pub loop-row-preserved : goal.loop-row-preserved
loop-row-preserved c chain to is end =
    column_step c.args.tree.now c.args.outer.now.cell c.args.grid.now chain to c.args.column c.loop-row.row c.place_at-place.result c.in_ok-made.made c.args.out.now.items c.loop-row.out.items _ c.requires.grid end c.requires.column c.loop-row-test.true
    c.place_at-place.ensures.is c.in_ok-push.ensures.items (λ r at. c.in_ok-made.ensures chain r is at) (c.loop-row.invariant chain to is end)

pub returns : goal.returns
returns c chain to is end =
    below_end c.args.tree.now chain (IsGridItem c.args.grid.now to c.args.column) c.loop-row.row c.args.grid.now.rows c.args.out.now.items c.loop-row.out.items c.loop-row.auto.row-end c.loop-row-test.false (c.loop-row.invariant chain to is end)
