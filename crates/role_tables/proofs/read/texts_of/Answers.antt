use Rattle.std.proofs.Common.{refl, sym, ◌∙◌}
use Rattle.role_tables.proofs.TableLaws.{rows_here, rows_later}
use Rattle.role_tables.proofs.read.texts_of.Goals as goal

pub returns-then-is : goal.returns-then-is
returns-then-is c =
    c.as_slice.ensures ∙ sym (rows_here c.args.tables.now c.loop-table.table-index c.table-item.result c.args.role c.loop-table-test.true c.table-item.is
    c.loop-table.invariant (c.if-is.ensures.0 refl ∙ c.as_bytes.ensures.value ∙ c.name.ensures))

pub loop-table-preserved : goal.loop-table-preserved
loop-table-preserved c =
    rows_later c.args.tables.now c.loop-table.table-index c.table-item.result c.args.role c.loop-table-test.true c.table-item.is c.loop-table.invariant
    (λ named. let yes = c.if-is.ensures.1 (named ∙ sym (c.as_bytes.ensures.value ∙ c.name.ensures)) in absurd cc)
