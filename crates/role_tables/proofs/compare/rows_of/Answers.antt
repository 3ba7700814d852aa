use Rattle.std.proofs.Common.{refl, ◌∙◌}
use Rattle.role_tables.proofs.TableLaws.{own_more, own_never}
use Rattle.role_tables.proofs.compare.rows_of.Goals as goal
use Rattle.role_tables.proofs.compare.rows_of.Goals.{in-Some+in_ok-push, in_default}

pub loop-text-preserved : goal.loop-text-preserved
loop-text-preserved c = elim c.match-cut.branch [
  | in-Some+in_ok-push w ↦
      rw w.rows-is (w.in_ok-push.ensures.items ∙ own_more c.args.role c.leaf_table_rows-text-items.result.now c.loop-text.text-index _ c.as_bytes.result.now
      c.loop-text.rows.items w.in-Some.row c.leaf_table_rows-text-items.ensures c.loop-text-test.true c.as_bytes.ensures.value c.loop-text.invariant w.in-Some.ensures.some)
  | in_default w ↦
      absurd (own_never c.args.role c.leaf_table_rows-text-items.result.now c.loop-text.text-index _ c.as_bytes.result.now c.leaf_table_rows-text-items.ensures
      c.loop-text-test.true c.as_bytes.ensures.value (w.in_default.ensures.none refl))
]
