use Rattle.std.proofs.Common.{arith}
use Rattle.std.proofs.lemmas.Grind.{common_steps}
use Rattle.std.proofs.lemmas.Result.{err_from_is_err_and}
use Rattle.toml.specs.View.{view}
use Rattle.toml_keys.proofs.TurnLaws.{goes_on, stops, is_over}
use Rattle.tech_rules.proofs.layers.layers_in.Goals as goal

pub returns-in_err-layer-clause-given : goal.returns-in_err-layer-clause-given
returns-in_err-layer-clause-given c =
    let p = err_from_is_err_and c.from_residual.result c.from_residual.ensures.1 in
    rw (p.1, p.2) (stops view _ _ c.args.tables.now c.loop-table.table-index c.table-item.result _ _ _ c.loop-table-test.true c.table-item.is (rw c.as_slice.ensures at c.in_err-layer.ensures) c.loop-table.invariant.so_far)

pub loop-table-preserved : goal.loop-table-preserved
loop-table-preserved c = record {
  so_far = rw c.in_ok-push.ensures.ok
      (goes_on view _ _ c.args.tables.now c.loop-table.table-index c.table-item.result _ _ _ c.loop-table-test.true c.table-item.is (rw c.as_slice.ensures at c.in_ok-layer.ensures) c.loop-table.invariant.so_far);
  counted = grind (arith, common_steps);
}

pub returns-clause-given : goal.returns-clause-given
returns-clause-given c = is_over view _ _ c.args.tables.now c.loop-table.table-index _ c.loop-table-test.false c.loop-table.invariant.so_far
