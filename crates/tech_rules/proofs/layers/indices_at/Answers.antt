use Rattle.std.proofs.Common.{refl, arith}
use Rattle.std.proofs.lemmas.Grind.{common_steps}
use Rattle.std.proofs.lemmas.List.{map-id}
use Rattle.std.proofs.lemmas.Result.{err_from_is_err_and}
use Rattle.toml_keys.proofs.TurnLaws.{goes_on, stops, is_over}
use Rattle.tech_rules.proofs.layers.indices_at.Goals as goal

pub loop-name-init : goal.loop-name-init
loop-name-init c = record {
  so_far = rw (map-id, c.new-indices.ensures) refl;
  counted = rw c.new-indices.ensures refl;
}

pub returns-in_err-index-clause-given : goal.returns-in_err-index-clause-given
returns-in_err-index-clause-given c =
    let p = err_from_is_err_and c.from_residual.result c.from_residual.ensures.1 in
    rw (p.1, p.2) (stops (λ n. n) _ _ c.args.names.now c.loop-name.name-index c.name-item.result _ _ _ c.loop-name-test.true c.name-item.is (rw c.as_bytes.ensures at c.in_err-index.ensures) c.loop-name.invariant.so_far)

pub loop-name-preserved : goal.loop-name-preserved
loop-name-preserved c = record {
  so_far = rw c.in_ok-push.ensures.ok
      (goes_on (λ n. n) _ _ c.args.names.now c.loop-name.name-index c.name-item.result _ _ _ c.loop-name-test.true c.name-item.is (rw c.as_bytes.ensures at c.in_ok-index.ensures) c.loop-name.invariant.so_far);
  counted = grind (arith, common_steps);
}

pub returns-clause-given : goal.returns-clause-given
returns-clause-given c = is_over (λ n. n) _ _ c.args.names.now c.loop-name.name-index _ c.loop-name-test.false c.loop-name.invariant.so_far
