use Rattle.std.proofs.Common.{refl, sym, ◌∙◌}
use Rattle.std.proofs.lemmas.Result.{err_from_is_err_and}
use Rattle.toml_keys.proofs.TurnLaws.{picks, picked_fails, all_picked}
use Rattle.tech_rules.proofs.roles.in_table.Goals as goal

pub returns-in_err-one : goal.returns-in_err-one
returns-in_err-one g c =
    let p = err_from_is_err_and c.from_residual.result c.from_residual.ensures.1 in
    rw (p.1, p.2) (picked_fails (λ t. t.now) _ _ _ c.args.names.now c.loop-role.role-index _ _ _ _ c.loop-role-test.true refl (sym c.has.ensures ∙ c.if-not-has.false) c.in_err-one.ensures c.loop-role.invariant)

pub loop-role-preserved : goal.loop-role-preserved
loop-role-preserved g c =
    rw c.in_ok-push.ensures.ok
    (picks (λ t. t.now) _ _ _ c.args.names.now c.loop-role.role-index _ _ _ _ c.loop-role-test.true refl (sym c.has.ensures ∙ c.if-not-has.false) c.in_ok-one.ensures c.loop-role.invariant)

pub returns : goal.returns
returns g c = all_picked (λ t. t.now) _ _ _ c.args.names.now c.loop-role.role-index _ c.loop-role-test.false c.loop-role.invariant
