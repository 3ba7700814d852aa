use Rattle.std.proofs.lemmas.Result.{err_from_is_err_and}
use Rattle.toml.specs.View.{view}
use Rattle.toml_keys.proofs.TurnLaws.{goes_on, stops, is_over}
use Rattle.toml_keys.proofs.table.KeyTable.texts_in.Goals as goal

pub returns-in_err-text : goal.returns-in_err-text
returns-in_err-text g c =
    let p = err_from_is_err_and c.from_residual.result c.from_residual.ensures.1 in
    rw (p.1, p.2) (stops view _ _ c.args.items.now c.loop-item.item-index c.item-item.result _ _ _ c.loop-item-test.true c.item-item.is c.in_err-text.ensures c.loop-item.invariant)

pub loop-item-preserved : goal.loop-item-preserved
loop-item-preserved g c =
    rw c.in-Ok.ensures.ok
    (goes_on view _ _ c.args.items.now c.loop-item.item-index c.item-item.result _ _ _ c.loop-item-test.true c.item-item.is c.in_ok-text.ensures c.loop-item.invariant)

pub returns : goal.returns
returns g c = is_over view _ _ c.args.items.now c.loop-item.item-index _ c.loop-item-test.false c.loop-item.invariant
