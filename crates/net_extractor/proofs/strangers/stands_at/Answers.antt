use Rattle.std.proofs.Common.{◌≡◌, ◌<◌, ◌∙◌, length, refl, sym, ap, subst, arith}
use Rattle.std.proofs.lemmas.Option.{slice_get_read}
use Rattle.or_geom.proofs.ListLaws.{contained_at}
use Rattle.or_geom.proofs.GatheringLaws.{some_has}
use Rattle.netlist.specs.declared.rows.RowPin.{RowPin}
use Rattle.net_extractor.specs.Difference.{IsOnOnePath, IsPlacedBy}
use Rattle.net_extractor.proofs.PathLaws.{not_empty}
use Rattle.net_extractor.proofs.strangers.stands_at.Goals as goal

pub returns : goal.returns
returns c = λ yes.
    let pin = c.index-pins-place.result in
    let lt : c.args.place < length c.args.pins.now = omega (arith, c.if-pins-place.false) in
    let at = slice_get_read c.args.pins.now _ c.args.place pin refl lt c.index-pins-place.is in
    let path : c.as_bytes-instance.result.now ≡ pin.path = c.as_bytes-instance.ensures ∙ ap (λ (p : RowPin). p.path) (sym c.index-pins-place.is) in
    some_has (IsPlacedBy c.args.path.now) c.args.pins.now pin (contained_at c.args.pins.now c.args.place pin at)
    (record { leaf = λ e. not_empty c.as_bytes-instance.result.now c.if-is_empty.ensures (path ∙ e); along = subst (IsOnOnePath c.args.path.now) path (c.is_along.ensures.0 yes) })
