use Rattle.std.proofs.Common.{sym}
use Rattle.rectilinear.specs.Rows.{IsPlace, HasAt}
use Rattle.rectilinear.proofs.ToggleLaws.{toggle_in, toggle_out, refuted}
use Rattle.rectilinear.proofs.ends.toggle.Goals as goal

pub returns-then-has_at : goal.returns-then-has_at
returns-then-has_at c =
    let has : HasAt c.args.ends.now.items c.place_of-place.result c.args.end = rw (sym c.deref-2.ensures.value) (c.has_at.ensures.0 c.if-has_at.true) in
    toggle_out c.args.ends.now.items _ c.args.end _ c.requires has c.remove.ensures.items

pub returns : goal.returns
returns c =
    let place : IsPlace c.args.ends.now.items c.args.end c.place_of-place.result = rw (sym c.deref.ensures.value) c.place_of-place.ensures.place in
    let none : HasAt c.args.ends.now.items c.place_of-place.result c.args.end → ⊥ = rw (sym c.deref-2.ensures.value) (refuted _ c.has_at.ensures c.if-has_at.false) in
    toggle_in c.args.ends.now.items _ c.args.end _ c.requires place none c.in_ok-insert.ensures.items
