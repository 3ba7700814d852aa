use Rattle.std.proofs.Common.{◌≡◌, ℕ, get_or, length, refl, sym, subst, ◌∙◌}
use Rattle.std.specs.Prelude.{slice_get, Some}
use Rattle.std.proofs.lemmas.Option.{slice_get_within, slice_get-get_or, slice_get_read, same_Some}
use Rattle.or_geom.specs.declared.shape.Shape.{Shape}
use Rattle.shape_bins.proofs.tree.listed_at.Goals as goal

pub bounds-shapes-places : goal.bounds-shapes-places
bounds-shapes-places c =
    let on = c.requires.on (get_or c.args.places.now c.args.at 0) (slice_get-get_or c.args.places.now c.args.at 0 c.requires.within) in
    slice_get_within c.args.shapes.now (get_or c.args.places.now c.args.at 0) on.shape on.there

pub returns-clause-there : goal.returns-clause-there
returns-clause-there c = λ place is.
    let here = slice_get-get_or c.args.places.now c.args.at 0 c.requires.within in
    let same : get_or c.args.places.now c.args.at 0 ≡ place = same_Some (get_or c.args.places.now c.args.at 0) place (sym here ∙ is) in
    let on = c.requires.on (get_or c.args.places.now c.args.at 0) here in
    let lt = slice_get_within c.args.shapes.now (get_or c.args.places.now c.args.at 0) on.shape on.there in
    subst (λ (p : ℕ). slice_get c.args.shapes.now p ≡ Some c.index-shapes-places.result) same
    (slice_get_read c.args.shapes.now (length c.args.shapes.now) (get_or c.args.places.now c.args.at 0) c.index-shapes-places.result refl lt c.index-shapes-places.is)

pub returns-clause-on : goal.returns-clause-on
returns-clause-on c =
    let here = slice_get-get_or c.args.places.now c.args.at 0 c.requires.within in
    let on = c.requires.on (get_or c.args.places.now c.args.at 0) here in
    let lt = slice_get_within c.args.shapes.now (get_or c.args.places.now c.args.at 0) on.shape on.there in
    let there = slice_get_read c.args.shapes.now (length c.args.shapes.now) (get_or c.args.places.now c.args.at 0) c.index-shapes-places.result refl lt c.index-shapes-places.is in
    subst (λ (s : Shape). s.layer ≡ c.args._layer) (same_Some on.shape c.index-shapes-places.result (sym on.there ∙ there)) on.on
