use Rattle.std.proofs.Common.{◌≡◌, ◌<◌, List, length, Some, sym, subst}
use Rattle.std.specs.Prelude.{slice_get}
use Rattle.std.proofs.lemmas.Option.{slice_get_within}
use Rattle.or_geom.specs.declared.shape.Shape.{Shape}
use Rattle.cell_hierarchy.specs.Plain.{plain_label}
use Rattle.leaf_shapes.proofs.CandidateLaws.{none_binds, hit_binds}
use Rattle.leaf_shapes.proofs.candidate.bound_shape.Goals as goal

pub returns-in_default : goal.returns-in_default
returns-in_default c = none_binds c.args.bins.now (plain_label c.args.label.now) c.in_default.ensures

pub shape_at-requires : goal.shape_at-requires
shape_at-requires c =
    let hit = c.in-Some.ensures.hit in
    subst (λ (shapes : List Shape). c.in-Some.place < length shapes) (sym c.shapes.ensures) (slice_get_within c.args.bins.now c.in-Some.place hit.shape hit.there)

pub returns : goal.returns
returns c =
    hit_binds c.args.bins.now (plain_label c.args.label.now) c.in-Some.place c.shape_at.result c.requires
    (subst (λ (shapes : List Shape). slice_get shapes c.in-Some.place ≡ Some c.shape_at.result) c.shapes.ensures c.shape_at.ensures) c.in-Some.ensures
