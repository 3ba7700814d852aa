-- Violations that compare as equal are one.
use Rattle.std.specs.Option.{option_eq}
use Rattle.std.proofs.Common.{◌≡◌, true, ◌&&◌, eqb, Option, Some, None, refl, ap}
use Rattle.std.proofs.lemmas.Bool.{eqb-true, and_parts}
use Rattle.or_geom.specs.declared.shape.Shape.{Shape}
use Rattle.or_geom.proofs.ShapeOrderLaws.{shape_eq, same_shape}
use Rattle.tile_checker.specs.declared.violation.Violation.{Violation}

same_option : (s t : Option Shape) → option_eq shape_eq s t ≡ true → s ≡ t
same_option None None e = refl
same_option None (Some b) e = absurd cc
same_option (Some a) None e = absurd cc
same_option (Some a) (Some b) e = ap (λ (s : Shape). Some s) (same_shape a b e)

pub same_violation : (v w : Violation) → (eqb v.rule w.rule && (shape_eq v.first w.first && option_eq shape_eq v.second w.second)) ≡ true → v ≡ w
same_violation v w e =
    let a = and_parts (eqb v.rule w.rule) (shape_eq v.first w.first && option_eq shape_eq v.second w.second) e in
    let b = and_parts (shape_eq v.first w.first) (option_eq shape_eq v.second w.second) a.1 in
    let rule = eqb-true v.rule w.rule a.0 in
    let first = same_shape v.first w.first b.0 in
    let second = same_option v.second w.second b.1 in
    λ i. record { rule = rule i; first = first i; second = second i }
