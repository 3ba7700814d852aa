-- The order of labels tells all labels apart.
use Rattle.std.proofs.Common.{◌≡◌, refl}
use Rattle.std.specs.Cmp.Lexicographic.{slice_cmp}
use Rattle.std.specs.FinMap.{nat_cmp-IsAntisymmetric, int_cmp-IsAntisymmetric}
use Rattle.std.specs.Ordering.{ordering_then, nat_cmp, int_cmp}
use Rattle.std.specs.declared.cmp.Ordering.{Ordering}
use Rattle.std.specs.declared.cmp.Ordering.TheVariants.{Less, Equal, Greater}
use Rattle.std.proofs.lemmas.Map.Lookups.{exact_bytes}
use Rattle.std.specs.Cmp.{Equal-is}
use Rattle.element_drawing.specs.LabelOrder.{EqIsSame}

both_equal : (o p : Ordering) → ordering_then o p ≡ Equal → (o ≡ Equal) × (p ≡ Equal)
both_equal Less p e = absurd cc
both_equal Equal p e = (refl, e)
both_equal Greater p e = absurd cc

pub eq_is_same : EqIsSame
eq_is_same a b e =
    let by_path = both_equal (slice_cmp nat_cmp a.path b.path) _ ((Equal-is _).0 e) in
    let by_name = both_equal (slice_cmp nat_cmp a.name b.name) _ by_path.1 in
    let by_layer = both_equal (nat_cmp a.layer b.layer) _ by_name.1 in
    let by_x = both_equal (int_cmp a.at.x b.at.x) _ by_layer.1 in
    let path = exact_bytes a.path b.path by_path.0 in
    let name = exact_bytes a.name b.name by_name.0 in
    let layer = nat_cmp-IsAntisymmetric a.layer b.layer by_layer.0 in
    let x = int_cmp-IsAntisymmetric a.at.x b.at.x by_x.0 in
    let y = int_cmp-IsAntisymmetric a.at.y b.at.y by_x.1 in
    λ i. record { path = path i; name = name i; layer = layer i; at = record { x = x i; y = y i } }
