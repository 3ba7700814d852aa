-- The order of a cell's labels.
use Rattle.std.specs.Prelude.{Some}
use Rattle.std.specs.Ordering.{ordering_then, int_cmp, nat_cmp, eq_by_cmp}
use Rattle.std.specs.Cmp.{IsTotalOrder, IsEquivalence, IsPartialEquivalence, IsPartialOrder, on_total, then_total, partial_order_from_total, partial_equiv_from_equiv, eq_by_cmp_equiv, nat_cmp_total, int_cmp_total}
use Rattle.std.specs.Cmp.Lexicographic.{slice_cmp, nat_list_cmp_total}
use Rattle.std.specs.declared.cmp.Ordering.{Ordering}
use Rattle.cell_builder.specs.declared.cell.PlacedLabel.{PlacedLabel}

-- by text, layer, x and y; texts by their bytes
abbrev pub text_order : PlacedLabel → PlacedLabel → Ordering
text_order a b =
    ordering_then (slice_cmp nat_cmp a.text b.text)
    (ordering_then (nat_cmp a.layer b.layer)
    (ordering_then (int_cmp a.at.x b.at.x) (int_cmp a.at.y b.at.y)))

pub text_total : IsTotalOrder text_order
text_total =
    then_total (on_total (λ (l : PlacedLabel). l.text) nat_list_cmp_total)
    (then_total (on_total (λ (l : PlacedLabel). l.layer) nat_cmp_total)
    (then_total (on_total (λ (l : PlacedLabel). l.at.x) int_cmp_total) (on_total (λ (l : PlacedLabel). l.at.y) int_cmp_total)))

pub text_partial : IsPartialOrder (eq_by_cmp text_order) (λ a b. Some (text_order a b))
text_partial = partial_order_from_total text_total

pub text_equivalence : IsEquivalence (eq_by_cmp text_order)
text_equivalence = eq_by_cmp_equiv text_total

pub text_partial_equivalence : IsPartialEquivalence (eq_by_cmp text_order)
text_partial_equivalence = partial_equiv_from_equiv text_equivalence
