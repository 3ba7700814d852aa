-- The order of flat labels, which is that of the plain_label data.
use Rattle.std.specs.Prelude.{Some}
use Rattle.std.specs.Cmp.{IsTotalOrder, IsEquivalence, IsPartialEquivalence, IsPartialOrder, on_total, partial_order_from_total, partial_equiv_from_equiv, eq_by_cmp_equiv}
use Rattle.std.specs.Ordering.{eq_by_cmp}
use Rattle.std.specs.declared.cmp.Ordering.{Ordering}
use Rattle.element_drawing.specs.LabelOrder.{label_order}
use Rattle.element_drawing.specs.OrderLaws.{label_total}
use Rattle.cell_hierarchy.specs.declared.flat.Label.{Label}
use Rattle.cell_hierarchy.specs.Plain.{plain_label}

abbrev pub flat_label_order : Label → Label → Ordering
flat_label_order a b = label_order (plain_label a) (plain_label b)

pub flat_label_total : IsTotalOrder flat_label_order
flat_label_total = on_total plain_label label_total

pub flat_label_partial : IsPartialOrder (eq_by_cmp flat_label_order) (λ a b. Some (flat_label_order a b))
flat_label_partial = partial_order_from_total flat_label_total

pub flat_label_equivalence : IsEquivalence (eq_by_cmp flat_label_order)
flat_label_equivalence = eq_by_cmp_equiv flat_label_total

pub flat_label_partial_equivalence : IsPartialEquivalence (eq_by_cmp flat_label_order)
flat_label_partial_equivalence = partial_equiv_from_equiv flat_label_equivalence
