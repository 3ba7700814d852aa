-- The order of labels is total.
use Rattle.std.specs.Cmp.{IsTotalOrder, on_total, then_total, nat_cmp_total, int_cmp_total}
use Rattle.std.specs.Cmp.Lexicographic.{nat_list_cmp_total}
use Rattle.element_drawing.specs.PlainLabel.{PlainLabel}
use Rattle.element_drawing.specs.LabelOrder.{label_order}

pub label_total : IsTotalOrder label_order
label_total =
    then_total (on_total (λ (l : PlainLabel). l.path) nat_list_cmp_total)
    (then_total (on_total (λ (l : PlainLabel). l.name) nat_list_cmp_total)
    (then_total (on_total (λ (l : PlainLabel). l.layer) nat_cmp_total)
    (then_total (on_total (λ (l : PlainLabel). l.at.x) int_cmp_total) (on_total (λ (l : PlainLabel). l.at.y) int_cmp_total))))
