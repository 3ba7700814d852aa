-- The order of labels.
use Rattle.std.specs.Prelude.{◌≡◌, IsTrue}
use Rattle.std.specs.Ordering.{ordering_then, int_cmp, nat_cmp, eq_by_cmp}
use Rattle.std.specs.Cmp.Lexicographic.{slice_cmp}
use Rattle.std.specs.declared.cmp.Ordering.{Ordering}
use Rattle.element_drawing.specs.PlainLabel.{PlainLabel}

-- by path, name, layer, x and y; texts by their bytes
abbrev pub label_order : PlainLabel → PlainLabel → Ordering
label_order a b =
    ordering_then (slice_cmp nat_cmp a.path b.path)
    (ordering_then (slice_cmp nat_cmp a.name b.name)
    (ordering_then (nat_cmp a.layer b.layer)
    (ordering_then (int_cmp a.at.x b.at.x) (int_cmp a.at.y b.at.y))))

-- Labels that compare as equal are the same label.
abbrev pub EqIsSame : Type 0
EqIsSame = (a b : PlainLabel) → IsTrue (eq_by_cmp label_order a b) → a ≡ b
