use Rattle.std.proofs.Common.{List, map, sym, subst}
use Rattle.std.specs.List.Sorted.{IsStrictlySortedBy}
use Rattle.or_geom.specs.declared.shape.Shape.{Shape}
use Rattle.or_geom.specs.ShapeOrder.{shape_order}
use Rattle.element_drawing.specs.LabelOrder.{label_order}
use Rattle.cell_hierarchy.specs.Plain.{plain_label}
use Rattle.cell_hierarchy.specs.declared.flat.Label.{Label}
use Rattle.cell_hierarchy.proofs.SortedLaws.{same_items, same_plain}
use Rattle.cell_hierarchy.proofs.sorted.sorted_flat.Goals as goal

pub returns-clause-flat : goal.returns-clause-flat
returns-clause-flat g c =
    let shapes = c.into_bump_slice.ensures in
    let labels = c.into_bump_slice-2.ensures in
    record {
      near = rw (c.deref.ensures.value, c.deref-2.ensures.value) at c.in_default.ensures;
      shapes_rise = subst (λ (l : List Shape). IsStrictlySortedBy shape_order l) (sym shapes) c.sort_distinct_shapes.ensures.rises;
      shapes_same = same_items _ _ _ shapes c.sort_distinct_shapes.ensures.keeps c.sort_distinct_shapes.ensures.adds_none;
      labels_rise = subst (λ (l : List Label). IsStrictlySortedBy label_order (map plain_label l)) (sym labels) c.sort_distinct_labels.ensures.rises;
      labels_same = same_plain _ _ _ labels c.sort_distinct_labels.ensures.same;
    }
