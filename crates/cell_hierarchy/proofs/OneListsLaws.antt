-- A structure has one pair of flat lists.
use Rattle.std.proofs.Common.{◌≡◌}
use Rattle.or_geom.specs.ShapeOrder.{shape_order}
use Rattle.or_geom.proofs.ShapeOrderLaws.{shape_total}
use Rattle.or_geom.proofs.OneListLaws.{one_list}
use Rattle.element_drawing.specs.LabelOrder.{label_order}
use Rattle.element_drawing.specs.OrderLaws.{label_total}
use Rattle.cell_hierarchy.specs.Plain.{FlatLists}
use Rattle.cell_hierarchy.specs.OneAnswer.{FlatListsAreUnique, FlatShapesAreUnique, FlatListsHaveShapes}

-- pairs of the same lists are the same
same_lists : (a b : FlatLists) → a.shapes ≡ b.shapes → a.labels ≡ b.labels → a ≡ b
same_lists a b shapes labels = λ i. record { shapes = shapes i; labels = labels i }

-- both pairs are in order and hold the same shapes and labels
pub one_pair : FlatListsAreUnique
one_pair layers structs top a b p q =
    same_lists a b
    (one_list shape_order shape_total a.shapes b.shapes p.shapes_rise q.shapes_rise (record { there = λ s h. (q.shapes_exact s).1 ((p.shapes_exact s).0 h); back = λ s h. (p.shapes_exact s).1 ((q.shapes_exact s).0 h) }))
    (one_list label_order label_total a.labels b.labels p.labels_rise q.labels_rise (record { there = λ l h. (q.labels_exact l).1 ((p.labels_exact l).0 h); back = λ l h. (p.labels_exact l).1 ((q.labels_exact l).0 h) }))

pub one_set_of_shapes : FlatShapesAreUnique
one_set_of_shapes layers structs top a b p q =
    one_list shape_order shape_total a b p.rise q.rise (record { there = λ s h. (q.exact s).1 ((p.exact s).0 h); back = λ s h. (p.exact s).1 ((q.exact s).0 h) })

pub shapes_of_lists : FlatListsHaveShapes
shapes_of_lists layers structs top lists l = record { sound = l.sound; few = l.few; near = l.near; rise = l.shapes_rise; exact = l.shapes_exact }
