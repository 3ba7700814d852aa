use Rattle.std.proofs.Common.{refl}
use Rattle.std.specs.Ordering.{eq_by_cmp}
use Rattle.std.proofs.lemmas.List.Filters.{dedup_is}
use Rattle.std.proofs.lemmas.List.Kept.{IsStrictlySortedBy-dedup}
use Rattle.element_drawing.specs.LabelOrder.{label_order}
use Rattle.element_drawing.proofs.OrderLaws.{eq_is_same}
use Rattle.cell_hierarchy.specs.LabelLaws.{flat_label_order, flat_label_total, flat_label_equivalence}
use Rattle.cell_hierarchy.specs.Plain.{plain_label}
use Rattle.cell_hierarchy.proofs.SortedLaws.{images_rise, same_images}
use Rattle.cell_hierarchy.proofs.sorted.sort_distinct_labels.Goals as goal

pub returns-clause-rises : goal.returns-clause-rises
returns-clause-rises g c =
    let is = dedup_is _ _ _ c.dedup.ensures.filtered in
    images_rise label_order plain_label _ (rw is (IsStrictlySortedBy-dedup flat_label_total (λ a b. refl) _ c.sort_labels.ensures.sorted))

pub returns-clause-same : goal.returns-clause-same
returns-clause-same g c =
    let is = dedup_is _ _ _ c.dedup.ensures.filtered in
    rw is (same_images (eq_by_cmp flat_label_order) plain_label flat_label_equivalence (λ a b same. eq_is_same (plain_label a) (plain_label b) same) c.args.labels.now.items c.sort_labels.new.labels.items c.sort_labels.ensures.permutation)
