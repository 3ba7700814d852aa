use Rattle.std.proofs.Common.{Bool, List, [], map, sym, subst, ap, ◌∙◌}
use Rattle.std.specs.List.{AllByRecursion}
use Rattle.std.specs.List.Sorted.{IsPermutation}
use Rattle.std.proofs.lemmas.List.Sorted.{IsPermutation-refl}
use Rattle.std.specs.Str.{IsAscii}
use Rattle.element_drawing.specs.PlainLabel.{PlainLabel}
use Rattle.element_drawing.specs.ElementLabels.{pathless}
use Rattle.element_drawing.specs.declared.label.ElementLabel.{ElementLabel}
use Rattle.cell_hierarchy.specs.Plain.{plain_label}
use Rattle.cell_hierarchy.specs.declared.flat.Label.{Label}
use Rattle.cell_hierarchy.specs.Drawings.{kept_labels}
use Rattle.cell_hierarchy.proofs.PartLaws.{all_map, own_ascii, made_drawing}
use Rattle.cell_hierarchy.proofs.parts.drawing_of.Goals as goal
use Rattle.cell_hierarchy.proofs.parts.drawing_of.Goals.{then-keeps_labels+in_ok-labels, else-keeps_labels}

pub sorted_labels_in-requires : goal.sorted_labels_in-requires
sorted_labels_in-requires c =
    subst (AllByRecursion (λ (text : ElementLabel). IsAscii text.name.now)) (sym c.deref.ensures.value)
    (all_map (λ (l : PlainLabel). IsAscii l.name) pathless c.in_ok-texts.texts.items (subst (AllByRecursion (λ (l : PlainLabel). IsAscii l.name)) (sym c.in_ok-texts.ensures.are) (own_ascii c.args.layers.now c.args.elements.now c.requires.writable)))

pub returns : goal.returns
returns c =
    made_drawing c.args.layers.now c.args.keeps_labels c.args.elements.now _ c.in_ok-texts.texts.items c.in_ok-shapes.ensures.are c.in_ok-shapes.ensures.near c.in_ok-texts.ensures.are c.in_ok-texts.ensures.near
    (elim c.if-keeps_labels.branch [
      | then-keeps_labels+in_ok-labels w ↦
          rw w.labels-is
          (subst (λ (b : Bool). IsPermutation (kept_labels b (map pathless c.in_ok-texts.texts.items)) (map plain_label w.in_ok-labels.labels.items)) (sym w.if-keeps_labels.true)
          (subst (λ (texts : List ElementLabel). IsPermutation (map pathless texts) (map plain_label w.in_ok-labels.labels.items)) w.deref.ensures.value w.in_ok-labels.ensures))
      | else-keeps_labels w ↦
          rw w.labels-is
          (subst (λ (b : Bool). IsPermutation (kept_labels b (map pathless c.in_ok-texts.texts.items)) (map plain_label w.new-labels.result.items)) (sym w.if-keeps_labels.false)
          (subst (λ (none : List Label). IsPermutation [] (map plain_label none)) (sym w.new-labels.ensures.items) (IsPermutation-refl [])))
    ])
    (c.in_ok-points.ensures ∙ ap (map (λ (text : ElementLabel). text.at)) c.deref-2.ensures.value)
