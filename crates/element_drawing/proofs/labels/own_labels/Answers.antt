use Rattle.std.proofs.Common.{subst, sym}
use Rattle.std.proofs.lemmas.List.{nil_from_length}
use Rattle.std.specs.List.{AllByRecursion}
use Rattle.element_drawing.specs.OwnLabels.{IsLabelWithin}
use Rattle.element_drawing.proofs.LabelLaws.{labels_all}
use Rattle.element_drawing.proofs.NearLaws.{labels_near}
use Rattle.element_drawing.proofs.labels.own_labels.Goals as goal

pub returns-clause-near : goal.returns-clause-near
returns-clause-near c =
    let are = labels_all c.args.layers.now c.args.elements.now _ _ (nil_from_length _ c.in_default.ensures.cases) c.loop-element.invariant in
    subst (AllByRecursion (IsLabelWithin 4294967296)) (sym are) (labels_near c.args.layers.now c.args.elements.now c.requires.writable)
