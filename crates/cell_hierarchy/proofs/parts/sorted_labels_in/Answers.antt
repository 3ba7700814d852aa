use Rattle.std.proofs.Common.{List, map, subst}
use Rattle.std.specs.List.Sorted.{IsPermutation}
use Rattle.std.proofs.lemmas.List.Sorted.{IsPermutation-map}
use Rattle.element_drawing.specs.PlainLabel.{PlainLabel}
use Rattle.cell_hierarchy.specs.Plain.{plain_label}
use Rattle.cell_hierarchy.proofs.parts.sorted_labels_in.Goals as goal

pub returns : goal.returns
returns c = subst (λ (ls : List PlainLabel). IsPermutation ls (map plain_label c.sort_unstable.new.self.items)) c.in_ok-labels.ensures (IsPermutation-map plain_label _ _ c.sort_unstable.ensures.permutation)
