use Rattle.std.proofs.Common.{◌≡◌, map, take}
use Rattle.element_drawing.specs.ElementLabels.{pathless}
use Rattle.cell_hierarchy.specs.Plain.{plain_label}
use Rattle.cell_hierarchy.proofs.parts.labels_in.Given as goal

abbrev pub invariant-loop-text : goal.invariant-loop-text
invariant-loop-text l = map plain_label l.labels.items ≡ map pathless (take l.text-index l.texts)
