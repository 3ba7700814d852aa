use Rattle.std.proofs.Common.{◌≡◌, ◌++◌, length, map}
use Rattle.element_drawing.specs.ElementLabels.{pathless}
use Rattle.element_drawing.specs.OwnLabels.{own_labels}
use Rattle.element_drawing.proofs.labels.own_labels.Given as goal

abbrev pub invariant-loop-element : goal.invariant-loop-element
invariant-loop-element l = map pathless l.labels.items ++ own_labels l.layers l.rest ≡ own_labels l.layers l.elements

abbrev pub decreases-loop-element : goal.decreases-loop-element
decreases-loop-element l = length l.rest
