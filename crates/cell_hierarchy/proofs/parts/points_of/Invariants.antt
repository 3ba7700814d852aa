use Rattle.std.proofs.Common.{◌≡◌, map, take}
use Rattle.element_drawing.specs.declared.label.ElementLabel.{ElementLabel}
use Rattle.cell_hierarchy.proofs.parts.points_of.Given as goal

abbrev pub invariant-loop-text : goal.invariant-loop-text
invariant-loop-text l = l.points.items ≡ map (λ (text : ElementLabel). text.at) (take l.text-index l.texts)
