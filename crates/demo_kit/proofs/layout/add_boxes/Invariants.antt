use Rattle.std.proofs.Common.{◌≡◌, ◌++◌, length, map}
use Rattle.demo_kit.specs.Layout as spec
use Rattle.demo_kit.proofs.layout.add_boxes.Given as goal

abbrev pub decreases-loop-shape : goal.decreases-loop-shape
decreases-loop-shape l = length l.rest

abbrev pub invariant-loop-shape : goal.invariant-loop-shape
invariant-loop-shape l =
    l.elements.items ++ map (spec.box_boundary l.scale) l.rest
    ≡ l.initial.elements.items ++ map (spec.box_boundary l.scale) l.initial.rest
