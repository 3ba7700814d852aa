use Rattle.std.proofs.Common.{◌≡◌, ◌++◌, length, map}
use Rattle.demo_kit.specs.DrawnPins.{drawn}
use Rattle.demo_kit.specs.Layout as spec
use Rattle.demo_kit.proofs.layout.add_pins.Given as goal

abbrev pub decreases-loop-pin : goal.decreases-loop-pin
decreases-loop-pin l = length l.rest

abbrev pub invariant-loop-pin : goal.invariant-loop-pin
invariant-loop-pin l =
    l.elements.items ++ map (spec.box_boundary l.scale) (map (λ pin. pin.shape) (map drawn l.rest))
    ≡ l.initial.elements.items ++ map (spec.box_boundary l.scale) (map (λ pin. pin.shape) (map drawn l.initial.rest))
