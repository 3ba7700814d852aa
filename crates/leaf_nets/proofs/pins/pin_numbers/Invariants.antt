use Rattle.std.proofs.Common.{map}
use Rattle.cell_hierarchy.specs.Plain.{plain_label}
use Rattle.leaf_nets.proofs.PinLaws.{PinsSoFar}
use Rattle.leaf_nets.proofs.pins.pin_numbers.Given as goal

abbrev pub invariant-loop-index : goal.invariant-loop-index
invariant-loop-index l = PinsSoFar l._connections (record { shapes = l.bins; labels = map plain_label l.labels }) l.nets (map (λ t. t.now) l.pins) l.index l.numbers.items
