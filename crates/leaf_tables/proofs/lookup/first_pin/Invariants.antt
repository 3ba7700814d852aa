use Rattle.std.specs.Str.{bytes_eq}
use Rattle.leaf_shapes.specs.declared.pins.LeafPin.{LeafPin}
use Rattle.leaf_tables.proofs.FindLaws.{IsLeft}
use Rattle.leaf_tables.proofs.lookup.first_pin.Given as goal

abbrev pub invariant-loop-pin : goal.invariant-loop-pin
invariant-loop-pin l = IsLeft (λ (pin : LeafPin). bytes_eq pin.pin l.name) l.pins l.pin-index
