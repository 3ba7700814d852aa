use Rattle.std.proofs.Common.{map, take}
use Rattle.cell_hierarchy.specs.Plain.{plain_label}
use Rattle.leaf_nets.specs.Numbers.{IsPinBinding}
use Rattle.leaf_nets.proofs.pin.pin_binding.Given as goal

abbrev pub invariant-loop-index : goal.invariant-loop-index
invariant-loop-index l = IsPinBinding l.bins l.nets (take l.index (map plain_label l.labels)) l.pin l.found
