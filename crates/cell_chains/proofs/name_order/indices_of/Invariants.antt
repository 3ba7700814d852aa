use Rattle.std.proofs.Common.{◌≡◌, map, take}
use Rattle.cell_chains.specs.Ordered.{element_index}
use Rattle.cell_chains.proofs.name_order.indices_of.Given as goal

abbrev pub invariant-loop-element : goal.invariant-loop-element
invariant-loop-element l = l.indices.items ≡ map element_index (take l.element-index l.named)
