use Rattle.std.proofs.Common.{◌≡◌, map, take}
use Rattle.cell_chains.specs.Ordered.{element_index}
use Rattle.cell_chains.proofs.name_order.named_elements.Given as goal

abbrev pub invariant-loop-index : goal.invariant-loop-index
invariant-loop-index l = map element_index l.named.items ≡ take l.index-index l.indices
