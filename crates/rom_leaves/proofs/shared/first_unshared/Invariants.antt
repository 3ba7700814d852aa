use Rattle.leaf_shapes.proofs.PlaceLaws.{EachBefore}
use Rattle.rom_leaves.specs.Shared.{IsShared, cell_with}
use Rattle.rom_leaves.proofs.shared.first_unshared.Given as goal

abbrev pub invariant-loop-index : goal.invariant-loop-index
invariant-loop-index l = EachBefore (IsShared l.bitcell (cell_with l.zero l.one)) l.all l.index
