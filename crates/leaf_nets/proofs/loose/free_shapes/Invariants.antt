use Rattle.leaf_nets.proofs.FreeLaws.{FreeSoFar}
use Rattle.leaf_nets.proofs.loose.free_shapes.Given as goal

abbrev pub invariant-loop-index : goal.invariant-loop-index
invariant-loop-index l = FreeSoFar l.connects l.shapes l.nets l.numbers l.index l.free
