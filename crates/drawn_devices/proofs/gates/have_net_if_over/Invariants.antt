use Rattle.drawn_devices.proofs.OverLaws.{AreAllSoFar}
use Rattle.drawn_devices.proofs.gates.have_net_if_over.Given as goal

abbrev pub invariant-loop-index : goal.invariant-loop-index
invariant-loop-index l = AreAllSoFar l.bins l.nets l._layer l.area l.net l.near l.index-index
