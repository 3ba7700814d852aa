use Rattle.net_extractor.proofs.ShapeNetLaws.{AreFirstNets}
use Rattle.net_extractor.proofs.net_numbers.shape_nets.Given as goal

abbrev pub invariant-loop-index : goal.invariant-loop-index
invariant-loop-index l = AreFirstNets l.connections l.bins l.index l.numbering l.nets
