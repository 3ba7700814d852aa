use Rattle.std.proofs.Common.{map}
use Rattle.net_extractor.specs.PlainNets.{plain_net}
use Rattle.net_extractor.proofs.EntryLaws.{AreEntries}
use Rattle.net_extractor.proofs.nets.numbered_nets.Given as goal

abbrev pub invariant-loop-index : goal.invariant-loop-index
invariant-loop-index l = AreEntries l._connections l.bins l.labels l.index l.numbering (map plain_net l.entries)
