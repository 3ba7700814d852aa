use Rattle.std.proofs.Common.{map}
use Rattle.net_extractor.specs.PlainNets.{plain_net}
use Rattle.net_extractor.proofs.PinLaws.{ArePinNetsBefore}
use Rattle.net_extractor.proofs.pins.nets_of_pins.Given as goal

abbrev pub invariant-loop-place : goal.invariant-loop-place
invariant-loop-place l = ArePinNetsBefore (map plain_net l.labels) l.pins l.nets.items l.place
