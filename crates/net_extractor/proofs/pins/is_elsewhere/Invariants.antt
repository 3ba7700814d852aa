use Rattle.or_geom.proofs.GatheringLaws.{IsAmongLeft}
use Rattle.net_extractor.specs.declared.label.NetLabel.{NetLabel}
use Rattle.net_extractor.specs.PlainNets.{plain_net}
use Rattle.net_extractor.specs.PinNets.{IsElsewhere}
use Rattle.net_extractor.proofs.pins.is_elsewhere.Given as goal

abbrev pub invariant-loop-label : goal.invariant-loop-label
invariant-loop-label l = IsAmongLeft (λ (e : NetLabel). IsElsewhere l.pin l.net (plain_net e)) l.labels l.label-index
