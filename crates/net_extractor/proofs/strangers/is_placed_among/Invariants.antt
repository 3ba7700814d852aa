use Rattle.or_geom.proofs.GatheringLaws.{IsAmongLeft}
use Rattle.net_extractor.specs.Difference.{IsPlacedBy}
use Rattle.net_extractor.proofs.strangers.is_placed_among.Given as goal

abbrev pub invariant-loop-pin : goal.invariant-loop-pin
invariant-loop-pin l = IsAmongLeft (IsPlacedBy l.path) l.pins l.pin-index
