use Rattle.std.proofs.Common.{Contains}
use Rattle.or_geom.proofs.GatheringLaws.{IsAmongLeft}
use Rattle.tech_rules.specs.declared.tech.Connect.{Connect}
use Rattle.net_extractor.proofs.links.is_conductor.Given as goal

abbrev pub invariant-loop-connect : goal.invariant-loop-connect
invariant-loop-connect l = IsAmongLeft (λ (connect : Connect). Contains connect.to l.layer) l.connections l.connect-index
