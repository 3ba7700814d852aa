use Rattle.std.proofs.Common.{ℕ, drop}
use Rattle.or_geom.proofs.GatheringLaws.{IsGathering}
use Rattle.tech_rules.specs.declared.tech.Connect.{Connect}
use Rattle.tech_rules.specs.Touch.{Joins}
use Rattle.net_extractor.proofs.links.add_cut_to.Given as goal

abbrev pub invariant-loop-connect : goal.invariant-loop-connect
invariant-loop-connect l = IsGathering (λ (connect : Connect) (other : ℕ). Joins l.layer other connect) l.connections (drop l.connect-index l.connections) l.fn.out.items l.out.items
