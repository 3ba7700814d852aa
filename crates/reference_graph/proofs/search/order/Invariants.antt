use Rattle.std.proofs.Common.{reverse}
use Rattle.std.specs.Prelude.{sum_by}
use Rattle.reference_graph.proofs.StageLaws.{weight}
use Rattle.reference_graph.proofs.SearchLaws.{IsSearch}
use Rattle.reference_graph.proofs.search.order.Given as goal

abbrev pub invariant-steps : goal.invariant-steps
invariant-steps l = IsSearch l.graph l.start l.stages.items l.visit (reverse l.trail.items) l.order.items

abbrev pub decreases-steps : goal.decreases-steps
decreases-steps l = sum_by weight l.stages.items
