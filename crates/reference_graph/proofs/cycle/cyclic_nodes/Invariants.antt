use Rattle.std.proofs.Common.{◌+◌, length, reverse}
use Rattle.std.specs.Prelude.{sum_by}
use Rattle.reference_graph.proofs.WaitLaws.{weight}
use Rattle.reference_graph.proofs.EntryLaws.{IsSearch}
use Rattle.reference_graph.proofs.cycle.cyclic_nodes.Given as goal

abbrev pub invariant-steps : goal.invariant-steps
invariant-steps l = IsSearch l.graph l.start (record { standings = l.standings.items; waiting = l.waiting.items; marks = l.marks.items }) l.entry (reverse l.trail.items)

abbrev pub decreases-steps : goal.decreases-steps
decreases-steps l = sum_by weight l.standings.items + length l.trail.items
