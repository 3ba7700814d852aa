use Rattle.cell_hierarchy.proofs.PartLaws.{IsLiveTo}
use Rattle.cell_hierarchy.proofs.parts.live_references.Given as goal

abbrev pub invariant-loop-n : goal.invariant-loop-n
invariant-loop-n l = IsLiveTo l.elements l.targets l.parts l.n l.live.items
