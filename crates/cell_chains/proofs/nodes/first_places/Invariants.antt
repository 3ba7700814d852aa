use Rattle.std.proofs.Common.{take}
use Rattle.cell_chains.specs.Numbering.{texts, AreFirsts}
use Rattle.cell_chains.proofs.nodes.first_places.Given as goal

abbrev pub invariant-loop-place : goal.invariant-loop-place
invariant-loop-place l = AreFirsts (take l.place l.structs) (texts l.names) l.firsts.items
