use Rattle.std.proofs.Common.{length, ◌↔◌}
use Rattle.gds_stream.proofs.NamesLaws.{NamesDiffer}
use Rattle.gds_stream.proofs.writable.names_differ.Given as goal

abbrev pub invariant-loop-structure : goal.invariant-loop-structure
invariant-loop-structure l = NamesDiffer l.rest ↔ NamesDiffer l.structs

abbrev pub decreases-loop-structure : goal.decreases-loop-structure
decreases-loop-structure l = length l.rest
