use Rattle.std.proofs.Common.{length, ◌↔◌}
use Rattle.gds_stream.specs.NewName.{IsNewName}
use Rattle.gds_stream.proofs.writable.is_new.Given as goal

abbrev pub invariant-loop-structure : goal.invariant-loop-structure
invariant-loop-structure l = IsNewName l.name l.rest ↔ IsNewName l.name l.structs

abbrev pub decreases-loop-structure : goal.decreases-loop-structure
decreases-loop-structure l = length l.rest
