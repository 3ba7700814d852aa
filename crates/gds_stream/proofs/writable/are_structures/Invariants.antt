use Rattle.std.proofs.Common.{length, ◌↔◌}
use Rattle.std.specs.List.{AllByRecursion}
use Rattle.gds_library.specs.Writable.{IsWritableCell}
use Rattle.gds_stream.proofs.writable.are_structures.Given as goal

abbrev pub invariant-loop-structure : goal.invariant-loop-structure
invariant-loop-structure l = AllByRecursion IsWritableCell l.rest ↔ AllByRecursion IsWritableCell l.structs

abbrev pub decreases-loop-structure : goal.decreases-loop-structure
decreases-loop-structure l = length l.rest
