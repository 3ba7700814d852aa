use Rattle.std.proofs.Common.{length, ◌↔◌}
use Rattle.std.specs.List.{AllByRecursion}
use Rattle.gds_library.specs.Writable.{IsWritableProp}
use Rattle.gds_stream.proofs.writable.are_properties.Given as goal

abbrev pub invariant-loop-prop : goal.invariant-loop-prop
invariant-loop-prop l = AllByRecursion IsWritableProp l.rest ↔ AllByRecursion IsWritableProp l.props

abbrev pub decreases-loop-prop : goal.decreases-loop-prop
decreases-loop-prop l = length l.rest
