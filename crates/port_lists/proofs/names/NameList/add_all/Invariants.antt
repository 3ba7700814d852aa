use Rattle.std.proofs.Common.{◌≡◌, ◌++◌, map, length}
use Rattle.port_lists.specs.Spelled.{spelled}
use Rattle.port_lists.proofs.names.NameList.add_all.Given as goal

abbrev pub invariant-loop-spelling : goal.invariant-loop-spelling
invariant-loop-spelling l = l.self ++ map spelled l.rest ≡ l.fn.self ++ map spelled l.spellings

abbrev pub decreases-loop-spelling : goal.decreases-loop-spelling
decreases-loop-spelling l = length l.rest
