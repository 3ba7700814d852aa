use Rattle.std.proofs.Common.{◌≡◌, drop}
use Rattle.kit_check.proofs.LeastLaws.{IsSearched}
use Rattle.kit_check.proofs.free_name.least_free.Given as goal

abbrev pub invariant-loop-number : goal.invariant-loop-number
invariant-loop-number l = (l.least ≡ l.number-index) × IsSearched l.numbers (drop l.number-index l.numbers) l.least
