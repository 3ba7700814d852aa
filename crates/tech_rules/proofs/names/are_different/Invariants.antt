use Rattle.std.proofs.Common.{◌≡◌, drop}
use Rattle.tech_rules.specs.Names.{are_different}
use Rattle.tech_rules.proofs.names.are_different.Given as goal

abbrev pub invariant-loop-i : goal.invariant-loop-i
invariant-loop-i l = are_different (drop l.i l.names) ≡ are_different l.names
