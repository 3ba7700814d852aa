use Rattle.std.proofs.Common.{◌≡◌, ◌∷◌, take}
use Rattle.role_tables.proofs.points.longer.Given as goal

abbrev pub invariant-loop-b : goal.invariant-loop-b
invariant-loop-b l = l.list ≡ l.bit ∷ take l.b-index l.bits
