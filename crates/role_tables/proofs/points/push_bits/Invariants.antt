use Rattle.std.proofs.Common.{◌≡◌, ◌++◌, map, take}
use Rattle.role_tables.specs.Point.{bit_char}
use Rattle.role_tables.proofs.points.push_bits.Given as goal

abbrev pub invariant-loop-bit : goal.invariant-loop-bit
invariant-loop-bit l = l.text.items ≡ l.initial.text.items ++ map bit_char (take l.bit-index l.bits)
