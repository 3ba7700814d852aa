use Rattle.std.proofs.Common.{◌≡◌, ◌-◌, ◌*◌, ◌/◌, ◌^◌, ◌++◌}
use Rattle.rom_data.specs.Hex.{hex_digits}
use Rattle.rom_data.proofs.line.append_hex.Given as goal

-- the digits of the places from here on
abbrev pub invariant-loop-place : goal.invariant-loop-place
invariant-loop-place l = l.out.items ≡ l.initial.out.items ++ hex_digits (l.count - l.place) (l.number / 2 ^ (4 * l.place))
