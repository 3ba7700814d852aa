use Rattle.std.proofs.Common.{◌≡◌, drop}
use Rattle.rom_data.specs.Words.{little_endian}
use Rattle.rom_data.proofs.words.little_endian.Given as goal

-- the number of the bytes from here on
abbrev pub invariant-loop-index : goal.invariant-loop-index
invariant-loop-index l = l.number ≡ little_endian (drop l.index l.bytes)
