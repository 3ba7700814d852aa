use Rattle.std.proofs.Common.{◌-◌, arith}
use Rattle.rom_data.proofs.WordLaws.{seven_bytes}
use Rattle.rom_data.proofs.words.little_endian.Goals as goal

pub overflow_mul-number : goal.overflow_mul-number
overflow_mul-number c = omega (arith, seven_bytes c.args.bytes.now c.loop-index.index c.loop-index.number c.requires c.loop-index-test.true (λ k. omega (arith, c.type_inv.bytes k)) c.loop-index.invariant)

pub overflow_add-number : goal.overflow_add-number
overflow_add-number c = omega (
  arith,
  seven_bytes c.args.bytes.now c.loop-index.index c.loop-index.number c.requires c.loop-index-test.true (λ k. omega (arith, c.type_inv.bytes k)) c.loop-index.invariant,
  c.type_inv.bytes (c.loop-index.index - 1),
  c.from.ensures,
)
