use Rattle.std.proofs.Common.{arith}
use Rattle.rom_data.proofs.HexLaws.{digit_below}
use Rattle.rom_data.proofs.line.append_hex.Goals as goal

pub loop-place-preserved : goal.loop-place-preserved
loop-place-preserved c = digit_below c.args.count c.loop-place.place c.args.number c.hex_digit.result c.args.out.now.items c.loop-place.out.items c.push.new.self.items (omega arith) (omega arith) c.loop-place.invariant c.hex_digit.ensures c.in_ok-push.ensures.items
