use Rattle.std.proofs.Common.{refl, arith}
use Rattle.kit_check.proofs.DigitLaws.{adds_digit, tenth_is_small}
use Rattle.kit_check.proofs.digits.+add_digits.Goals as goal

pub add_digits-requires : goal.add_digits-requires
add_digits-requires t c = (omega arith, tenth_is_small c.args.count c.args.number (omega arith) c.requires)

pub returns : goal.returns
returns t c = adds_digit c.args.count c.args.number _ c.args.out.now.items c.add_digits.new.out.items c.push.new.self.items (omega arith) refl c.in_ok-push.ensures.items c.in_ok-add_digits.ensures
