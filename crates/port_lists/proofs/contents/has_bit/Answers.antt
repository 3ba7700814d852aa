-- A shift finds the bit, and behind 64 bits there is none.
use Rattle.std.proofs.Common.{◌∙◌, arith}
use Rattle.std.proofs.lemmas.Bool.{le-ltb}
use Rattle.port_lists.proofs.BitLaws.{bit_is, none_behind}
use Rattle.port_lists.proofs.contents.has_bit.Goals as goal

pub returns-then-bit-lt64 : goal.returns-then-bit-lt64
returns-then-bit-lt64 c = bit_is c.args.word c.args.bit

pub returns-else-bit-lt64 : goal.returns-else-bit-lt64
returns-else-bit-lt64 c = le-ltb c.args.bit 64 (omega arith) ∙ none_behind c.args.word c.args.bit (omega arith) (omega arith)
