-- An odd number has the lowest bit.
use Rattle.std.proofs.Common.{ap, sym}
use Rattle.row_decoder.specs.Lines.{pick_letter}
use Rattle.row_decoder.proofs.LineLaws.{odd_lowest, even_lowest}
use Rattle.row_decoder.proofs.lines.picked.Goals as goal

pub returns-then-number-eq1 : goal.returns-then-number-eq1
returns-then-number-eq1 c = ap pick_letter (sym (odd_lowest c.args.number c.if-number-eq1.true))

pub returns-else-number-eq1 : goal.returns-else-number-eq1
returns-else-number-eq1 c = ap pick_letter (sym (even_lowest c.args.number c.if-number-eq1.false))
