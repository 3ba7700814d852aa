use Rattle.wire_drawing.proofs.SpacingLaws.{AreApartBelow}
use Rattle.wire_drawing.proofs.route.first_close.Given as goal

abbrev pub invariant-loop-k : goal.invariant-loop-k
invariant-loop-k l = AreApartBelow l.pitch l.numbers.items l.k
