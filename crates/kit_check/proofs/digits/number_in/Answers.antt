use Rattle.std.proofs.Common.{◌≡◌, ◌⊎◌, inl, inr, arith}
use Rattle.kit_check.proofs.DigitLaws.{number_in_text}
use Rattle.kit_check.proofs.digits.number_in.Goals as goal
use Rattle.kit_check.proofs.digits.number_in.Goals.{else-first-ne119-via-then-first-ne119+else-first-ne87, else-first-ne119-via-else-first-ne119}

pub returns-else-others-lt-DIGITS : goal.returns-else-others-lt-DIGITS
returns-else-others-lt-DIGITS c =
    let w : (c.in-Some.first.now ≡ 119) ⊎ (c.in-Some.first.now ≡ 87) =
    elim c.else-first-ne119.branch [
      | else-first-ne119-via-then-first-ne119+else-first-ne87 w ↦ inr (omega arith)
      | else-first-ne119-via-else-first-ne119 w ↦ inl (omega arith)
    ]
    in
    number_in_text c.args.text.now c.in-Some.first.now c.in-Some.others.now c.number_after.result c.in-Some.ensures.cases.0 w (omega arith) c.number_after.ensures.small c.number_after.ensures.is
