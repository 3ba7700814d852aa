use Rattle.std.proofs.Common.{ℕ, List, subst}
use Rattle.kit_check.specs.Digits.{AreDigitsAfter}
use Rattle.kit_check.proofs.DigitLaws.{no_head}
use Rattle.kit_check.proofs.digits.+number_after.Goals as goal

pub returns-in-None-number_with-clause-is : goal.returns-in-None-number_with-clause-is
returns-in-None-number_with-clause-is t c = λ n small w.
    no_head c.args.before c.in-Some.digit.now c.in-Some.others.now n c.in-None-number_with.ensures small (subst (λ (l : List ℕ). AreDigitsAfter c.args.before l n) c.in-Some.ensures.cases.0 w)
