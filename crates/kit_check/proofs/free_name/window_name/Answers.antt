use Rattle.std.proofs.Common.{ℕ, List, sym, subst}
use Rattle.std.proofs.lemmas.Result.{IfOk-weaker}
use Rattle.kit_check.specs.FreeName.{AreNumbersOf}
use Rattle.kit_check.proofs.FreeLaws.{window_named}
use Rattle.kit_check.proofs.free_name.window_name.Goals as goal

pub returns : goal.returns
returns c =
    let are = subst (AreNumbersOf c.args.kit.now) (sym c.deref.ensures.value) c.in_ok-numbers.ensures.are in
    IfOk-weaker _ _ _ (λ (name : List ℕ) u. window_named c.args.kit.now c.deref.result.now c.least_free.result name c.least_free.ensures.small are c.least_free.ensures.free c.least_free.ensures.least u) c.numbered_name.ensures
