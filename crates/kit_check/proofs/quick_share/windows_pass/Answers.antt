use Rattle.std.proofs.Common.{◌≡◌, Bool, length, sym, ap, ◌∙◌}
use Rattle.std.specs.Prelude.{IsTrue}
use Rattle.std.proofs.lemmas.Result.{IfOk-weaker}
use Rattle.kit_check.specs.Shares.{IsAny}
use Rattle.kit_check.specs.Quick.{AllFoundTrue, PassAmong}
use Rattle.kit_check.proofs.QuickShareLaws.{AreFoundBy, all_pass}
use Rattle.kit_check.proofs.quick_share.windows_pass.Goals as goal

pub returns : goal.returns
returns g c =
    let answers = g.M.Maker.answers c.args.trial.now.maker.now in
    let kit = c.args.trial.now.kit.now in
    let name = c.args.trial.now.name.now in
    let found = c.in_ok-found.found.items in
    let each : AreFoundBy answers kit name c.args.workers found = λ worker d lt. (c.in_ok-found.ensures.each worker d lt).1.met in
    let sized : length found ≡ c.args.workers = sym (ap length c.deref.ensures.value) ∙ (c.deref.ensures.len ∙ c.in_ok-found.ensures.len) in
    IfOk-weaker c.all_pass.result (λ passes. IsTrue passes → AllFoundTrue c.deref.result.now (length c.deref.result.now))
    (λ passes. IsTrue passes → PassAmong IsAny answers kit name)
    (λ (passes : Bool) u told. all_pass answers kit name c.args.workers found c.requires.some sized each (let true_of = u told in rw c.deref.ensures.value at true_of)) c.all_pass.ensures
