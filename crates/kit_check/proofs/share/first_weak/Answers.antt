use Rattle.std.proofs.Common.{◌≡◌, Option, length, sym, ap, ◌∙◌}
use Rattle.std.proofs.lemmas.Result.{IfOk-weaker}
use Rattle.kit_check.specs.declared.share.Found.{Found}
use Rattle.kit_check.proofs.ShareLaws.{AreFoundBy, all_found}
use Rattle.kit_check.proofs.share.first_weak.Goals as goal

pub returns : goal.returns
returns g c =
    let answers = g.M.Maker.answers c.args.trial.now.maker.now in
    let kit = c.args.trial.now.kit.now in
    let name = c.args.trial.now.name.now in
    let found = c.in_ok-found.found.items in
    let each : AreFoundBy answers kit name c.args.workers found = λ worker d lt. (c.in_ok-found.ensures.each worker d lt).1.met in
    let sized : length found ≡ c.args.workers = sym (ap length c.deref.ensures.value) ∙ (c.deref.ensures.len ∙ c.in_ok-found.ensures.len) in
    IfOk-weaker _ _ _ (λ (first : Option Found) u. all_found answers kit name c.args.workers found c.requires.some sized each first (rw c.deref.ensures.value at u)) c.first_of_all.ensures
