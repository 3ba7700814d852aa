use Rattle.std.proofs.Common.{◌≡◌, Bool, List, Some, subst}
use Rattle.std.specs.Prelude.{slice_get, IsTrue}
use Rattle.std.proofs.lemmas.Result.{IfOk-weaker}
use Rattle.or_geom.proofs.ListLaws.{contained_at}
use Rattle.kit_check.specs.declared.window.Window.{Window}
use Rattle.kit_check.specs.Shares.{IsDealtTo}
use Rattle.kit_check.specs.Quick.{IsPassingWindow, PassesAt}
use Rattle.kit_check.specs.Windows.{all_windows}
use Rattle.kit_check.proofs.QuickShareLaws.{passes_at}
use Rattle.kit_check.proofs.quick_share.dealt_passes.Goals as goal

pub window_passes-requires-clause-window : goal.window_passes-requires-clause-window
window_passes-requires-clause-window g c κs within =
    contained_at all_windows c.args.index c.window_at.result (subst (λ (l : List Window). slice_get l c.args.index ≡ Some c.window_at.result) c.requires.windows c.window_at.ensures)

pub returns : goal.returns
returns g c =
    let answers = g.M.Maker.answers c.args.trial.now.maker.now in
    let kit = c.args.trial.now.kit.now in
    let name = c.args.trial.now.name.now in
    let here = subst (λ (l : List Window). slice_get l c.args.index ≡ Some c.window_at.result) c.requires.windows c.window_at.ensures in
    IfOk-weaker c.window_passes.result (λ passes. IsTrue passes → IsPassingWindow answers kit name c.window_at.result)
    (λ passes. IsTrue passes → IsDealtTo c.args.workers c.args.worker c.args.index → PassesAt answers kit name c.args.index)
    (λ (passes : Bool) u told mine. passes_at answers kit name c.args.index c.window_at.result here (u told)) c.window_passes.ensures
