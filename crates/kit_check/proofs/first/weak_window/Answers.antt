use Rattle.std.proofs.Common.{◌≡◌, List, Some, length, ap, subst, ◌∙◌, arith}
use Rattle.std.specs.Prelude.{slice_get}
use Rattle.std.proofs.lemmas.Option.{slice_get_within}
use Rattle.kit_check.specs.declared.window.Window.{Window}
use Rattle.kit_check.specs.Windows.{all_windows}
use Rattle.kit_check.specs.Shares.{FindsAmong, IsAny}
use Rattle.kit_check.proofs.FirstLaws.{windows_good, first_faulty}
use Rattle.kit_check.proofs.ShareLaws.{match_none}
use Rattle.kit_check.proofs.first.weak_window.Goals as goal

pub returns-in_default : goal.returns-in_default
returns-in_default g c =
    windows_good (g.M.Maker.answers c.args.maker.now) c.args.kit.now c.in_ok-name.name c.in_ok-name.ensures
    (match_none _ _ c.in_ok-found.field-0 c.in_ok-found.ensures c.in_default.not-Some)

pub window_at-window-requires : goal.window_at-window-requires
window_at-window-requires g c =
    let p = subst (FindsAmong IsAny (g.M.Maker.answers c.args.maker.now) c.args.kit.now c.in_ok-name.name) c.in-Some.is c.in_ok-found.ensures in
    let within = slice_get_within all_windows c.in-Some.found.index p.faulty.w p.faulty.here in
    let long : length c.deref-2.result.now ≡ length all_windows = ap (λ (l : List Window). length l) (c.deref-2.ensures.value ∙ c.in_ok-windows.ensures.are) in
    omega (arith, within, long)

pub returns : goal.returns
returns g c =
    let p = subst (FindsAmong IsAny (g.M.Maker.answers c.args.maker.now) c.args.kit.now c.in_ok-name.name) c.in-Some.is c.in_ok-found.ensures in
    let here = subst (λ (l : List Window). slice_get l c.in-Some.found.index ≡ Some c.window_at-window.result) (c.deref-2.ensures.value ∙ c.in_ok-windows.ensures.are) c.window_at-window.ensures in
    first_faulty (g.M.Maker.answers c.args.maker.now) c.args.kit.now c.in_ok-name.name c.in-Some.found c.window_at-window.result c.in_ok-name.ensures p here
