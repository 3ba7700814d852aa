use Rattle.std.proofs.Common.{◌≡◌, ◌≤◌, List, length, ap, arith}
use Rattle.kit_check.specs.declared.window.Window.{Window}
use Rattle.kit_check.specs.Windows.{all_windows}
use Rattle.kit_check.proofs.ShareLaws.{match_none, good_before_more, good_before_all}
use Rattle.kit_check.proofs.share.first_of_worker.Goals as goal

pub loop-index-preserved : goal.loop-index-preserved
loop-index-preserved g c =
    good_before_more c.args.workers c.args.worker (g.M.Maker.answers c.args.trial.now.maker.now) c.args.trial.now.kit.now c.args.trial.now.name.now c.loop-index.index
    (match_none _ _ c.in_ok-fault.field-0 c.in_ok-fault.ensures c.in_default.not-Some) c.loop-index.invariant

pub returns : goal.returns
returns g c =
    let long : length c.args.windows.now ≡ length all_windows = ap (λ (l : List Window). length l) c.requires.windows in
    let past = c.loop-index-test.false in
    let over : length all_windows ≤ c.loop-index.index = omega (arith, long, past) in
    good_before_all c.args.workers c.args.worker (g.M.Maker.answers c.args.trial.now.maker.now) c.args.trial.now.kit.now c.args.trial.now.name.now c.loop-index.index over c.loop-index.invariant
