use Rattle.std.proofs.Common.{◌≡◌, ◌≤◌, List, length, ap, arith}
use Rattle.kit_check.specs.declared.window.Window.{Window}
use Rattle.kit_check.specs.Windows.{all_windows}
use Rattle.kit_check.proofs.QuickShareLaws.{pass_before_more, pass_before_all}
use Rattle.kit_check.proofs.quick_share.worker_passes.Goals as goal

pub loop-index-preserved : goal.loop-index-preserved
loop-index-preserved g c =
    pass_before_more c.args.workers c.args.worker (g.M.Maker.answers c.args.trial.now.maker.now) c.args.trial.now.kit.now c.args.trial.now.name.now c.loop-index.index
    (c.in_ok-dealt_passes.ensures c.if-not-branch.false) c.loop-index.invariant

pub returns : goal.returns
returns g c = λ told.
    let long : length c.args.windows.now ≡ length all_windows = ap (λ (l : List Window). length l) c.requires.windows in
    let past = c.loop-index-test.false in
    let over : length all_windows ≤ c.loop-index.index = omega (arith, long, past) in
    pass_before_all c.args.workers c.args.worker (g.M.Maker.answers c.args.trial.now.maker.now) c.args.trial.now.kit.now c.args.trial.now.name.now c.loop-index.index over c.loop-index.invariant
