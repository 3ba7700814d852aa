use Rattle.std.proofs.Common.{◌≡◌, ℕ, length, subst, arith}
use Rattle.kit_check.specs.Quick.{AllFoundTrue}
use Rattle.kit_check.proofs.QuickShareLaws.{found_true_none, found_true_more}
use Rattle.kit_check.proofs.quick_share.all_pass.Goals as goal

pub loop-worker-init : goal.loop-worker-init
loop-worker-init c = found_true_none c.args.found.now

pub loop-worker-preserved : goal.loop-worker-preserved
loop-worker-preserved c = found_true_more c.args.found.now c.loop-worker.worker c.in_ok-found_by.field-0 c.in_ok-found_by.ensures c.if-not-branch.false c.loop-worker.invariant

pub returns : goal.returns
returns c = λ told.
    let all : c.loop-worker.worker ≡ length c.args.found.now = omega arith in
    subst (λ (count : ℕ). AllFoundTrue c.args.found.now count) all c.loop-worker.invariant
