use Rattle.std.proofs.Common.{◌≡◌, ℕ, length, subst, arith}
use Rattle.kit_check.specs.Shares.{FindsFirst}
use Rattle.kit_check.proofs.ShareLaws.{found_none, found_more}
use Rattle.kit_check.proofs.share.first_of_all.Goals as goal

pub loop-worker-init : goal.loop-worker-init
loop-worker-init c = found_none c.args.found.now

pub loop-worker-preserved : goal.loop-worker-preserved
loop-worker-preserved c = found_more c.args.found.now c.loop-worker.worker c.in_ok-found_by.field-0 c.in_ok-found_by.ensures c.loop-worker.first c.earlier-first.result c.earlier-first.ensures c.loop-worker.invariant

pub returns : goal.returns
returns c =
    let all : c.loop-worker.worker ≡ length c.args.found.now = omega arith in
    subst (λ (count : ℕ). FindsFirst c.args.found.now count c.loop-worker.first) all c.loop-worker.invariant
