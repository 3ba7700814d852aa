use Rattle.std.proofs.Common.{arith}
use Rattle.std.proofs.lemmas.Int.{ints}
use Rattle.rectilinear.proofs.ChangeLaws.{pass_more}
use Rattle.rectilinear.proofs.changes.pass.Goals as goal

pub loop-change-preserved : goal.loop-change-preserved
loop-change-preserved c =
    pass_more c.args.changes.now c.loop-change.rest.now c.in-Some.others.now c.in-Some.change.now _ c.args.height.y c.args.ends.now.items c.loop-change.ends.items _
    c.in-Some.ensures.cases.0 (omega (arith, ints)) c.end_at.ensures c.in_ok-toggle.ensures c.loop-change.invariant
