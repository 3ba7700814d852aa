use Rattle.std.proofs.Common.{arith}
use Rattle.gds_library.proofs.FaultLaws.{skips_more}
use Rattle.gds_library.proofs.read.after_zeros.Goals as goal

pub loop-first-preserved : goal.loop-first-preserved
loop-first-preserved c =
    skips_more c.args.bytes.now c.loop-first.tail.now c.in-Some.others.now c.in-Some.first.now
    c.in-Some.ensures.cases.0 (let h = c.if-first-ne0.false in omega arith) c.loop-first.invariant
