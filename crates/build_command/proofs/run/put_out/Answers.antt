use Rattle.std.proofs.Common.{refl, inl, inr}
use Rattle.build_command.proofs.run.put_out.Goals as goal

pub returns-in-Ok : goal.returns-in-Ok
returns-in-Ok g c = inr (record { files = rw c.as_slice.ensures at c.in-Ok.ensures.written; kept = c.in-Ok.ensures.cause.kept refl; unnamed = c.in-Ok.ensures.named; printed = c.finish.ensures })

pub returns-in-Err : goal.returns-in-Err
returns-in-Err g c = inl (record { file = c.in-Err.unwritten.file.now; fail = c.in-Err.unwritten.fail; files = rw c.as_slice.ensures at c.in-Err.ensures.written; cause = c.in-Err.ensures.cause; named = c.in-Err.ensures.named; printed = c.finish_unwritten.ensures })
