use Rattle.std.proofs.Common.{refl, inl, inr}
use Rattle.build_command.proofs.run.write_and_build.Goals as goal

pub returns-in-Ok : goal.returns-in-Ok
returns-in-Ok g c =
    inl (record { mid = g.S.Store.state c.write_files.new.store; written = rw c.deref.ensures.value at c.in-Ok.ensures.written; kept = c.in-Ok.ensures.cause.kept refl; unnamed = c.in-Ok.ensures.named; built = c.build_demo.ensures })

pub returns-in-Err : goal.returns-in-Err
returns-in-Err g c = inr (record { file = c.in-Err.unwritten.file.now; fail = c.in-Err.unwritten.fail; files = rw c.deref.ensures.value at c.in-Err.ensures.written; cause = c.in-Err.ensures.cause; named = c.in-Err.ensures.named; printed = c.finish_unwritten.ensures })
