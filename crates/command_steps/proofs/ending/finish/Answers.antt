use Rattle.std.proofs.Common.{refl}
use Rattle.command_steps.proofs.EndLaws.{not_all}
use Rattle.command_steps.proofs.ending.finish.Goals as goal

pub returns-in-Err-Memory : goal.returns-in-Err-Memory
returns-in-Err-Memory g c =
    let printed = rw c.in-Err-Memory.field-0-is at c.in-Err-Memory.ensures.printed in
    let cause = rw c.in-Err-Memory.field-0-is at c.in-Err-Memory.ensures.cause in
    let mid = g.K.Sink.state c.print.new.out in
    let before = g.K.Sink.state c.args.out.now in
    let now = g.K.Sink.state c.no_memory.new.out in
    not_all c.args.reply.now c.no_memory.result before mid now printed (cause.kept refl) c.no_memory.ensures
