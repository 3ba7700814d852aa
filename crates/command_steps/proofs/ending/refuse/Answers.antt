use Rattle.std.proofs.Common.{inr, sym, ◌∙◌}
use Rattle.reply_lines.specs.Reply.{refusal_reply}
use Rattle.command_steps.proofs.EndLaws.{not_made}
use Rattle.command_steps.proofs.ending.refuse.Goals as goal

pub returns-in-Err : goal.returns-in-Err
returns-in-Err g c =
    let before = g.K.Sink.state c.args.out.now in
    let now = g.K.Sink.state c.no_memory-in-Err.new.out in
    let finished = not_made (refusal_reply c.args.refusal.now) c.no_memory-in-Err.result before now c.no_memory-in-Err.ensures in
    inr (inr (sym c.is_memory.ensures ∙ c.if-is_memory.false, sym c.is_read_failure.ensures ∙ c.if-is_read_failure.false, finished))
