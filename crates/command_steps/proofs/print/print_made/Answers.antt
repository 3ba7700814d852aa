use Rattle.command_steps.proofs.PrintLaws.{put_fails}
use Rattle.command_steps.proofs.print.print_made.Goals as goal

pub returns-in-Err-clause-printed : goal.returns-in-Err-clause-printed
returns-in-Err-clause-printed g c =
    put_fails c.args.lines.now c.loop-line.line-index c.line-item.result c.as_bytes.result.now _ (g.K.Sink.state c.loop-line.out).text _ c.in-Err.fail c.loop-line-test.true c.line-item.is c.as_bytes.ensures c.loop-line.invariant.printed c.in-Err.ensures.written
