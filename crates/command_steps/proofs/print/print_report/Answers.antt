use Rattle.reply_lines.specs.Lines.{reply_line}
use Rattle.reply_lines.specs.Shapes.{violation_words}
use Rattle.command_steps.proofs.PrintLaws.{each_fails}
use Rattle.command_steps.proofs.print.print_report.Goals as goal

pub returns-in-Err-clause-printed : goal.returns-in-Err-clause-printed
returns-in-Err-clause-printed g c =
    each_fails (λ v. reply_line (violation_words c.args.layers.now v)) c.args.violations.now c.loop-violation.violation-index c.violation-item.result (g.K.Sink.state c.args.out.now).text (g.K.Sink.state c.loop-violation.out).text _ c.in-Err.fail
    c.loop-violation-test.true c.violation-item.is c.loop-violation.invariant.printed c.in-Err.ensures.written
