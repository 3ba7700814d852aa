use Rattle.std.proofs.Common.{◌≡◌, drop}
use Rattle.or_host.specs.Fault.{RoseBy}
use Rattle.or_host.specs.Text.{Grows}
use Rattle.reply_lines.specs.Lines.{lines_text}
use Rattle.reply_lines.specs.ReportLines.{report_lines}
use Rattle.command_steps.proofs.PrintLaws.{IsBefore}
use Rattle.command_steps.proofs.print.print_report.Given as goal

abbrev pub invariant-loop-violation : goal.invariant-loop-violation
invariant-loop-violation g l = record {
  printed : Grows (IsBefore (lines_text (report_lines l.layers l.violations)) (lines_text (report_lines l.layers (drop l.violation-index l.violations)))) (g.K.Sink.state l.fn.out).text (g.K.Sink.state l.out).text;
  clean : (g.K.Sink.state l.out).faults ≡ (g.K.Sink.state l.fn.out).faults;
  counted : RoseBy l.violation-index (g.K.Sink.state l.fn.out).puts (g.K.Sink.state l.out).puts;
}
