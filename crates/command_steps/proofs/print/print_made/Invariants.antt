use Rattle.std.proofs.Common.{◌≡◌, drop}
use Rattle.or_host.specs.Fault.{RoseBy}
use Rattle.or_host.specs.Text.{Grows}
use Rattle.reply_lines.specs.Lines.{lines_text}
use Rattle.command_steps.proofs.PrintLaws.{IsBefore}
use Rattle.command_steps.proofs.print.print_made.Given as goal

abbrev pub invariant-loop-line : goal.invariant-loop-line
invariant-loop-line g l = record {
  printed : Grows (IsBefore (lines_text l.lines) (lines_text (drop l.line-index l.lines))) (g.K.Sink.state l.fn.out).text (g.K.Sink.state l.out).text;
  clean : (g.K.Sink.state l.out).faults ≡ (g.K.Sink.state l.fn.out).faults;
  counted : RoseBy l.line-index (g.K.Sink.state l.fn.out).puts (g.K.Sink.state l.out).puts;
}
