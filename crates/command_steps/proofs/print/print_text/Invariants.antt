use Rattle.std.proofs.Common.{◌≡◌, drop}
use Rattle.or_host.specs.Fault.{RoseBy}
use Rattle.or_host.specs.Text.{Grows}
use Rattle.reply_lines.specs.Lines.{lines_text}
use Rattle.command_steps.proofs.PrintLaws.{IsBefore}
use Rattle.command_steps.proofs.print.print_text.Given as goal

abbrev pub invariant-loop-place : goal.invariant-loop-place
invariant-loop-place g l = record {
  printed : Grows (IsBefore (lines_text l.lines) (lines_text (drop l.place l.lines))) (g.K.Sink.state l.fn.out).text (g.K.Sink.state l.out).text;
  clean : (g.K.Sink.state l.out).faults ≡ (g.K.Sink.state l.fn.out).faults;
  counted : RoseBy l.place (g.K.Sink.state l.fn.out).puts (g.K.Sink.state l.out).puts;
}
