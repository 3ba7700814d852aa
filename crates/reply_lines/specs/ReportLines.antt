-- The lines of an answer, where they are made and where they aren't yet.
use Rattle.std.specs.Prelude.{ℕ, List, map}
use Rattle.tech_rules.specs.declared.tech.Layer.{Layer}
use Rattle.tile_checker.specs.declared.violation.Violation.{Violation}
use Rattle.reply_lines.specs.declared.lines.LineSource.{LineSource}
use Rattle.reply_lines.specs.declared.lines.LineSource.TheVariants as from
use Rattle.reply_lines.specs.Lines.{reply_line}
use Rattle.reply_lines.specs.Shapes.{violation_words}

abbrev pub report_lines : List Layer → List Violation → List (List ℕ)
report_lines layers violations = map (λ v. reply_line (violation_words layers v)) violations

abbrev pub lines_from : LineSource → List (List ℕ)
lines_from (from.Made lines) = lines
lines_from (from.Text lines) = lines
lines_from (from.Report layers violations) = report_lines layers violations
