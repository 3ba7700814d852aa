-- What the program answers.
use Rattle.std.specs.Prelude.{ℕ, List, [], ◌∷◌}
use Rattle.tech_rules.specs.declared.tech.Layer.{Layer}
use Rattle.tile_checker.specs.declared.violation.Violation.{Violation}
use Rattle.reply_lines.specs.declared.refusal.Refusal.{Refusal}
use Rattle.reply_lines.specs.declared.reply.Reply.{Reply}
use Rattle.reply_lines.specs.Lines.{reply_line}
use Rattle.reply_lines.specs.Refusals.{refusal_words}
use Rattle.reply_lines.specs.ReportLines.{report_lines}
use Rattle.reply_lines.specs.Statuses.{refusal_status}

-- the status and the line of a refusal
abbrev pub refusal_reply : Refusal → Reply
refusal_reply r = record { status = refusal_status r; lines = reply_line (refusal_words r) ∷ [] }

-- status 0 where nothing is found, else 1
abbrev pub report_status : List Violation → ℕ
report_status [] = 0
report_status (v ∷ vs) = 1

abbrev pub report_reply : List Layer → List Violation → Reply
report_reply layers violations = record { status = report_status violations; lines = report_lines layers violations }
