-- That the words and the files have one answer, and that a run ends as it says.
use Rattle.std.specs.Prelude.{◌≡◌, ◌⊎◌, ◌<◌, ℕ, List}
use Rattle.or_host.specs.Fault.{Rose}
use Rattle.or_host.specs.Files.{Files}
use Rattle.or_host.specs.Text.{Grows}
use Rattle.build_command.specs.OneDesign.{HoldBytes, EndsAsWork}
use Rattle.build_command.specs.Words.{AreNoMaking, IsMakingForm, Making}
use Rattle.command_steps.specs.Finished.{IsCut, IsStopped}
use Rattle.command_steps.specs.Outside.{Outside, IfTold}
use Rattle.command_steps.specs.Printed.{IsWholeText}
use Rattle.reply_lines.specs.Lines.{lines_text}
use Rattle.reply_lines.specs.declared.reply.Reply.{Reply}
use Rattle.openram_cli.specs.Answer.{IsAnswer}

-- at most one reply has P
abbrev pub IsOnly : (Reply → Type 0) → Type 0
IsOnly P = (a b : Reply) → P a → P b → a ≡ b

-- words that build no memory have at most one answer, over these files
abbrev pub HaveOneAnswer : List (List ℕ) → Files → Type 0
HaveOneAnswer words files = AreNoMaking words → HoldBytes files → IsOnly (IsAnswer words files)

-- A run ends as a reply says: below 4 with its status and all of its lines. Where no read failed, at 4 a prefix of the lines is printed, cut
-- anywhere, or whole lines and then part of the line that says that memory ran out; and at 5 whole lines, fewer than all, and that line or nothing.
pub record EndsAsReply (reply : Reply) (status : ℕ) (before now : Outside) : Type 0 where
  pub is : status < 4 → status ≡ reply.status
  pub whole : status < 4 → Grows (IsWholeText (lines_text reply.lines)) before.sink.text now.sink.text
  pub cut : status ≡ 4 → ¬ Rose before.store.faults now.store.faults → Grows (IsCut reply.lines) before.sink.text now.sink.text
  pub stopped : status ≡ 5 → ¬ Rose before.store.faults now.store.faults → Grows (IsStopped reply.lines) before.sink.text now.sink.text

-- Words that build no memory, over told files of bytes: whatever reply is their answer, the run ends as it says.
abbrev pub EndsAsAnswer : List (List ℕ) → ℕ → Outside → Outside → Type 0
EndsAsAnswer words status before now = AreNoMaking words
    → IfTold before.store.files (λ files. HoldBytes files → (reply : Reply) → IsAnswer words files reply → EndsAsReply reply status before now)

-- words that build a memory end as the work on the files does
abbrev pub EndAsAsked : List (List ℕ) → ℕ → Outside → Outside → Type 0
EndAsAsked words status before now = AreNoMaking words ⊎ ((m : Making) × IsMakingForm words m × EndsAsWork m status before now)
