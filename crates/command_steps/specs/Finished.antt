-- How the printing of a reply ends.
use Rattle.std.specs.Prelude.{◌≡◌, ◌⊎◌, ℕ, List, [], length, true, false, codes}
use Rattle.or_host.specs.Fault.{Rose, RoseBy, IsNameTold}
use Rattle.or_host.specs.Text.{Grows}
use Rattle.or_host.specs.declared.store.WriteFail.{WriteFail}
use Rattle.or_host.specs.declared.store.WriteFail.TheVariants as write
use Rattle.reply_lines.specs.declared.reply.Reply.{Reply}
use Rattle.reply_lines.specs.declared.refusal.Refusal.{Refusal}
use Rattle.reply_lines.specs.declared.refusal.Refusal.TheVariants.{ReadFailed}
use Rattle.reply_lines.specs.Lines.{reply_line, lines_text}
use Rattle.reply_lines.specs.Refusals.{refusal_words, unwritten_words}
use Rattle.reply_lines.specs.Reply.{refusal_reply}
use Rattle.reply_lines.specs.Statuses.{is_memory, is_read_failure}
use Rattle.or_host.specs.State.{SinkState}
use Rattle.command_steps.specs.Outside.{Outside}
use Rattle.command_steps.specs.Printed.{IsWholeText, IsPrefixOf, AreFirstLines, IsFollowedBy}

-- the line that says that memory ran out
abbrev pub memory_line : List ℕ
memory_line = codes "openram: 94 Memory\n"

-- that line, or nothing where memory ran out for it too
abbrev pub IsMemorySaid : List ℕ → Type 0
IsMemorySaid text = (text ≡ memory_line) ⊎ (text ≡ [])

-- whole lines, but not all of them; or none, where they weren't made
abbrev pub AreSomeLines : List (List ℕ) → List ℕ → Type 0
AreSomeLines lines text = (text ≡ []) ⊎ AreFirstLines lines text

-- out of memory: whole lines, and then the line that says so or nothing
abbrev pub IsStopped : List (List ℕ) → List ℕ → Type 0
IsStopped lines = IsFollowedBy (AreSomeLines lines) IsMemorySaid

-- a failed put: a prefix of the lines, cut anywhere; or whole lines, and then, out of memory, a prefix of the line that says so
abbrev pub IsCut : List (List ℕ) → List ℕ → Type 0
IsCut lines text = IsPrefixOf (lines_text lines) text ⊎ IsFollowedBy (AreSomeLines lines) (IsPrefixOf memory_line) text

-- this status, and this whole text more, by so many puts, none of which failed
pub record EndsWhole (status count : ℕ) (whole : List ℕ) (ended : ℕ) (before now : SinkState) : Type 0 where
  pub is : ended ≡ status
  pub text : Grows (IsWholeText whole) before.text now.text
  pub puts : RoseBy count before.puts now.puts
  pub kept : now.faults ≡ before.faults

-- this status, and this text more, with no fault of the sink
pub record EndsClean (status : ℕ) (IsMore : List ℕ → Type 0) (ended : ℕ) (before now : SinkState) : Type 0 where
  pub is : ended ≡ status
  pub text : Grows IsMore before.text now.text
  pub kept : now.faults ≡ before.faults

-- status 4, and this text more, where the sink failed
pub record EndsCut (IsMore : List ℕ → Type 0) (ended : ℕ) (before now : SinkState) : Type 0 where
  pub is : ended ≡ 4
  pub text : Grows IsMore before.text now.text
  pub rose : Rose before.faults now.faults

-- a reply: its status and all its lines, with as many puts as lines; or 4 where the sink failed, or 5 where memory ran out
abbrev pub IsFinished : Reply → ℕ → SinkState → SinkState → Type 0
IsFinished reply ended before now =
    EndsWhole reply.status (length reply.lines) (lines_text reply.lines) ended before now
    ⊎ (EndsCut (IsCut reply.lines) ended before now
    ⊎ EndsClean 5 (IsStopped reply.lines) ended before now)

-- out of memory before there was a reply
abbrev pub IsOutOfMemory : ℕ → SinkState → SinkState → Type 0
IsOutOfMemory ended before now = EndsCut (IsPrefixOf memory_line) ended before now ⊎ EndsClean 5 IsMemorySaid ended before now

-- a failed read: status 4 and its line, by one put, or a prefix of it where the sink failed too; or 5 and nothing, where memory ran out for the line
abbrev pub IsFaultLinePrinted : List ℕ → ℕ → SinkState → SinkState → Type 0
IsFaultLinePrinted line ended before now =
    EndsWhole 4 1 line ended before now
    ⊎ (EndsCut (IsPrefixOf line) ended before now
    ⊎ EndsClean 5 (λ text. text ≡ []) ended before now)

-- a file that wasn't written: its line, where the store failed, or that memory ran out
abbrev pub IsUnwrittenPrinted : List ℕ → WriteFail → ℕ → SinkState → SinkState → Type 0
IsUnwrittenPrinted name write.Failed = IsFaultLinePrinted (reply_line (unwritten_words name))
IsUnwrittenPrinted name write.Memory = IsOutOfMemory

-- a refusal: out of memory, a failed read, or a reply
abbrev pub IsRefusalPrinted : Refusal → ℕ → SinkState → SinkState → Type 0
IsRefusalPrinted refusal ended before now =
    ((is_memory refusal ≡ true) × IsOutOfMemory ended before now)
    ⊎ (((is_read_failure refusal ≡ true) × IsFaultLinePrinted (reply_line (refusal_words refusal)) ended before now)
    ⊎ ((is_memory refusal ≡ false) × (is_read_failure refusal ≡ false) × IsFinished (refusal_reply refusal) ended before now))

-- A call of the store failed, and its line is printed, by one put: it has the name that this call had, where the store tells that.
pub record IsFaultPrinted (line_of : List ℕ → List ℕ) (before now : Outside) : Type 0 where
  pub name : List ℕ
  pub rose : Rose before.store.faults now.store.faults
  pub named : IsNameTold now.store.failed name
  pub printed : Grows (IsWholeText (line_of name)) before.sink.text now.sink.text
  pub put : RoseBy 1 before.sink.puts now.sink.puts

-- the lines of a failed read and of a failed write
abbrev pub unread_line : List ℕ → List ℕ
unread_line name = reply_line (refusal_words (ReadFailed name))

abbrev pub unwritten_line : List ℕ → List ℕ
unwritten_line name = reply_line (unwritten_words name)
