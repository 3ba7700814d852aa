-- How a run of the program ends: its status, and the outside before and after it.
use Rattle.std.specs.Prelude.{◌≡◌, ◌⊎◌, ◌↔◌, ◌<◌, ℕ, List, [], length, Option, None, codes}
use Rattle.or_host.specs.Fault.{Rose, RoseBy, IsNameTold}
use Rattle.or_host.specs.Files.{Files}
use Rattle.or_host.specs.Text.{Grows}
use Rattle.reply_lines.specs.declared.reply.Reply.{Reply}
use Rattle.reply_lines.specs.Lines.{reply_line, lines_text}
use Rattle.reply_lines.specs.Refusals.{headed}
use Rattle.build_command.specs.Run.{IsMakingRun}
use Rattle.build_command.specs.Words.{Making, IsMakingForm, AreNoMaking}
use Rattle.openram_cli.specs.Answer.{IsAnswer, IsRead}
use Rattle.openram_cli.specs.Inspection.{inspection_of}
use Rattle.command_steps.specs.Finished.{memory_line, IsMemorySaid, IsFaultPrinted, unread_line}
use Rattle.command_steps.specs.Outside.{Outside, IfTold}
use Rattle.command_steps.specs.Printed.{IsWholeText, IsPrefixOf, AreFirstLines, IsFollowedBy}

-- the line of words that are no form
abbrev pub usage_line : List ℕ
usage_line = reply_line (headed 90 (codes "Usage") [])

-- status 0 to 3: the answer's status, and all of its lines, with as many puts as lines
pub record IsAnswered (words : List (List ℕ)) (files : Files) (status : ℕ) (before now : Outside) : Type 0 where
  pub reply : Reply
  pub is : IsAnswer words files reply
  pub status_is : status ≡ reply.status
  pub printed : Grows (IsWholeText (lines_text reply.lines)) before.sink.text now.sink.text
  pub puts : RoseBy (length reply.lines) before.sink.puts now.sink.puts

-- a prefix of the answer's lines, cut anywhere
abbrev pub IsAnswerPrefix : List (List ℕ) → Files → List ℕ → Type 0
IsAnswerPrefix words files text = (reply : Reply) × IsAnswer words files reply × IsPrefixOf (lines_text reply.lines) text

-- whole lines of the answer, but not all of them; or none, where the answer wasn't made
abbrev pub AreAnswerLines : List (List ℕ) → Files → List ℕ → Type 0
AreAnswerLines words files text = (text ≡ []) ⊎ ((reply : Reply) × IsAnswer words files reply × AreFirstLines reply.lines text)

-- Out of memory: whole lines of the answer, and then the line that says so or nothing.
abbrev pub IsMemoryText : List (List ℕ) → Files → List ℕ → Type 0
IsMemoryText words files = IsFollowedBy (AreAnswerLines words files) IsMemorySaid

-- The sink failed: at the answer, of which a prefix stands there and nothing after it; or at the line that says that memory ran out, after whole lines of the answer.
abbrev pub IsCutText : List (List ℕ) → Files → List ℕ → Type 0
IsCutText words files text = IsAnswerPrefix words files text ⊎ IsFollowedBy (AreAnswerLines words files) (IsPrefixOf memory_line) text

-- a read failed: of the line that says so, of a file that the program reads and whose read it was that failed, this much is printed
pub record IsReadText (words : List (List ℕ)) (files : Files) (failed : Option (List ℕ)) (IsPart : List ℕ → List ℕ → Type 0) (text : List ℕ) : Type 0 where
  pub name : List ℕ
  pub read : IsRead words files name
  pub named : IsNameTold failed name
  pub line : IsPart (unread_line name) text

-- nothing of it
abbrev pub IsNothingOf : List ℕ → List ℕ → Type 0
IsNothingOf whole text = text ≡ []

-- Status 4: the store failed, or it and then the sink, or the sink alone.
abbrev pub IsFaultEnd : List (List ℕ) → Files → Outside → Outside → Type 0
IsFaultEnd words files before now =
    (Rose before.store.faults now.store.faults × (now.sink.faults ≡ before.sink.faults) × Grows (IsReadText words files now.store.failed IsWholeText) before.sink.text now.sink.text)
    ⊎ ((Rose before.store.faults now.store.faults × Rose before.sink.faults now.sink.faults × Grows (IsReadText words files now.store.failed IsPrefixOf) before.sink.text now.sink.text)
    ⊎ ((now.store.faults ≡ before.store.faults) × Rose before.sink.faults now.sink.faults × Grows (IsCutText words files) before.sink.text now.sink.text))

-- Status 5: no read failed, and memory ran out; or a read failed, and memory ran out for the line that says so.
abbrev pub IsMemoryEnd : List (List ℕ) → Files → Outside → Outside → Type 0
IsMemoryEnd words files before now =
    ((now.store.faults ≡ before.store.faults) × Grows (IsMemoryText words files) before.sink.text now.sink.text)
    ⊎ (Rose before.store.faults now.store.faults × Grows (IsReadText words files now.store.failed IsNothingOf) before.sink.text now.sink.text)

-- how a run ends over these files
pub record IsRunEnd (words : List (List ℕ)) (files : Files) (status : ℕ) (before now : Outside) : Type 0 where
  pub answered : status < 4 → IsAnswered words files status before now
  pub cut : status ≡ 4 → IsFaultEnd words files before now
  pub memory : status ≡ 5 → IsMemoryEnd words files before now

-- What a run on words that build no memory does.
pub record IsAnswerRun (words : List (List ℕ)) (status : ℕ) (before now : Outside) : Type 0 where
  pub range : status < 6
  -- where the store tells its files, status and text are those of the answer over them
  pub told : IfTold before.store.files (λ files. IsRunEnd words files status before now)
  -- words that are no form need no files for it
  pub no_form : inspection_of words ≡ None → (files : Files) → IsRunEnd words files status before now
  -- below 4 no fault rose
  pub clean : status < 4 → (now.store.faults ≡ before.store.faults) × (now.sink.faults ≡ before.sink.faults)
  -- 2 comes exactly of words that are no form, and says so
  pub usage : status < 4 → ((status ≡ 2) ↔ (inspection_of words ≡ None))
  pub usage_text : status ≡ 2 → Grows (IsWholeText usage_line) before.sink.text now.sink.text
  -- 4 comes only where a fault rose
  pub fault : status ≡ 4 → Rose before.store.faults now.store.faults ⊎ Rose before.sink.faults now.sink.faults
  -- and unless the sink failed, the line of the failed read is printed
  pub named : status ≡ 4 → Rose before.sink.faults now.sink.faults ⊎ IsFaultPrinted unread_line before now
  -- at 5 the sink didn't fail, and where a read failed nothing is printed
  pub memory_clean : status ≡ 5 → now.sink.faults ≡ before.sink.faults
  pub silent : status ≡ 5 → (now.store.faults ≡ before.store.faults) ⊎ (Rose before.store.faults now.store.faults × Grows (λ text. text ≡ []) before.sink.text now.sink.text)
  -- the files stay as they were
  pub files : now.store.files ≡ before.store.files

-- What a run does: the words build a memory, a read-only one or one of a demonstration too, or they build none.
abbrev pub IsProgramRun : List (List ℕ) → ℕ → Outside → Outside → Type 0
IsProgramRun words status before now =
    ((m : Making) × IsMakingForm words m × IsMakingRun m status before now) ⊎ (AreNoMaking words × IsAnswerRun words status before now)
