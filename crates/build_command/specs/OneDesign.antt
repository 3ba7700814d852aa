-- That files ask for one design, which is made in one way, or are refused in one way.
use Rattle.std.specs.Prelude.{◌≡◌, ℕ, ◌<◌, List, ◌++◌, Some, Result, Ok, Err}
use Rattle.gds_records.specs.Bytes.{AreBytes}
use Rattle.or_host.specs.FileList.{files_of}
use Rattle.or_host.specs.Files.{Files, Told}
use Rattle.or_host.specs.Text.{Grows}
use Rattle.reply_lines.specs.Lines.{lines_text, reply_line}
use Rattle.reply_lines.specs.Refusals.{refusal_words}
use Rattle.reply_lines.specs.declared.refusal.Refusal.{Refusal}
use Rattle.command_steps.specs.Once.{IsDecided, IsOnce}
use Rattle.command_steps.specs.Outside.{IfTold, Outside}
use Rattle.command_steps.specs.Printed.{IsWholeText}
use Rattle.command_steps.specs.Writing.{AreWritten}
use Rattle.build_command.specs.declared.made.Made.{Made}
use Rattle.build_command.specs.Demonstration.{demo_files}
use Rattle.build_command.specs.Design.{IsDesign}
use Rattle.build_command.specs.Made.{IsWork, IsRomWork}
use Rattle.build_command.specs.Held.{first_files}
use Rattle.build_command.specs.Run.{IsMakingRun, IsMakingWork}
use Rattle.build_command.specs.Words.{Making}
use Rattle.build_command.specs.Words.Making.{build, demo, rom}

-- what stands in the files is bytes
abbrev pub HoldBytes : Files → Type 0
HoldBytes files = (name bytes : List ℕ) → files name ≡ Some bytes → AreBytes bytes

-- the files of each demonstration do
abbrev pub DemoFilesHoldBytes : Type 0
DemoFilesHoldBytes = (n : ℕ) → HoldBytes (files_of (demo_files n))

-- so bytes are asked for of the files that are read: those of a build and of a read-only memory
abbrev pub BytesAsked : Making → Files → Type 0
BytesAsked (build config) files = HoldBytes files
BytesAsked (demo n) files = Unit {0}
BytesAsked (rom config content) files = HoldBytes files

-- the file of a name asks for one design, or what it names is refused in one way
abbrev pub DesignsAreOne : Type 0
DesignsAreOne = (files : Files) (name : List ℕ) → HoldBytes files → IsOnce (IsDesign files name)

-- what is asked for is made in one way, or refused in one way
abbrev pub WorksAreOne : Type 0
WorksAreOne = (files : Files) (name : List ℕ) → HoldBytes files → IsOnce (IsWork files name)

-- and so is a read-only memory
abbrev pub RomWorksAreOne : Type 0
RomWorksAreOne = (files : Files) (name content : List ℕ) → HoldBytes files → IsOnce (IsRomWork files name content)

-- status 0, the files with the views put under their names, and the line
pub record EndsMade (m : Making) (made : Made) (status : ℕ) (before now : Outside) : Type 0 where
  pub is : status ≡ 0
  pub files : Told (AreWritten (first_files m ++ made.views)) before.store.files now.store.files
  pub printed : Grows (IsWholeText (lines_text made.reply.lines)) before.sink.text now.sink.text

-- status 3, no view written, and the line of the refusal
pub record EndsRefused (m : Making) (refusal : Refusal) (status : ℕ) (before now : Outside) : Type 0 where
  pub is : status ≡ 3
  pub files : Told (AreWritten (first_files m)) before.store.files now.store.files
  pub printed : Grows (IsWholeText (reply_line (refusal_words refusal))) before.sink.text now.sink.text

abbrev pub EndsWith : Making → ℕ → Outside → Outside → Result Made Refusal → Type 0
EndsWith m status before now (Ok made) = EndsMade m made status before now
EndsWith m status before now (Err refusal) = EndsRefused m refusal status before now

-- Over told files, bytes where they are read: whatever the work on them ends with, failed reads and want of memory aside, a status
-- below 4, the files at the end and the printed line are those of it.
abbrev pub EndsAsWork : Making → ℕ → Outside → Outside → Type 0
EndsAsWork m status before now = (result : Result Made Refusal) → IsDecided result → status < 4
    → IfTold before.store.files (λ files. BytesAsked m files → IsMakingWork m files result → EndsWith m status before now result)

-- each run that builds a memory does so
abbrev pub RunsEndAsWork : Type 0
RunsEndAsWork = (m : Making) (status : ℕ) (before now : Outside) → IsMakingRun m status before now → EndsAsWork m status before now
