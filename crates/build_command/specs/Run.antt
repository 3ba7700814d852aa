-- How a build, a read-only memory's and a demonstration's end: the status, and the outside before and after.
use Rattle.std.specs.Prelude.{◌≡◌, ◌⊎◌, ℕ, ◌<◌, List, ◌++◌, length, false, Result, Ok, Err, codes}
use Rattle.or_host.specs.Fault.{Rose, RoseBy, HasCause, NamesLast, name_if}
use Rattle.or_host.specs.FileList.{files_of}
use Rattle.or_host.specs.Files.{Files, Told}
use Rattle.or_host.specs.Text.{Grows}
use Rattle.or_host.specs.declared.file.MemFile.{MemFile}
use Rattle.or_host.specs.declared.store.WriteFail.{WriteFail}
use Rattle.reply_lines.specs.Lines.{reply_line, lines_text}
use Rattle.reply_lines.specs.Refusals.{refusal_words}
use Rattle.reply_lines.specs.Statuses.{is_read_failure, is_usage, refusal_status}
use Rattle.reply_lines.specs.declared.refusal.Refusal.{Refusal}
use Rattle.command_steps.specs.Finished.{IsFinished, IsOutOfMemory, IsUnwrittenPrinted, IsRefusalPrinted, IsFaultPrinted, unread_line, unwritten_line}
use Rattle.command_steps.specs.Outcome.{UnlessMemory, unread_name}
use Rattle.or_host.specs.State.{StoreState}
use Rattle.command_steps.specs.Outside.{Outside, IfTold, outside_at}
use Rattle.command_steps.specs.Printed.{IsWholeText}
use Rattle.command_steps.specs.Writing.{AreWritten, EndsAt, is_write_failure}
use Rattle.build_command.specs.declared.made.Made.{Made}
use Rattle.build_command.specs.Held.{files_seen, config_name, first_files, IsMemoryHeld}
use Rattle.build_command.specs.Made.{IsWork, IsRomWork}
use Rattle.build_command.specs.Words.{Making}
use Rattle.build_command.specs.Words.Making.{build, demo, rom}

-- what the work ends with, over the store's files
abbrev pub IsMakingWork : Making → Files → Result Made Refusal → Type 0
IsMakingWork (rom config content) files = IsRomWork files config content
IsMakingWork m files = IsWork (files_seen m files) (config_name m)

-- Writing these files ended at one of them: those before it are whole, and it holds what it held or a prefix of its bytes. The
-- line that is printed names it, or says that memory ran out.
pub record IsWriteCut (list : List MemFile) (status : ℕ) (before now : Outside) : Type 0 where
  pub file : MemFile
  pub fail : WriteFail
  pub files : Told (EndsAt list file fail) before.store.files now.store.files
  pub cause : HasCause before.store.faults now.store.faults (is_write_failure fail)
  pub named : NamesLast (name_if (is_write_failure fail) file.name) before.store.failed now.store.failed
  pub printed : IsUnwrittenPrinted file.name fail status before.sink now.sink

-- all views are written, and the line is printed, or part of it
pub record IsAllWritten (made : Made) (status : ℕ) (before now : Outside) : Type 0 where
  pub files : Told (AreWritten made.views) before.store.files now.store.files
  pub kept : now.store.faults ≡ before.store.faults
  pub unnamed : now.store.failed ≡ before.store.failed
  pub printed : IsFinished made.reply status before.sink now.sink

-- the views are written one after another, and then the line is printed
abbrev pub IsPutOut : Made → ℕ → Outside → Outside → Type 0
IsPutOut made status before now = IsWriteCut made.views status before now ⊎ IsAllWritten made status before now

-- the memory that these files ask for is made, and put out
pub record IsMadeOut (files : List MemFile) (status : ℕ) (before now : Outside) : Type 0 where
  pub made : Made
  pub success : made.reply.status ≡ 0
  pub work : IsWork (files_of files) (codes "demo.toml") (Ok made)
  pub out : IsPutOut made status before now

-- or it is refused, and nothing more is written
pub record IsDemoRefused (files : List MemFile) (status : ℕ) (before now : Outside) : Type 0 where
  pub refusal : Refusal
  pub no_usage : is_usage refusal ≡ false
  pub no_read : is_read_failure refusal ≡ false
  pub work : UnlessMemory (IsWork (files_of files) (codes "demo.toml")) (Err refusal)
  pub same : now.store ≡ before.store
  pub printed : IsRefusalPrinted refusal status before.sink now.sink

abbrev pub IsDemoBuilt : List MemFile → ℕ → Outside → Outside → Type 0
IsDemoBuilt files status before now = IsMadeOut files status before now ⊎ IsDemoRefused files status before now

-- these files are written first, or one of them couldn't be
pub record IsDemoAfter (list : List MemFile) (status : ℕ) (before now : Outside) : Type 0 where
  pub mid : StoreState
  pub written : Told (AreWritten list) before.store.files mid.files
  pub kept : mid.faults ≡ before.store.faults
  pub unnamed : mid.failed ≡ before.store.failed
  pub built : IsDemoBuilt list status (outside_at mid before.sink) now

abbrev pub IsDemoWritten : List MemFile → ℕ → Outside → Outside → Type 0
IsDemoWritten list status before now = IsDemoAfter list status before now ⊎ IsWriteCut list status before now

-- memory ran out before anything was written
pub record IsUnstarted (status : ℕ) (before now : Outside) : Type 0 where
  pub same : now.store ≡ before.store
  pub printed : IsOutOfMemory status before.sink now.sink

-- a demonstration reads no file: what it looks at are its own bytes
abbrev pub ReadsFilesOnly : Making → Refusal → Type 0
ReadsFilesOnly (build config) refusal = Unit {0}
ReadsFilesOnly (demo n) refusal = is_read_failure refusal ≡ false
ReadsFilesOnly (rom config content) refusal = Unit {0}

-- An input is refused, a read failed, or memory ran out on the way: no view is written.
pub record IsWorkRefused (m : Making) (status : ℕ) (before now : Outside) : Type 0 where
  pub refusal : Refusal
  pub no_usage : is_usage refusal ≡ false
  pub reads : ReadsFilesOnly m refusal
  pub work : IfTold before.store.files (λ files. UnlessMemory (IsMakingWork m files) (Err refusal))
  pub files : Told (AreWritten (first_files m)) before.store.files now.store.files
  pub cause : HasCause before.store.faults now.store.faults (is_read_failure refusal)
  pub named : NamesLast (unread_name refusal) before.store.failed now.store.failed
  pub printed : IsRefusalPrinted refusal status before.sink now.sink

-- A view couldn't be written.
pub record IsViewCut (m : Making) (status : ℕ) (before now : Outside) : Type 0 where
  pub made : Made
  pub work : IfTold before.store.files (λ files. IsMakingWork m files (Ok made))
  pub cut : IsWriteCut (first_files m ++ made.views) status before now

-- All is written, and the line is printed, or part of it.
pub record IsPut (m : Making) (status : ℕ) (before now : Outside) : Type 0 where
  pub made : Made
  pub success : made.reply.status ≡ 0
  pub work : IfTold before.store.files (λ files. IsMakingWork m files (Ok made))
  pub files : Told (AreWritten (first_files m ++ made.views)) before.store.files now.store.files
  pub kept : now.store.faults ≡ before.store.faults
  pub unnamed : now.store.failed ≡ before.store.failed
  pub printed : IsFinished made.reply status before.sink now.sink

-- the ends that there are
abbrev pub IsMakingEnd : Making → ℕ → Outside → Outside → Type 0
IsMakingEnd m status before now =
    IsUnstarted status before now
    ⊎ (IsWriteCut (first_files m) status before now ⊎ (IsWorkRefused m status before now ⊎ (IsViewCut m status before now ⊎ IsPut m status before now)))

-- status 0: the files are those at the start with the views put under their names, and the line is printed, by one put
pub record IsMakingDone (m : Making) (before now : Outside) : Type 0 where
  pub made : Made
  pub work : IfTold before.store.files (λ files. IsMakingWork m files (Ok made))
  pub files : Told (AreWritten (first_files m ++ made.views)) before.store.files now.store.files
  pub printed : Grows (IsWholeText (lines_text made.reply.lines)) before.sink.text now.sink.text
  pub puts : RoseBy (length made.reply.lines) before.sink.puts now.sink.puts

-- status 3: no view is written, and the line of the refusal is printed, by one put
pub record IsMakingRefused (m : Making) (before now : Outside) : Type 0 where
  pub refusal : Refusal
  pub is_input : refusal_status refusal ≡ 3
  pub work : IfTold before.store.files (λ files. IsMakingWork m files (Err refusal))
  pub files : Told (AreWritten (first_files m)) before.store.files now.store.files
  pub printed : Grows (IsWholeText (reply_line (refusal_words refusal))) before.sink.text now.sink.text
  pub put : RoseBy 1 before.sink.puts now.sink.puts

-- The sink failed; or it has the line of the read or the write that failed, with the name of that call.
abbrev pub IsMakingFaultPrinted : Outside → Outside → Type 0
IsMakingFaultPrinted before now = Rose before.sink.faults now.sink.faults ⊎ (IsFaultPrinted unread_line before now ⊎ IsFaultPrinted unwritten_line before now)

-- What a build, a read-only memory's too, or a demonstration does.
pub record IsMakingRun (m : Making) (status : ℕ) (before now : Outside) : Type 0 where
  pub range : status < 6
  -- below 4 it is done, or an input is refused, and no fault rose
  pub kinds : status < 4 → (status ≡ 0) ⊎ (status ≡ 3)
  pub clean : status < 4 → (now.store.faults ≡ before.store.faults) × (now.sink.faults ≡ before.sink.faults)
  pub done : status ≡ 0 → IsMakingDone m before now
  pub held : status ≡ 0 → Told (IsMemoryHeld m) before.store.files now.store.files
  pub refused : status ≡ 3 → IsMakingRefused m before now
  -- 4 comes only where a fault rose, whose line is printed unless the sink failed; at 5 the sink didn't fail
  pub fault : status ≡ 4 → Rose before.store.faults now.store.faults ⊎ Rose before.sink.faults now.sink.faults
  pub named : status ≡ 4 → IsMakingFaultPrinted before now
  pub memory_clean : status ≡ 5 → now.sink.faults ≡ before.sink.faults
  -- what is written and printed at each end, at 4 and 5 too
  pub end : IsMakingEnd m status before now
