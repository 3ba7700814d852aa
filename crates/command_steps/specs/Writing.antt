-- What writing files one after another leaves.
use Rattle.std.specs.Prelude.{◌≡◌, ℕ, List, [], ◌∷◌, ◌++◌, Bool, true, false, Option, None, Result, Ok, Err}
use Rattle.std.specs.List.{All}
use Rattle.std.specs.Str.{IsAscii}
use Rattle.or_host.specs.Fault.{name_if}
use Rattle.or_host.specs.Files.{Files, Holds, HoldsPart, Told}
use Rattle.or_host.specs.declared.file.MemFile.{MemFile}
use Rattle.or_host.specs.declared.store.WriteFail.{WriteFail}
use Rattle.or_host.specs.declared.store.WriteFail.TheVariants as write
use Rattle.command_steps.specs.declared.write.Unwritten.{Unwritten}

abbrev pub HaveAsciiNames : List MemFile → Type 0
HaveAsciiNames files = All (λ file. IsAscii file.name) files

-- each file in turn is put under its name, and all else stays
abbrev pub AreWritten : List MemFile → Files → Files → Type 0
AreWritten [] before now = now ≡ before
AreWritten (file ∷ files) before now = (mid : Files) × Holds before mid file.name file.bytes × AreWritten files mid now

-- the files before this one are whole, it holds what it held or a prefix of its bytes, and all else stays
pub record AreCutAt (files : List MemFile) (file : MemFile) (before now : Files) : Type 0 where
  pub whole : List MemFile
  pub untouched : List MemFile
  pub parts : files ≡ whole ++ file ∷ untouched
  pub mid : Files
  pub written : AreWritten whole before mid
  pub part : HoldsPart mid now file.name file.bytes

-- the files before this one are whole, and all else stays
pub record AreWrittenBefore (files : List MemFile) (file : MemFile) (before now : Files) : Type 0 where
  pub whole : List MemFile
  pub untouched : List MemFile
  pub parts : files ≡ whole ++ file ∷ untouched
  pub written : AreWritten whole before now

-- writing ended at this file, where the store failed or memory ran out
abbrev pub EndsAt : List MemFile → MemFile → WriteFail → Files → Files → Type 0
EndsAt files file write.Failed = AreCutAt files file
EndsAt files file write.Memory = AreWrittenBefore files file

abbrev pub WritesAll : List MemFile → Option Files → Option Files → Result (Unit {0}) Unwritten → Type 0
WritesAll files old new (Ok done) = Told (AreWritten files) old new
WritesAll files old new (Err unwritten) = Told (EndsAt files unwritten.file.now unwritten.fail) old new

abbrev pub is_write_failure : WriteFail → Bool
is_write_failure write.Failed = true
is_write_failure write.Memory = false

abbrev pub some_write_failed : Result (Unit {0}) Unwritten → Bool
some_write_failed (Ok done) = false
some_write_failed (Err unwritten) = is_write_failure unwritten.fail

-- the file whose write failed
abbrev pub unwritten_in : Result (Unit {0}) Unwritten → Option (List ℕ)
unwritten_in (Ok done) = None
unwritten_in (Err unwritten) = name_if (is_write_failure unwritten.fail) unwritten.file.now.name
