-- What a store in memory holds, which of its calls fail, and which was the last that failed.
use Rattle.std.specs.Prelude.{◌≡◌, ℕ, List, Option, None}
use Rattle.or_host.specs.Files.{Files}
use Rattle.or_host.specs.FileList.{files_of}
use Rattle.or_host.specs.Schedule.{IsStart}
use Rattle.or_host.specs.declared.file.MemFile.{MemFile}
use Rattle.or_host.specs.declared.schedule.Schedule.{Schedule}
use Rattle.or_host.specs.declared.mem_store.MemStore.{MemStore}

abbrev pub held : MemStore → Files
held s = files_of s.files.items

abbrev pub schedule_of : MemStore → Schedule
schedule_of s = s.schedule

abbrev pub failed_in : MemStore → Option (List ℕ)
failed_in s = s.failed

pub record IsNewStore (files : List MemFile) (fail : List ℕ) (s : MemStore) : Type 0 where
  pub holds : held s ≡ files_of files
  pub start : IsStart fail (schedule_of s)
  pub no_failure : failed_in s ≡ None
