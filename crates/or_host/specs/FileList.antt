-- The files that stand in a list.
use Rattle.std.specs.Prelude.{◌≡◌, ◌≢◌, ℕ, zero, suc, ◌<◌, List, [], ◌∷◌, length, slice_index_or, Some, None, if◌then◌else◌}
use Rattle.std.specs.Str.{bytes_eq}
use Rattle.or_host.specs.declared.file.MemFile.{MemFile}
use Rattle.or_host.specs.Files.{Files}

-- what the first file of this name holds
abbrev pub files_of : List MemFile → Files
files_of [] name = None
files_of (file ∷ files) name = if bytes_eq file.name name then Some file.bytes else files_of files name

-- none of the first files has this name
abbrev pub NoneBefore : ℕ → List MemFile → List ℕ → Type 0
NoneBefore zero files name = Unit {0}
NoneBefore (suc n) [] name = Unit {0}
NoneBefore (suc n) (file ∷ files) name = (file.name ≢ name) × NoneBefore n files name

-- the first file of this name stands here
pub record IsFirstPlace (files : List MemFile) (name : List ℕ) (i : ℕ) : Type 0 where
  pub within : i < length files
  pub none_before : NoneBefore i files name
  pub here : (d : MemFile) → (slice_index_or files i d).name ≡ name
