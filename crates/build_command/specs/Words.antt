-- The words of a build, of a demonstration and of a read-only memory.
use Rattle.std.specs.Prelude.{◌≡◌, ℕ, ◌<◌, ◌≤◌, List, [], ◌∷◌, ◌&&◌, Option, Some, None, if◌then◌else◌, codes}
use Rattle.std.specs.Fmt.{decimal}
use Rattle.std.specs.Str.{bytes_eq}
use Rattle.command_steps.specs.Workers.{is_workers}
use Rattle.build_command.specs.declared.words.BuildKind.{BuildKind}
use Rattle.build_command.specs.declared.words.BuildKind.TheVariants as kind
use Rattle.build_command.specs.declared.words.Making as declared

-- the memory of the configuration in the file of this name; the demonstration with this number; or the read-only memory of a
-- configuration's file and a data file
pub data Making : Type 0 where
  build : List ℕ → Making
  demo : ℕ → Making
  rom : List ℕ → List ℕ → Making

-- build CONFIG WORKERS
abbrev pub build_form : List (List ℕ) → Option (List ℕ)
build_form (command ∷ config ∷ workers ∷ []) = if bytes_eq command (codes "build") && is_workers workers then Some config else None
build_form words = None

-- demo N WORKERS
abbrev pub demo_form : List (List ℕ) → Option (List ℕ)
demo_form (command ∷ number ∷ workers ∷ []) = if bytes_eq command (codes "demo") && is_workers workers then Some number else None
demo_form words = None

-- the files that a read-only memory is made of
pub record RomFiles : Type 0 where
  pub config : List ℕ
  pub content : List ℕ

-- rom CONFIG DATA WORKERS
abbrev pub rom_form : List (List ℕ) → Option RomFiles
rom_form (command ∷ config ∷ content ∷ workers ∷ []) = if bytes_eq command (codes "rom") && is_workers workers then Some (record { config = config; content = content }) else None
rom_form words = None

-- the words are this build, this read-only memory, or this demonstration: its number is 0 to 65535 in decimal digits, without a leading zero
abbrev pub IsMakingForm : List (List ℕ) → Making → Type 0
IsMakingForm words (build config) = build_form words ≡ Some config
IsMakingForm words (demo n) = (n ≤ 65535) × (demo_form words ≡ Some (decimal n))
IsMakingForm words (rom config content) = rom_form words ≡ Some (record { config = config; content = content })

-- the words are none of these
abbrev pub AreNoMaking : List (List ℕ) → Type 0
AreNoMaking words = (m : Making) → ¬ IsMakingForm words m

-- what is built, over plain data
abbrev pub told_kind : BuildKind → Making
told_kind (kind.Build config) = build config.now
told_kind (kind.Demo number) = demo number
told_kind (kind.Rom files) = rom files.config.now files.content.now

-- how many workers may do it is no part of what is asked
abbrev pub told_making : declared.Making → Making
told_making making = told_kind making.asked

-- 1 to 64 workers
abbrev pub HasMakingWorkers : declared.Making → Type 0
HasMakingWorkers making = (0 < making.workers) × (making.workers ≤ 64)
