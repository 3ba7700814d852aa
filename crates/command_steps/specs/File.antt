-- What the file under a name holds: its bytes, or the technology that they are.
use Rattle.std.specs.Prelude.{◌≡◌, ◌⊎◌, ℕ, ◌<◌, ◌≤◌, List, length, Some, None, Result, Ok, Err}
use Rattle.or_host.specs.Files.{Files}
use Rattle.tech_rules.specs.Technology.{technology}
use Rattle.tech_rules.specs.declared.tech.Tech.{Tech}
use Rattle.reply_lines.specs.declared.refusal.Refusal.{Refusal}
use Rattle.reply_lines.specs.declared.refusal.Refusal.TheVariants as refusal_of
use Rattle.command_steps.specs.Outcome.{ValueOrFault, Then}

-- 64 MiB
abbrev pub limit : ℕ
limit = 67108864

-- the file is there, and not too long
pub record IsReadable (files : Files) (name bytes : List ℕ) : Type 0 where
  pub holds : files name ≡ Some bytes
  pub fits : length bytes ≤ limit

-- the file is there, and too long
abbrev pub IsTooLong : Files → List ℕ → Type 0
IsTooLong files name = (bytes : List ℕ) × (files name ≡ Some bytes) × (limit < length bytes)

-- the bytes of a file, unless its read failed, or it isn't there, or is too long
abbrev pub IsFile : Files → List ℕ → Result (List ℕ) Refusal → Type 0
IsFile files name (Ok bytes) = IsReadable files name bytes
IsFile files name (Err refusal) =
    (refusal ≡ refusal_of.ReadFailed name)
    ⊎ (((refusal ≡ refusal_of.NoFile name) × (files name ≡ None))
    ⊎ ((refusal ≡ refusal_of.TooLong name) × IsTooLong files name))

-- the technology that bytes are, or what is wrong with them
abbrev pub IsTechnology : List ℕ → Result Tech Refusal → Type 0
IsTechnology bytes = ValueOrFault (λ tech. technology bytes ≡ Ok tech) (λ fault. technology bytes ≡ Err fault) refusal_of.Tech

-- a file, read and decoded
abbrev pub IsTechnologyFile : Files → List ℕ → Result Tech Refusal → Type 0
IsTechnologyFile files name = Then (IsFile files name) IsTechnology
