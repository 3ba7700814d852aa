-- What the bytes of a whole file spell.
use Rattle.std.specs.Prelude.{◌≡◌, ℕ, List, [], ◌++◌, true}
use Rattle.gds_records.specs.Record.{StreamRecord, AreFormed}
use Rattle.gds_records.specs.Bytes.{records_bytes, AreZero}
use Rattle.gds_records.specs.Part.{Rest, Judge, Part}

-- nothing more
abbrev pub IsAtEnd : Rest
IsAtEnd rs = rs ≡ []

-- every demand counts
abbrev pub all_count : Judge
all_count demand = true

-- the bytes are those of records of the table, which are the part of x and nothing more, and then zero bytes
pub record IsSpelling {X : Type 0} (P : X → Part) (bytes : List ℕ) (x : X) : Type 0 where
  pub records : List StreamRecord
  pub zeros : List ℕ
  pub parts : bytes ≡ records_bytes records ++ zeros
  pub formed : AreFormed records
  pub order : P x all_count IsAtEnd records
  pub zero : AreZero zeros
