-- The bytes of records, and the records of some bytes.
use Rattle.std.specs.Prelude.{◌≡◌, ℕ, zero, suc, ◌+◌, ◌-◌, ◌*◌, ◌/◌, ◌%◌, ◌<◌, List, [], ◌∷◌, ◌++◌, take, drop, length, true, false, ◌&&◌, nat_le, ◌==◌, if◌then◌else◌, Option, Some, None, Result, Ok, Err}
use Rattle.std.specs.List.{AllByRecursion}
use Rattle.gds_records.specs.Record.{StreamRecord, record_of}
use Rattle.gds_records.specs.declared.error.RecordError.{RecordError}
use Rattle.gds_records.specs.declared.error.RecordError.TheVariants.{Short, At, Memory}

-- two bytes, the high one first
abbrev pub two_bytes : ℕ → List ℕ
two_bytes n = (n / 256) ∷ (n % 256) ∷ []

-- a record as it stands in a file: its length with these four bytes, its code and its data
abbrev pub record_bytes : StreamRecord → List ℕ
record_bytes e = two_bytes (length e.content + 4) ++ (two_bytes e.code ++ e.content)

-- records one after the other
unfoldable pub records_bytes : List StreamRecord → List ℕ
records_bytes [] = []
records_bytes (e ∷ es) = record_bytes e ++ records_bytes es

abbrev pub AreBytes : List ℕ → Type 0
AreBytes bytes = AllByRecursion (λ b. b < 256) bytes

abbrev pub AreZero : List ℕ → Type 0
AreZero bytes = AllByRecursion (λ b. b ≡ 0) bytes

abbrev pub code_in : List ℕ → ℕ
code_in (a ∷ b ∷ c ∷ d ∷ rest) = 256 * c + d
code_in bytes = 0

-- the length that the first two bytes give
abbrev pub length_in : List ℕ → ℕ
length_in (a ∷ b ∷ more) = 256 * a + b
length_in bytes = 0

-- what is left where no whole record stands
abbrev pub broken_record : List ℕ → StreamRecord
broken_record bytes = record_of false (code_in bytes) bytes

-- the first record, and the bytes after it
unfoldable pub cut : List ℕ → Option (StreamRecord × List ℕ)
cut [] = None
cut (a ∷ b ∷ c ∷ d ∷ rest) =
    if nat_le 4 (256 * a + b) && ((b % 2 == 0) && nat_le (256 * a + b) (length rest + 4))
    then Some (record_of true (256 * c + d) (take (256 * a + b - 4) rest), drop (256 * a + b - 4) rest)
    else Some (broken_record (a ∷ b ∷ c ∷ d ∷ rest), [])
cut bytes = Some (broken_record bytes, [])

abbrev pub records_more : (List ℕ → List StreamRecord) → Option (StreamRecord × List ℕ) → List StreamRecord
records_more f None = []
records_more f (Some p) = p.0 ∷ f p.1

abbrev pub records_at : ℕ → List ℕ → List StreamRecord
records_at zero bytes = []
records_at (suc n) bytes = records_more (records_at n) (cut bytes)

-- all records of the bytes, and what is left of them
unfoldable pub records_of : List ℕ → List StreamRecord
records_of bytes = records_at (length bytes) bytes

abbrev pub record_size : StreamRecord → ℕ
record_size e = if e.whole then length e.content + 4 else length e.content

-- how many bytes they have
unfoldable pub byte_length : List StreamRecord → ℕ
byte_length [] = 0
byte_length (e ∷ es) = record_size e + byte_length es

-- reading stops so, unless memory ran out
abbrev pub Fails : {Y : Type 0} → RecordError → Result (Y × List StreamRecord) RecordError → Type 0
Fails Memory read = Unit {0}
Fails Short read = read ≡ Err Short
Fails (At left code fault) read = read ≡ Err (At left code fault)

-- what a function returned, seen by view, is what reading gives, unless memory ran out
abbrev pub MatchesReader : {A X Y : Type 0} → (A → X × List ℕ) → (X → Y) → Result A RecordError
    → Result (Y × List StreamRecord) RecordError → Type 0
MatchesReader parts view (Ok a) read = read ≡ Ok (view (parts a).0, records_of (parts a).1)
MatchesReader parts view (Err s) read = Fails s read
