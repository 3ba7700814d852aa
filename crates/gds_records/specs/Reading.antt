-- Reading the parts of a list of records, one record after the other.
use Rattle.std.specs.Prelude.{ℕ, zero, suc, List, [], ◌∷◌, ◌++◌, Bool, true, false, ◌==◌, if◌then◌else◌, Option, Some, None, Result, Ok, Err}
use Rattle.gds_records.specs.Record.{StreamRecord, is_formed}
use Rattle.gds_records.specs.Bytes.{byte_length}
use Rattle.gds_records.specs.declared.error.Demand.{Demand}
use Rattle.gds_records.specs.declared.code.TheConstants.{ELFLAGS, PLEX}
use Rattle.gds_records.specs.declared.error.Fault.TheVariants.{BadRecord, NotInPlace, Unmet}
use Rattle.gds_records.specs.declared.error.RecordError.{RecordError}
use Rattle.gds_records.specs.declared.error.RecordError.TheVariants.{Short, At}

abbrev pub Reader : Type 0 → Type 0
Reader X = List StreamRecord → Result (X × List StreamRecord) RecordError

-- a record that was taken, which begins so many bytes before the end
pub record Taking : Type 0 where
  pub left : ℕ
  pub code : ℕ
  pub content : List ℕ

abbrev pub taking : ℕ → ℕ → List ℕ → Taking
taking left code content = record { left = left; code = code; content = content }

abbrev pub with_value : {X Y : Type 0} → X → Result (Y × List StreamRecord) RecordError
    → Result ((X × Y) × List StreamRecord) RecordError
with_value x (Ok r) = Ok ((x, r.0), r.1)
with_value x (Err s) = Err s

abbrev pub on_value : {X Y : Type 0} → Demand → StreamRecord → List StreamRecord → (X → Reader Y) → Option X
    → Result ((X × Y) × List StreamRecord) RecordError
on_value demand e rs q None = Err (At (byte_length (e ∷ rs)) e.code (Unmet demand))
on_value demand e rs q (Some x) = with_value x (q x rs)

abbrev pub choose : {R : Type 0} → Bool → Bool → R → R → R → R
choose false placed a b c = a
choose true false a b c = b
choose true true a b c = c

-- the next record, which has this code
unfoldable pub next_at : ℕ → Reader Taking
next_at code [] = Err Short
next_at code (e ∷ rs) =
    choose (is_formed e) (e.code == code) (Err (At (byte_length (e ∷ rs)) e.code BadRecord))
    (Err (At (byte_length (e ∷ rs)) e.code NotInPlace))
    (Ok (taking (byte_length (e ∷ rs)) e.code e.content, rs))

abbrev pub meant : {X : Type 0} → Demand → Taking → List StreamRecord → Option X
    → Result (X × List StreamRecord) RecordError
meant demand t rs None = Err (At t.left t.code (Unmet demand))
meant demand t rs (Some x) = Ok (x, rs)

abbrev pub meant_at : {X : Type 0} → Demand → (List ℕ → Option X) → Result (Taking × List StreamRecord) RecordError
    → Result (X × List StreamRecord) RecordError
meant_at demand f (Err s) = Err s
meant_at demand f (Ok r) = meant demand r.0 r.1 (f r.0.content)

-- the next record's value
unfoldable pub taken_at : {X : Type 0} → Demand → ℕ → (List ℕ → Option X) → Reader X
taken_at demand code f rs = meant_at demand f (next_at code rs)

abbrev pub then_at : {X Y : Type 0} → Result (X × List StreamRecord) RecordError → (X → Reader Y)
    → Result ((X × Y) × List StreamRecord) RecordError
then_at (Err s) q = Err s
then_at (Ok r) q = with_value r.0 (q r.0 r.1)

-- a value, and what follows it
unfoldable pub value_at : {X Y : Type 0} → Demand → ℕ → (List ℕ → Option X) → (X → Reader Y) → Reader (X × Y)
value_at demand code f q rs = then_at (taken_at demand code f rs) q

abbrev pub as_value : {X Z : Type 0} → (X → Z) → Result (X × List StreamRecord) RecordError
    → Result (Z × List StreamRecord) RecordError
as_value f (Ok r) = Ok (f r.0, r.1)
as_value f (Err s) = Err s

abbrev pub has_next : ℕ → List StreamRecord → Bool
has_next code [] = false
has_next code (e ∷ rs) = e.code == code

-- past a record that may be left out
unfoldable pub skip_at : ℕ → Reader (Unit {0})
skip_at code rs = if has_next code rs then as_value (λ e. tt) (next_at code rs) else Ok (tt, rs)

-- what follows, whatever was read
abbrev pub past : {X Y : Type 0} → Result (X × List StreamRecord) RecordError → Reader Y
    → Result (Y × List StreamRecord) RecordError
past (Err s) q = Err s
past (Ok r) q = q r.1

-- a record that is dropped, and what follows it
abbrev pub any_at : {Y : Type 0} → ℕ → Reader Y → Reader Y
any_at code q rs = past (next_at code rs) q

-- a record that may be left out, and what follows it
abbrev pub maybe_at : {Y : Type 0} → ℕ → Reader Y → Reader Y
maybe_at code q rs = past (skip_at code rs) q

-- one way where the next record has this code, and another where it hasn't
unfoldable pub fork_at : {X Y Z : Type 0} → ℕ → (X → Z) → (Y → Z) → Reader X → Reader Y → Reader Z
fork_at code i k a b rs = if has_next code rs then as_value i (a rs) else as_value k (b rs)

abbrev pub done_at : Reader (Unit {0})
done_at rs = Ok (tt, rs)

-- items up to a record of this code, at most so many
unfoldable pub until_at : {X : Type 0} → (List X → Reader X) → ℕ → ℕ → List X → Reader (List X)
until_at p code zero before rs = Err Short
until_at p code (suc n) before [] = Err Short
until_at p code (suc n) before (e ∷ rs) =
    if e.code == code then as_value (λ u. []) (any_at code done_at (e ∷ rs))
    else as_value (λ z. z.0 ∷ z.1) (then_at (p before (e ∷ rs)) (λ x. until_at p code n (before ++ x ∷ [])))

abbrev pub identity : {X : Type 0} → X → X
identity x = x

-- a value that may be left out, and is d then
abbrev pub value_or : {X Y : Type 0} → Demand → ℕ → (List ℕ → Option X) → X → Reader Y → Reader Y → Reader (X × Y)
value_or demand code f d q r = fork_at code identity (λ y. (d, y)) (value_at demand code f (λ x. q)) r

abbrev pub refusal : {X : Type 0} → Demand → Result (Taking × List StreamRecord) RecordError
    → Result (X × List StreamRecord) RecordError
refusal demand (Err s) = Err s
refusal demand (Ok r) = Err (At r.0.left r.0.code (Unmet demand))

-- a record that is refused where it could stand, or what stands in its place
unfoldable pub refuse_at : {X : Type 0} → Demand → ℕ → Reader X → Reader X
refuse_at demand code a rs = if has_next code rs then refusal demand (next_at code rs) else a rs

-- a value that may be left out, and is d then: in one step
unfoldable pub or_at : {X : Type 0} → Demand → ℕ → (List ℕ → Option X) → X → Reader X
or_at demand code f d rs = if has_next code rs then taken_at demand code f rs else Ok (d, rs)

-- no record of this code, which is refused: in one step
unfoldable pub bar_at : Demand → ℕ → Reader (Unit {0})
bar_at demand code rs = if has_next code rs then refusal demand (next_at code rs) else Ok (tt, rs)

-- the record that begins an element, and its flags, which are dropped: in one step
unfoldable pub begin_at : ℕ → Reader (Unit {0})
begin_at code rs = past (next_at code rs) (λ rs. past (skip_at ELFLAGS rs) (skip_at PLEX))
