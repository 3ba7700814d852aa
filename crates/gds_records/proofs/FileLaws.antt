-- Whole files: what is spelled is read, and what is read is spelled.
use Rattle.std.proofs.Common.{◌≡◌, ℕ, suc, ◌+◌, ◌≤◌, ◌<◌, List, [], ◌∷◌, ◌++◌, length, get_or, Result, Ok, Err, refl, sym, ap, subst, ◌∙◌, arith}
use Rattle.std.proofs.lemmas.List.{append-nil, length-append}
use Rattle.gds_records.specs.declared.error.RecordError.{RecordError}
use Rattle.gds_records.specs.declared.error.RecordError.TheVariants.{Short, At, Memory}
use Rattle.gds_records.specs.declared.error.Fault.{Fault}
use Rattle.gds_records.specs.declared.error.Fault.TheVariants.{BadRecord, NotInPlace, Unmet}
use Rattle.gds_records.specs.Record.{StreamRecord}
use Rattle.gds_records.specs.Bytes.{records_of, AreBytes, AreZero}
use Rattle.gds_records.specs.Part.{Part}
use Rattle.gds_records.specs.Reading.{Reader}
use Rattle.gds_records.specs.Spelling.{IsAtEnd, all_count, IsSpelling}
use Rattle.gds_records.proofs.BytesLaws.{few_records}
use Rattle.gds_records.proofs.SpellingLaws.{taken_bytes, spelled_records, same_as_zero, zero_bytes}
use Rattle.gds_records.proofs.PartLaws.{CountsFor, IsPart, room}

-- a list whose items are bytes
pub are_bytes : (bs : List ℕ) → ((i : ℕ) → get_or bs i 0 < 256) → AreBytes bs
are_bytes [] all = tt
are_bytes (b ∷ bs) all = (all 0, are_bytes bs (λ i. all (suc i)))

pub all_counted : (k : Fault) → CountsFor k all_count
all_counted BadRecord = tt
all_counted NotInPlace = tt
all_counted (Unmet n) = refl

-- what is read and ends in zero bytes is spelled
pub is_spelled : {X : Type 0} (P : X → Part) (read : Reader X) (bytes rest : List ℕ) (x : X) → IsPart P read
    → AreBytes bytes → length bytes ≤ room
    → read (records_of bytes) ≡ Ok (x, records_of rest) → AreZero rest → IsSpelling P bytes x
is_spelled P read bytes rest x part are fits is zero =
    let t = part.takes (records_of bytes) x (records_of rest) (omega (arith, few_records bytes)) is in
    record {
      records = t.front;
      zeros = rest;
      parts = taken_bytes bytes rest t.front are (zero_bytes rest zero) t.formed t.parts;
      formed = t.formed;
      order = subst (P x all_count IsAtEnd) (append-nil t.front) (t.spelled all_count IsAtEnd [] refl);
      zero = zero;
    }

-- records that a part spells are read, whatever follows
pub read_alone : {X : Type 0} (P : X → Part) (read : Reader X) (rs : List StreamRecord) (x : X) → IsPart P read
    → length rs ≤ room → P x all_count IsAtEnd rs
    → (r : Result (X × List StreamRecord) RecordError) → read rs ≡ r → r ≡ Ok (x, [])
read_alone P read rs x part fits s (Ok r) is =
    let t = part.takes rs r.0 r.1 fits is in
    let u = t.closed all_count IsAtEnd r.1 x (subst (P x all_count IsAtEnd) t.parts s) in
    λ i. Ok (u.0 i, u.1 i)
read_alone P read rs x part fits s (Err Short) is = absurd ((part.stops rs Short fits is).dead all_count tt x IsAtEnd s)
read_alone P read rs x part fits s (Err Memory) is = part.stops rs Memory fits is _
read_alone P read rs x part fits s (Err (At left code k)) is =
    let b = part.stops rs (At left code k) fits is in
    absurd (b.dead b.after all_count (all_counted k) x IsAtEnd (subst (P x all_count IsAtEnd) b.parts s))

read_before : {X : Type 0} (P : X → Part) (read : Reader X) (rs more : List StreamRecord) (x : X) → IsPart P read
    → length (rs ++ more) ≤ room → P x all_count (λ l. l ≡ more) (rs ++ more)
    → (r : Result (X × List StreamRecord) RecordError) → read (rs ++ more) ≡ r → r ≡ Ok (x, more)
read_before P read rs more x part fits s (Ok r) is =
    let t = part.takes (rs ++ more) r.0 r.1 fits is in
    let u = t.closed all_count (λ l. l ≡ more) r.1 x (subst (P x all_count (λ l. l ≡ more)) t.parts s) in
    λ i. Ok (u.0 i, u.1 i)
read_before P read rs more x part fits s (Err Short) is =
    absurd ((part.stops (rs ++ more) Short fits is).dead all_count tt x (λ l. l ≡ more) s)
read_before P read rs more x part fits s (Err Memory) is = part.stops (rs ++ more) Memory fits is _
read_before P read rs more x part fits s (Err (At left code k)) is =
    let b = part.stops (rs ++ more) (At left code k) fits is in
    absurd (b.dead b.after all_count (all_counted k) x (λ l. l ≡ more)
    (subst (P x all_count (λ l. l ≡ more)) b.parts s))

-- the records are read, and those of the zero bytes are left
pub is_read : {X : Type 0} (P : X → Part) (read : Reader X) (bytes : List ℕ) (x : X) → IsPart P read
    → length bytes ≤ room
    → (s : IsSpelling P bytes x) → read (records_of bytes) ≡ Ok (x, records_of s.zeros)
is_read P read bytes x part fits s =
    let all : records_of bytes ≡ s.records ++ records_of s.zeros = ap records_of s.parts
    ∙ spelled_records s.records s.zeros s.formed in
    let size : length (records_of bytes) ≡ length (s.records ++ records_of s.zeros) = ap length all in
    let sum : length (s.records ++ records_of s.zeros) ≡ length s.records + length (records_of s.zeros) =
    length-append s.records (records_of s.zeros) in
    let few : length (records_of bytes) ≤ length bytes = few_records bytes in
    let alone = read_alone P read s.records x part (omega arith) s.order (read s.records) refl in
    let t = part.takes s.records x [] (omega arith) alone in
    let more : P x all_count (λ l. l ≡ records_of s.zeros) (s.records ++ records_of s.zeros) =
    subst (λ (front : List StreamRecord). P x all_count (λ l. l ≡ records_of s.zeros) (front ++ records_of s.zeros))
    (sym (t.parts ∙ append-nil t.front))
    (t.spelled all_count (λ l. l ≡ records_of s.zeros) (records_of s.zeros) refl) in
    ap read all ∙ read_before P read s.records (records_of s.zeros) x part (omega arith) more
    (read (s.records ++ records_of s.zeros)) refl

rest_of : {X : Type 0} (x y : X) (a b : List StreamRecord)
    → ◌≡◌ {A = Result (X × List StreamRecord) RecordError} (Ok (x, a)) (Ok (y, b)) → a ≡ b
rest_of x y a b is = ap (λ (p : _ × List StreamRecord). p.1) (inner (x, a) (y, b) is) where
  inner : {X : Type 0} (p q : X × List StreamRecord)
      → ◌≡◌ {A = Result (X × List StreamRecord) RecordError} (Ok p) (Ok q) → p ≡ q
  inner p q e = cc

-- a rest that isn't zero follows nothing that is spelled
pub is_not_zero : {X : Type 0} (P : X → Part) (read : Reader X) (bytes rest : List ℕ) (x y : X) → IsPart P read
    → length bytes ≤ room
    → read (records_of bytes) ≡ Ok (x, records_of rest) → (AreZero rest → ⊥) → IsSpelling P bytes y → ⊥
is_not_zero P read bytes rest x y part fits is off s =
    let same = rest_of y x (records_of s.zeros) (records_of rest) (sym (is_read P read bytes y part fits s) ∙ is) in
    let zeros : s.zeros ≡ rest = same_as_zero s.zeros rest s.zero same in
    off (subst AreZero zeros s.zero)

-- where reading stops, nothing is spelled
pub is_not_read : {X : Type 0} (P : X → Part) (read : Reader X) (bytes : List ℕ) (x : X) (error : RecordError)
    → IsPart P read → length bytes ≤ room
    → read (records_of bytes) ≡ Err error → IsSpelling P bytes x → ⊥
is_not_read {X} P read bytes x error part fits is s =
    let both : ◌≡◌ {A = Result (X × List StreamRecord) RecordError} (Ok (x, records_of s.zeros)) (Err error) =
    sym (is_read P read bytes x part fits s) ∙ is in
    absurd cc

-- no bytes spell two values
pub is_only : {X : Type 0} (P : X → Part) (read : Reader X) (bytes : List ℕ) (x y : X) → IsPart P read
    → length bytes ≤ room → IsSpelling P bytes x → IsSpelling P bytes y → x ≡ y
is_only {X} P read bytes x y part fits s t =
    let both : ◌≡◌ {A = Result (X × List StreamRecord) RecordError} (Ok (x, records_of s.zeros))
    (Ok (y, records_of t.zeros)) = sym (is_read P read bytes x part fits s) ∙ is_read P read bytes y part fits t in
    ap (value_in x) both where
      value_in : {X : Type 0} → X → Result (X × List StreamRecord) RecordError → X
      value_in a (Ok r) = r.0
      value_in a (Err s) = a
