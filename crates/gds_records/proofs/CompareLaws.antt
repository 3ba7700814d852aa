-- Bytes that are those of records and a rest in two ways.
use Rattle.std.proofs.Common.{◌≡◌, ℕ, ◌+◌, ◌/◌, ◌%◌, List, [], ◌∷◌, ◌++◌, length, true, refl, sym, ◌∙◌, append_assoc, arith}
use Rattle.gds_records.specs.Record.{StreamRecord, record_of, is_formed, AreFormed}
use Rattle.gds_records.specs.Bytes.{record_bytes, records_bytes}
use Rattle.gds_records.proofs.SpellingLaws.{formed_whole}

-- lists of one length before a rest are told from it
same_split : {X : Type 0} (xs ys us vs : List X) → length xs ≡ length ys → xs ++ us ≡ ys ++ vs → (xs ≡ ys) × (us ≡ vs)
same_split [] [] us vs size is = (refl, is)
same_split [] (y ∷ ys) us vs size is = absurd (omega arith)
same_split (x ∷ xs) [] us vs size is = absurd (omega arith)
same_split {X} (x ∷ xs) (y ∷ ys) us vs size is =
    let first : x ≡ y = cc in
    let tails : xs ++ us ≡ ys ++ vs = cc in
    let more = same_split xs ys us vs (omega arith) tails in
    (λ i. first i ∷ more.0 i, more.1)

same_number : (n m : ℕ) → n / 256 ≡ m / 256 → n % 256 ≡ m % 256 → n ≡ m
same_number n m high low = omega arith

-- the bytes of a whole record say which it is
pub same_first : (e d : StreamRecord) (us vs : List ℕ) → e.whole ≡ true → d.whole ≡ true
    → record_bytes e ++ us ≡ record_bytes d ++ vs → (e ≡ d) × (us ≡ vs)
same_first e d us vs whole also is =
    let length_high : (length e.content + 4) / 256 ≡ (length d.content + 4) / 256 = cc in
    let length_low : (length e.content + 4) % 256 ≡ (length d.content + 4) % 256 = cc in
    let code_high : e.code / 256 ≡ d.code / 256 = cc in
    let code_low : e.code % 256 ≡ d.code % 256 = cc in
    let tails : e.content ++ us ≡ d.content ++ vs = cc in
    let size : length e.content + 4 ≡ length d.content + 4 = same_number _ _ length_high length_low in
    let code : e.code ≡ d.code = same_number _ _ code_high code_low in
    let both = same_split e.content d.content us vs (omega (arith, size)) tails in
    let flag : e.whole ≡ d.whole = whole ∙ sym also in
    (λ i. record_of (flag i) (code i) (both.0 i), both.1)

-- two ways to take records off some bytes: they are one, or one goes on where the other stops
pub data Compared (done : List StreamRecord) (rest : List ℕ) (others : List StreamRecord) (tail : List ℕ) : Type 0 where
  equal : done ≡ others → rest ≡ tail → Compared done rest others tail
  shorter : (e : StreamRecord) (more : List StreamRecord) (after : List ℕ) → others ≡ done ++ e ∷ more
      → rest ≡ record_bytes e ++ after → is_formed e ≡ true → Compared done rest others tail
  longer : (e : StreamRecord) (more : List StreamRecord) (after : List ℕ) → done ≡ others ++ e ∷ more
      → tail ≡ record_bytes e ++ after → is_formed e ≡ true → Compared done rest others tail

-- one record more before both
one_before : (d e : StreamRecord) (done : List StreamRecord) (rest : List ℕ) (others : List StreamRecord)
    (tail : List ℕ) → d ≡ e → Compared done rest others tail → Compared (d ∷ done) rest (e ∷ others) tail
one_before d e done rest others tail first (equal a b) = equal (λ i. first i ∷ a i) b
one_before d e done rest others tail first (shorter x more after a b formed) =
    shorter x more after (λ i. sym first i ∷ a i) b formed
one_before d e done rest others tail first (longer x more after a b formed) =
    longer x more after (λ i. first i ∷ a i) b formed

-- any two ways compare
pub compared : (done : List StreamRecord) (rest : List ℕ) (others : List StreamRecord) (tail : List ℕ)
    → AreFormed done → AreFormed others → records_bytes done ++ rest ≡ records_bytes others ++ tail
    → Compared done rest others tail
unfolding records_bytes
compared [] rest [] tail formed also is = equal refl is
compared [] rest (e ∷ others) tail formed also is =
    shorter e others (records_bytes others ++ tail) refl
    (is ∙ append_assoc (record_bytes e) (records_bytes others) tail) also.0
compared (d ∷ done) rest [] tail formed also is =
    longer d done (records_bytes done ++ rest) refl (sym is ∙ append_assoc (record_bytes d) (records_bytes done) rest)
    formed.0
compared (d ∷ done) rest (e ∷ others) tail formed also is =
    let whole : record_bytes d ++ (records_bytes done ++ rest) ≡ record_bytes e ++ (records_bytes others ++ tail) =
    sym (append_assoc (record_bytes d) (records_bytes done) rest) ∙ is
    ∙ append_assoc (record_bytes e) (records_bytes others) tail in
    let both = same_first d e (records_bytes done ++ rest) (records_bytes others ++ tail) (formed_whole d formed.0)
    (formed_whole e also.0) whole in
    one_before d e done rest others tail both.0 (compared done rest others tail formed.1 also.1 both.1)
