-- A loop that reads items up to a record.
use Rattle.std.proofs.Common.{◌≡◌, ℕ, zero, suc, ◌+◌, ◌<◌, ◌≤◌, List, [], ◌∷◌, ◌++◌, length, true, false, eqb, cond, Result, Ok, Err, refl, sym, ap, ◌∙◌, append_assoc, arith}
use Rattle.std.proofs.lemmas.List.{append-nil, length-append}
use Rattle.gds_records.specs.Record.{StreamRecord}
use Rattle.gds_records.specs.declared.error.RecordError.{RecordError}
use Rattle.gds_records.specs.declared.error.RecordError.TheVariants.{Short}
use Rattle.gds_records.specs.Reading.{Reader, Taking, as_value, then_at, with_value, until_at, any_at, done_at, next_at, has_next}
use Rattle.gds_records.proofs.PartLaws.{room}

-- what is read takes a record
abbrev pub Shrinks : {X : Type 0} → (List X → Reader X) → Type 0
Shrinks {X} p = (seen : List X) → length seen < room → (rs : List StreamRecord) (x : X) (rest : List StreamRecord)
    → length rs ≤ room → p seen rs ≡ Ok (x, rest) → length rest < length rs

then_same : {X Y : Type 0} (r : Result (X × List StreamRecord) RecordError) (f g : X → Reader Y)
    → ((x : X) (mid : List StreamRecord) → r ≡ Ok (x, mid) → f x mid ≡ g x mid) → then_at r f ≡ then_at r g
then_same (Err s) f g h = refl
then_same (Ok r) f g h = ap (with_value r.0) (h r.0 r.1 refl)

-- more turns than records change nothing
until_fuel : {X : Type 0} (p : List X → Reader X) (code : ℕ) → Shrinks p
    → (n m : ℕ) (before : List X) (rs : List StreamRecord) → length before + length rs ≤ room → length rs ≤ n
    → length rs ≤ m
    → until_at p code n before rs ≡ until_at p code m before rs
unfolding until_at
until_fuel p code less zero zero before rs fits a b = refl
until_fuel p code less zero (suc m) before [] fits a b = refl
until_fuel p code less zero (suc m) before (e ∷ rs) fits a b = absurd (omega arith)
until_fuel p code less (suc n) zero before [] fits a b = refl
until_fuel p code less (suc n) zero before (e ∷ rs) fits a b = absurd (omega arith)
until_fuel p code less (suc n) (suc m) before [] fits a b = refl
until_fuel {X} p code less (suc n) (suc m) before (e ∷ rs) fits a b =
    ap (λ (r : Result ((X × List X) × List StreamRecord) RecordError). cond (eqb e.code code)
    (as_value (λ u. []) (any_at code done_at (e ∷ rs))) (as_value (λ (z : X × List X). z.0 ∷ z.1) r))
    (then_same (p before (e ∷ rs)) (λ x. until_at p code n (before ++ x ∷ []))
    (λ x. until_at p code m (before ++ x ∷ []))
    (λ x mid is.
    let lt = less before (omega arith) (e ∷ rs) x mid (omega arith) is in
    until_fuel p code less n m (before ++ x ∷ []) mid (omega (arith, lt, length-append before (x ∷ [])))
    (omega (arith, lt)) (omega (arith, lt))))

abbrev pub with_front : {X : Type 0} → List X → Result (List X × List StreamRecord) RecordError
    → Result (List X × List StreamRecord) RecordError
with_front front r = as_value (λ ys. front ++ ys) r

-- the turns so far, and reading on, are reading all
abbrev pub GoesOn : {X : Type 0} → (List X → Reader X) → ℕ → List X → ℕ → List StreamRecord
    → Result (List X × List StreamRecord) RecordError → Type 0
GoesOn p code front n rs total = with_front front (until_at p code n front rs) ≡ total

no_front : {X : Type 0} (r : Result (List X × List StreamRecord) RecordError) → with_front [] r ≡ r
no_front (Ok r) = refl
no_front (Err s) = refl

pub begins : {X : Type 0} (p : List X → Reader X) (code : ℕ) → Shrinks p → (n : ℕ) (rs : List StreamRecord)
    → length rs ≤ room → length rs ≤ n → GoesOn p code [] n rs (until_at p code (length rs) [] rs)
begins p code less n rs fits le = no_front (until_at p code n [] rs)
    ∙ until_fuel p code less n (length rs) [] rs (omega arith) le (omega arith)

regroup : {X : Type 0} (front : List X) (x : X) (r : Result (List X × List StreamRecord) RecordError)
    → with_front front (as_value (λ (z : X × List X). z.0 ∷ z.1) (with_value x r)) ≡ with_front (front ++ x ∷ []) r
regroup front x (Ok r) = ap (λ l. Ok (l, r.1)) (sym (append_assoc front (x ∷ []) r.0))
regroup front x (Err s) = refl

pub ends : {X : Type 0} (p : List X → Reader X) (code : ℕ) (front : List X) (n k : ℕ) (rs : List StreamRecord)
    (total : Result (List X × List StreamRecord) RecordError) (e : Taking) (rest : List StreamRecord)
    → n ≡ suc k → has_next code rs ≡ true → next_at code rs ≡ Ok (e, rest) → GoesOn p code front n rs total
    → total ≡ Ok (front, rest)
unfolding until_at
ends p code front n k [] total e rest more has is on = absurd cc
ends p code front n k (d ∷ rs) total e rest more has is on =
    let one : with_front front (until_at p code (suc k) front (d ∷ rs)) ≡ Ok (front, rest) =
    rw (has, is) (ap (λ l. Ok (l, rest)) (append-nil front)) in
    sym on ∙ ap (λ (m : ℕ). with_front front (until_at p code m front (d ∷ rs))) more ∙ one

pub ends_badly : {X : Type 0} (p : List X → Reader X) (code : ℕ) (front : List X) (n k : ℕ) (rs : List StreamRecord)
    (total : Result (List X × List StreamRecord) RecordError) (s : RecordError)
    → n ≡ suc k → has_next code rs ≡ true → next_at code rs ≡ Err s → GoesOn p code front n rs total → total ≡ Err s
unfolding until_at
ends_badly p code front n k [] total s more has is on = absurd cc
ends_badly p code front n k (d ∷ rs) total s more has is on =
    let one : with_front front (until_at p code (suc k) front (d ∷ rs)) ≡ Err s = rw (has, is) refl in
    sym on ∙ ap (λ (m : ℕ). with_front front (until_at p code m front (d ∷ rs))) more ∙ one

pub goes_on : {X : Type 0} (p : List X → Reader X) (code : ℕ) (front : List X) (n k : ℕ) (rs : List StreamRecord)
    (total : Result (List X × List StreamRecord) RecordError) (x : X) (rest : List StreamRecord)
    → ((seen : List X) → p seen [] ≡ Err Short) → n ≡ suc k → has_next code rs ≡ false → p front rs ≡ Ok (x, rest)
    → GoesOn p code front n rs total → GoesOn p code (front ++ x ∷ []) k rest total
unfolding until_at
goes_on {X} p code front n k [] total x rest empty more has is on =
    let both : ◌≡◌ {A = Result (X × List StreamRecord) RecordError} (Err Short) (Ok (x, rest)) = sym (empty front)
    ∙ is in absurd cc
goes_on p code front n k (d ∷ rs) total x rest empty more has is on =
    let one : with_front front (until_at p code (suc k) front (d ∷ rs))
    ≡ with_front (front ++ x ∷ []) (until_at p code k (front ++ x ∷ []) rest) =
    rw (has, is) (regroup front x (until_at p code k (front ++ x ∷ []) rest)) in
    sym one ∙ ap (λ (m : ℕ). with_front front (until_at p code m front (d ∷ rs))) (sym more) ∙ on

pub fails : {X : Type 0} (p : List X → Reader X) (code : ℕ) (front : List X) (n k : ℕ) (rs : List StreamRecord)
    (total : Result (List X × List StreamRecord) RecordError) (s : RecordError)
    → ((seen : List X) → p seen [] ≡ Err Short) → n ≡ suc k → has_next code rs ≡ false → p front rs ≡ Err s
    → GoesOn p code front n rs total → total ≡ Err s
unfolding until_at
fails {X} p code front n k [] total s empty more has is on =
    let both : ◌≡◌ {A = Result (X × List StreamRecord) RecordError} (Err Short) (Err s) = sym (empty front) ∙ is in
    let same : Short ≡ s = cc in
    sym on ∙ ap (λ (m : ℕ). with_front front (until_at p code m front [])) more ∙ ap (λ t. Err t) same
fails p code front n k (d ∷ rs) total s empty more has is on =
    let one : with_front front (until_at p code (suc k) front (d ∷ rs)) ≡ Err s = rw (has, is) refl in
    sym on ∙ ap (λ (m : ℕ). with_front front (until_at p code m front (d ∷ rs))) more ∙ one

pub runs_out : {X : Type 0} (p : List X → Reader X) (code : ℕ) (front : List X) (n : ℕ) (rs : List StreamRecord)
    (total : Result (List X × List StreamRecord) RecordError) → n ≡ 0 → GoesOn p code front n rs total
    → total ≡ Err Short
unfolding until_at
runs_out p code front n rs total none on = sym on ∙ ap (λ (m : ℕ). with_front front (until_at p code m front rs)) none
