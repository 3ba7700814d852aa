-- The records of some bytes, one after the other.
use Rattle.std.proofs.Common.{◌≡◌, ℕ, zero, suc, ◌+◌, ◌-◌, ◌*◌, ◌%◌, ◌<◌, ◌≤◌, List, [], ◌∷◌, length, take, drop, Bool, true, false, cond, ◌&&◌, leb, eqb, Option, Some, None, Result, Err, refl, sym, ap, subst, ◌∙◌, arith}
use Rattle.std.proofs.lemmas.List.{length-drop, length-take}
use Rattle.std.proofs.lemmas.Option.{same_Some}
use borrow.Author.Tests.{leb-true}
use Rattle.gds_records.specs.Record.{StreamRecord, record_of}
use Rattle.gds_records.specs.Bytes.{cut, broken_record, records_more, records_at, records_of, byte_length, record_size, Fails}
use Rattle.gds_records.specs.declared.error.RecordError.{RecordError}
use Rattle.gds_records.specs.declared.error.RecordError.TheVariants.{Short, At, Memory}

-- what is cut off is taken away, and nothing else
record Divides (bytes : List ℕ) (p : StreamRecord × List ℕ) : Type 0 where
  sum : record_size p.0 + length p.1 ≡ length bytes
  some : 0 < record_size p.0

broken_divides : (b : ℕ) (bytes : List ℕ) → Divides (b ∷ bytes) (broken_record (b ∷ bytes), [])
broken_divides b bytes = record { sum = omega arith; some = omega arith }

whole_divides : (code size : ℕ) (a b c d : ℕ) (rest : List ℕ) → 4 ≤ size → size ≤ length rest + 4
    → Divides (a ∷ b ∷ c ∷ d ∷ rest) (record_of true code (take (size - 4) rest), drop (size - 4) rest)
whole_divides code size a b c d rest low high =
    record { sum = omega (arith, length-drop (size - 4) rest, length-take (size - 4) rest); some = omega arith }

-- what holds of both choices holds of the one that is taken
pub chosen : {Y : Type 0} (P : Y → Type 0) (x y p : Y) (low even high : Bool)
    → cond (low && (even && high)) (Some x) (Some y) ≡ Some p → (low ≡ true → high ≡ true → P x) → P y → P p
chosen P x y p false even high is f g = subst P (same_Some y p is) g
chosen P x y p true false high is f g = subst P (same_Some y p is) g
chosen P x y p true true false is f g = subst P (same_Some y p is) g
chosen P x y p true true true is f g = subst P (same_Some x p is) (f refl refl)

divides : (bytes : List ℕ) (p : StreamRecord × List ℕ) → cut bytes ≡ Some p → Divides bytes p
unfolding cut
divides [] p is = absurd cc
divides (a ∷ []) p is = subst (Divides (a ∷ [])) (same_Some _ p is) (broken_divides a [])
divides (a ∷ b ∷ []) p is = subst (Divides (a ∷ b ∷ [])) (same_Some _ p is) (broken_divides a (b ∷ []))
divides (a ∷ b ∷ c ∷ []) p is = subst (Divides (a ∷ b ∷ c ∷ [])) (same_Some _ p is) (broken_divides a (b ∷ c ∷ []))
divides (a ∷ b ∷ c ∷ d ∷ rest) p is =
    chosen (Divides (a ∷ b ∷ c ∷ d ∷ rest)) _ _ p (leb 4 (256 * a + b)) (eqb (b % 2) 0)
    (leb (256 * a + b) (length rest + 4)) is
    (λ low high. whole_divides (256 * c + d) (256 * a + b) a b c d rest (leb-true _ _ low) (leb-true _ _ high))
    (broken_divides a (b ∷ c ∷ d ∷ rest))

pub shorter_cut : (bytes : List ℕ) (e : StreamRecord) (rest : List ℕ) → cut bytes ≡ Some (e, rest)
    → length rest < length bytes
shorter_cut bytes e rest is = let d = divides bytes (e, rest) is in omega (arith, d.sum, d.some)

nil_cut : cut [] ≡ None
unfolding cut
nil_cut = refl

no_choice : {A : Type 0} (low even high : Bool) (x y : A) → cond (low && (even && high)) (Some x) (Some y) ≡ None → ⊥
no_choice false even high x y is = absurd cc
no_choice true false high x y is = absurd cc
no_choice true true false x y is = absurd cc
no_choice true true true x y is = absurd cc

-- no bytes are left where nothing is cut off
pub some_cut : (b : ℕ) (bytes : List ℕ) → cut (b ∷ bytes) ≡ None → ⊥
unfolding cut
some_cut a [] is = absurd cc
some_cut a (b ∷ []) is = absurd cc
some_cut a (b ∷ c ∷ []) is = absurd cc
some_cut a (b ∷ c ∷ d ∷ rest) is =
    no_choice (leb 4 (256 * a + b)) (eqb (b % 2) 0) (leb (256 * a + b) (length rest + 4)) _ _ is

enough_at : (n m : ℕ) (bytes : List ℕ) (c : Option (StreamRecord × List ℕ)) → cut bytes ≡ c → length bytes ≤ suc n
    → length bytes ≤ suc m
    → ((rest : List ℕ) → length rest ≤ n → length rest ≤ m → records_at n rest ≡ records_at m rest)
    → records_more (records_at n) c ≡ records_more (records_at m) c
enough_at n m bytes None is a b f = refl
enough_at n m bytes (Some p) is a b f =
    let less = shorter_cut bytes p.0 p.1 is in
    ap (λ (l : List StreamRecord). p.0 ∷ l) (f p.1 (omega (arith, less)) (omega (arith, less)))

enough : (n m : ℕ) (bytes : List ℕ) → length bytes ≤ n → length bytes ≤ m → records_at n bytes ≡ records_at m bytes
enough zero zero bytes a b = refl
enough zero (suc m) [] a b = rw nil_cut refl
enough zero (suc m) (x ∷ bytes) a b = absurd (omega arith)
enough (suc n) zero [] a b = rw nil_cut refl
enough (suc n) zero (x ∷ bytes) a b = absurd (omega arith)
enough (suc n) (suc m) bytes a b = enough_at n m bytes (cut bytes) refl a b (λ rest. enough n m rest)

pub none_left : (bytes : List ℕ) → cut bytes ≡ None → records_of bytes ≡ []
unfolding records_of
none_left [] is = refl
none_left (b ∷ bytes) is = ap (records_more (records_at (length bytes))) is

pub one_more : (bytes : List ℕ) (e : StreamRecord) (rest : List ℕ) → cut bytes ≡ Some (e, rest)
    → records_of bytes ≡ e ∷ records_of rest
unfolding records_of
one_more [] e rest is = let both : ◌≡◌ {A = Option (StreamRecord × List ℕ)} None (Some (e, rest)) = sym nil_cut
    ∙ is in absurd cc
one_more (b ∷ bytes) e rest is =
    let less = shorter_cut (b ∷ bytes) e rest is in
    ap (records_more (records_at (length bytes))) is
    ∙ ap (λ (l : List StreamRecord). e ∷ l)
    (enough (length bytes) (length rest) rest (omega (arith, less)) (omega arith))

-- the records have as many bytes as there are
full_at : (n : ℕ) (bytes : List ℕ) (c : Option (StreamRecord × List ℕ)) → cut bytes ≡ c → length bytes ≤ suc n
    → ((rest : List ℕ) → length rest ≤ n → byte_length (records_at n rest) ≡ length rest)
    → byte_length (records_more (records_at n) c) ≡ length bytes
unfolding byte_length
full_at n [] None is le f = refl
full_at n (b ∷ bytes) None is le f = absurd (some_cut b bytes is)
full_at n bytes (Some p) is le f =
    let d = divides bytes p is in
    let h = f p.1 (omega (arith, d.sum, d.some)) in
    omega (arith, d.sum, h)

full : (n : ℕ) (bytes : List ℕ) → length bytes ≤ n → byte_length (records_at n bytes) ≡ length bytes
unfolding byte_length
full zero [] le = refl
full zero (b ∷ bytes) le = absurd (omega arith)
full (suc n) bytes le = full_at n bytes (cut bytes) refl le (λ rest. full n rest)

pub all_left : (bytes : List ℕ) → byte_length (records_of bytes) ≡ length bytes
unfolding records_of
all_left bytes = full (length bytes) bytes (omega arith)

-- what stops a part stops the whole
pub pass_on : {Y W : Type 0} (s : RecordError) (read : Result (Y × List StreamRecord) RecordError)
    (total : Result (W × List StreamRecord) RecordError)
    → Fails s read → ((t : RecordError) → read ≡ Err t → total ≡ Err t) → Fails s total
pass_on Memory read total h k = tt
pass_on Short read total h k = k Short h
pass_on (At left code fault) read total h k = k (At left code fault) h

-- there are no more records than bytes
few_at : (n : ℕ) (c : Option (StreamRecord × List ℕ)) → ((rest : List ℕ) → length (records_at n rest) ≤ n)
    → length (records_more (records_at n) c) ≤ suc n
few_at n None f = omega arith
few_at n (Some p) f = let below = f p.1 in omega (arith, below)

few : (n : ℕ) (bytes : List ℕ) → length (records_at n bytes) ≤ n
few zero bytes = omega arith
few (suc n) bytes = few_at n (cut bytes) (λ rest. few n rest)

pub few_records : (bytes : List ℕ) → length (records_of bytes) ≤ length bytes
unfolding records_of
few_records bytes = few (length bytes) bytes
