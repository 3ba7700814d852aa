-- There is always one more name.
use Rattle.std.proofs.Common.{◌≡◌, ◌≢◌, ◌⊎◌, inl, inr, ℕ, zero, suc, ◌+◌, ◌-◌, ◌*◌, ◌/◌, ◌%◌, ◌<◌, ◌≤◌, ◌^◌, List, [], ◌∷◌, length, map, Bool, true, false, eqb, cond, leb, Some, refl, sym, ap, ◌∙◌, arith}
use Rattle.std.specs.List.{AllByRecursion, list_all}
use Rattle.std.proofs.lemmas.Bool.{eqb-true, eq-eqb, le-leb}
use Rattle.gds_library.specs.declared.library.Structure.{Structure}
use Rattle.gds_records.specs.Record.{record_of, is_formed, is_printable}
use Rattle.gds_records.specs.declared.code.TheConstants.{STRNAME}
use Rattle.gds_records.specs.Values.{string_of}

abbrev Lacks : ℕ → List ℕ → Type 0
Lacks k xs = AllByRecursion (λ x. x ≢ k) xs

abbrev without : ℕ → List ℕ → List ℕ
without m [] = []
without m (x ∷ xs) = cond (eqb x m) (without m xs) (x ∷ without m xs)

no_longer : (m : ℕ) (xs : List ℕ) → length (without m xs) ≤ length xs
no_longer m [] = omega arith
no_longer m (x ∷ xs) = elim (eqb x m) as (λ b. length (cond b (without m xs) (x ∷ without m xs)) ≤ length (x ∷ xs)) [
  | true ↦ omega (arith, no_longer m xs)
  | false ↦ omega (arith, no_longer m xs)
]

look_at : (m x : ℕ) (xs : List ℕ) (b : Bool) → eqb x m ≡ b → Lacks m xs ⊎ (length (without m xs) < length xs)
    → Lacks m (x ∷ xs) ⊎ (length (cond b (without m xs) (x ∷ without m xs)) < length (x ∷ xs))
look_at m x xs true is r = inr (omega (arith, no_longer m xs))
look_at m x xs false is (inl free) = inl (λ e. (let both : true ≡ false = sym (eq-eqb x m e) ∙ is in absurd cc), free)
look_at m x xs false is (inr less) = inr (omega (arith, less))

look : (m : ℕ) (xs : List ℕ) → Lacks m xs ⊎ (length (without m xs) < length xs)
look m [] = inl tt
look m (x ∷ xs) = look_at m x xs (eqb x m) refl (look m xs)

back_at : (m k x : ℕ) (xs : List ℕ) → k < m → (b : Bool) → eqb x m ≡ b → (Lacks k (without m xs) → Lacks k xs)
    → Lacks k (cond b (without m xs) (x ∷ without m xs)) → Lacks k (x ∷ xs)
back_at m k x xs lt true is f h = (λ e. let big : x ≡ m = eqb-true x m is in absurd (omega arith), f h)
back_at m k x xs lt false is f h = (h.0, f h.1)

back : (m k : ℕ) (xs : List ℕ) → k < m → Lacks k (without m xs) → Lacks k xs
back m k [] lt h = tt
back m k (x ∷ xs) lt h = back_at m k x xs lt (eqb x m) refl (back m k xs lt) h

fresh : (n : ℕ) (xs : List ℕ) → length xs < n → (k : ℕ) × (k < n) × Lacks k xs
fresh zero xs lt = absurd (omega arith)
fresh (suc m) xs lt = elim (look m xs) [
  | inl free ↦ (m, omega arith, free)
  | inr less ↦ let r = fresh m (without m xs) (omega (arith, less)) in (r.0, omega (arith, r.1), back m r.0 xs r.1 r.2)
]

-- a number as a text
digits : ℕ → ℕ → List ℕ
digits zero k = 65 ∷ 65 ∷ []
digits (suc n) k = (48 + k % 2) ∷ digits n (k / 2)

number : ℕ → List ℕ → ℕ
number zero cs = 0
number (suc n) [] = 0
number (suc n) (c ∷ cs) = (c - 48) + 2 * number n cs

twos : ℕ → ℕ
twos zero = 1
twos (suc n) = 2 * twos n

number_back : (n k : ℕ) → k < twos n → number n (digits n k) ≡ k
unfolding digits number twos
number_back zero k lt = omega arith
number_back (suc n) k lt = let below = number_back n (k / 2) (omega arith) in omega (arith, below)

printable : (n k : ℕ) → list_all is_printable (digits n k) ≡ true
unfolding digits
printable zero k = refl
printable (suc n) k =
    let low : leb 32 (48 + k % 2) ≡ true = le-leb _ _ (omega arith) in
    let high : leb (48 + k % 2) 126 ≡ true = le-leb _ _ (omega arith) in
    rw (low, high) (printable n (k / 2))

-- a text that none of these has
pub record IsFresh (before : List Structure) : Type 0 where
  pub name : List ℕ
  pub formed : is_formed (record_of true STRNAME name) ≡ true
  pub text : string_of name ≡ Some name
  pub other : AllByRecursion (λ (s : Structure). s.name ≢ name) before

others : (n : ℕ) (name : List ℕ) (k : ℕ) → number n name ≡ k → (before : List Structure)
    → Lacks k (map (λ (s : Structure). number n s.name) before)
    → AllByRecursion (λ (s : Structure). s.name ≢ name) before
others n name k is [] h = tt
others n name k is (s ∷ before) h = (λ e. h.0 (ap (number n) e ∙ is), others n name k is before h.1)

same_length : (n : ℕ) (before : List Structure)
    → length (map (λ (s : Structure). number n s.name) before) ≡ length before
same_length n [] = refl
same_length n (s ∷ before) = let e = same_length n before in omega (arith, e)

pub fresh_name : (before : List Structure) → length before < 2 ^ 64 → IsFresh before
unfolding digits number twos is_formed
fresh_name before lt =
    let r = fresh (2 ^ 64) (map (λ (s : Structure). number 64 s.name) before)
    (omega (arith, lt, same_length 64 before)) in
    record {
      name = digits 64 r.0;
      formed = printable 64 r.0;
      text = refl;
      other = others 64 (digits 64 r.0) r.0 (number_back 64 r.0 r.1) before r.2;
    }
