-- The numbers from one to another, in order.
use Rattle.std.proofs.Common.{◌≡◌, ℕ, zero, suc, ◌-◌, ◌+◌, ◌<◌, ◌≤◌, List, [], ◌∷◌, ◌++◌, sym, ap, subst, ◌∙◌, arith}
use Rattle.std.specs.Prelude.{Contains}
use Rattle.std.specs.List.{range_with_len}
use Rattle.std.proofs.lemmas.List.FromFn.{length-range_with_len, get_or-range_with_len}

-- one number more
pub range_more : (a n next : ℕ) → a + n ≡ next → range_with_len a (suc n) ≡ range_with_len a n ++ next ∷ []
range_more a zero next is = let same : a ≡ next = omega (arith, is) in ap (λ (k : ℕ). k ∷ []) same
range_more a (suc n) next is = ap (λ (l : List ℕ). a ∷ l) (range_more (a + 1) n next (omega (arith, is)))

-- a number of the range is not below its begin, and below its end
pub in_range : (begin n place : ℕ) → Contains (range_with_len begin n) place → (begin ≤ place) × (place < begin + n)
in_range begin n place h =
    let lt : h.0 < n = subst (λ (k : ℕ). h.0 < k) (length-range_with_len begin n) h.1 in
    let at : begin + h.0 ≡ place = sym (get_or-range_with_len begin n h.0 place lt) ∙ h.2 in
    (omega arith, omega arith)

-- and each such number is one of it
pub range_has : (begin n place : ℕ) → begin ≤ place → place < begin + n → Contains (range_with_len begin n) place
range_has begin n place above below =
    let lt : (place - begin) < n = omega (arith, above, below) in
    let at : begin + (place - begin) ≡ place = omega (arith, above) in
    (place - begin, subst (λ (k : ℕ). (place - begin) < k) (sym (length-range_with_len begin n)) lt, get_or-range_with_len begin n (place - begin) place lt ∙ at)
