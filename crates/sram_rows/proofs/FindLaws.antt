-- Where names stand in a list.
use Rattle.std.proofs.Common.{◌≡◌, inl, inr, ℕ, suc, ◌+◌, ◌<◌, List, [], ◌∷◌, ◌++◌, length, get_or, Bool, true, false, cond, None, Some, is_some, refl, sym, ap, ◌∙◌, arith}
use Rattle.std.specs.List.{position_from}
use Rattle.std.specs.Cmp.Lexicographic.{same_text}
use Rattle.spice_netlist.specs.Names.{same_name}
use Rattle.or_geom.proofs.NamePlaceLaws.{same_self}
use Rattle.row_laws.proofs.LookLaws.{IsOneOf, AreOther}

pub find_past : (t : List ℕ → Bool) (i : ℕ) (xs ys : List (List ℕ)) → position_from t i xs ≡ None → position_from t i (xs ++ ys) ≡ position_from t (i + length xs) ys
find_past t i [] ys none = ap (λ (n : ℕ). position_from t n ys) (omega arith)
find_past t i (x ∷ xs) ys none = by (t x) none (find_past t (i + 1) xs ys)
  where
    by : (b : Bool) → cond b (Some i) (position_from t (i + 1) xs) ≡ None → (position_from t (i + 1) xs ≡ None → position_from t (i + 1) (xs ++ ys) ≡ position_from t (i + 1 + length xs) ys)
        → cond b (Some i) (position_from t (i + 1) (xs ++ ys)) ≡ position_from t (i + suc (length xs)) ys
    by true e more = absurd cc
    by false e more = more e ∙ ap (λ (n : ℕ). position_from t n ys) (omega arith)

pub find_kept : (t : List ℕ → Bool) (i k : ℕ) (xs ys : List (List ℕ)) → position_from t i xs ≡ Some k → position_from t i (xs ++ ys) ≡ Some k
find_kept t i k [] ys some = absurd cc
find_kept t i k (x ∷ xs) ys some = by (t x) some (find_kept t (i + 1) k xs ys)
  where
    by : (b : Bool) → cond b (Some i) (position_from t (i + 1) xs) ≡ Some k → (position_from t (i + 1) xs ≡ Some k → position_from t (i + 1) (xs ++ ys) ≡ Some k) → cond b (Some i) (position_from t (i + 1) (xs ++ ys)) ≡ Some k
    by true e more = e
    by false e more = more e

pub find_shift : (t : List ℕ → Bool) (j i k : ℕ) (xs : List (List ℕ)) → position_from t i xs ≡ Some k → position_from t (j + i) xs ≡ Some (j + k)
find_shift t j i k [] some = absurd cc
find_shift t j i k (x ∷ xs) some = by (t x) some (find_shift t j (i + 1) k xs)
  where
    by : (b : Bool) → cond b (Some i) (position_from t (i + 1) xs) ≡ Some k → (position_from t (i + 1) xs ≡ Some k → position_from t (j + (i + 1)) xs ≡ Some (j + k)) → cond b (Some (j + i)) (position_from t (j + i + 1) xs) ≡ Some (j + k)
    by true e more = let same_name : i ≡ k = cc in ap (λ (n : ℕ). Some (j + n)) same_name
    by false e more = ap (λ (n : ℕ). position_from t n xs) (omega arith) ∙ more e

-- the name stands at the index that was found
pub record IsSpot (n : List ℕ) (xs : List (List ℕ)) (i index : ℕ) : Type 0 where
  pub at : ℕ
  pub is : index ≡ i + at
  pub within : at < length xs
  pub name : get_or xs at [] ≡ n

pub spot : (n : List ℕ) (xs : List (List ℕ)) (i index : ℕ) → position_from (same_name n) i xs ≡ Some index → IsSpot n xs i index
spot n [] i index some = absurd cc
spot n (x ∷ xs) i index some = by (same_name n x) refl some (spot n xs (i + 1) index)
  where
    by : (b : Bool) → same_name n x ≡ b → cond b (Some i) (position_from (same_name n) (i + 1) xs) ≡ Some index → (position_from (same_name n) (i + 1) xs ≡ Some index → IsSpot n xs (i + 1) index) → IsSpot n (x ∷ xs) i index
    by true is e more = let here : i ≡ index = cc in record { at = 0; is = omega (arith, here); within = omega arith; name = sym (same_text n x (sym is)) }
    by false is e more = let s = more e in let at = s.is in let lt = s.within in record { at = suc s.at; is = omega (arith, at); within = omega (arith, lt); name = s.name }

pub find_none : (n : List ℕ) (i : ℕ) (xs : List (List ℕ)) → AreOther n xs → position_from (same_name n) i xs ≡ None
find_none n i [] other = refl
find_none n i (x ∷ xs) other = ap (λ (b : Bool). cond b (Some i) (position_from (same_name n) (i + 1) xs)) other.0 ∙ find_none n (i + 1) xs other.1

pub find_some : (n : List ℕ) (i : ℕ) (xs : List (List ℕ)) → IsOneOf n xs → is_some (position_from (same_name n) i xs) ≡ true
find_some n i [] is = absurd is
find_some n i (x ∷ xs) (inl e) = ap (λ (b : Bool). is_some (cond b (Some i) (position_from (same_name n) (i + 1) xs))) (ap (same_name n) (sym e) ∙ same_self n)
find_some n i (x ∷ xs) (inr is) = by (same_name n x) (find_some n (i + 1) xs is)
  where
    by : (b : Bool) → is_some (position_from (same_name n) (i + 1) xs) ≡ true → is_some (cond b (Some i) (position_from (same_name n) (i + 1) xs)) ≡ true
    by true e = refl
    by false e = e
