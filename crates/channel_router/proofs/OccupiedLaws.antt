-- Sets of tracks as lists in order.
use Rattle.std.proofs.Common.{◌≡◌, ◌⊎◌, inl, inr, ℕ, ◌<◌, ℤ, ◌≤ℤ◌, List, [], ◌∷◌, false, refl, sym, arith}
use Rattle.std.specs.Prelude.{Contains}
use Rattle.std.specs.Ordering.{int_cmp, nat_cmp, ordering_then, is_gt, match_ordering}
use Rattle.std.specs.BTreeSet.{insert_key}
use Rattle.std.specs.declared.cmp.Ordering.{Ordering}
use Rattle.std.specs.declared.cmp.Ordering.TheVariants.{Less, Equal, Greater}
use Rattle.std.proofs.lemmas.Cmp.{int_ranked, ranked}
use Rattle.std.proofs.lemmas.Int.{ints}
use Rattle.or_geom.proofs.ListLaws.{contains_cases, contains_first, contains_here, contains_later, contains_none}

pub insert_cases : {K : Type 0} (cmp : K → K → Ordering) (ks : List K) (k x : K) → Contains (insert_key cmp ks k) x → (x ≡ k) ⊎ Contains ks x
insert_cases cmp [] k x h = contains_cases k [] x h
insert_cases {K} cmp (y ∷ ys) k x h = by (cmp k y) (insert_cases cmp ys k x) h where
  by : (o : Ordering) → (Contains (insert_key cmp ys k) x → (x ≡ k) ⊎ Contains ys x) → Contains (match_ordering o (k ∷ y ∷ ys) (y ∷ ys) (y ∷ insert_key cmp ys k)) x → (x ≡ k) ⊎ Contains (y ∷ ys) x
  by Less more h = contains_cases k (y ∷ ys) x h
  by Equal more h = inr h
  by Greater more h = elim (contains_cases y (insert_key cmp ys k) x h) [
    | inl e ↦ inr (contains_here y ys x e)
    | inr t ↦ elim (more t) [ inl e ↦ inl e | inr u ↦ inr (contains_later y ys x u) ]
  ]

pub insert_keeps : {K : Type 0} (cmp : K → K → Ordering) (ks : List K) (k x : K) → Contains ks x → Contains (insert_key cmp ks k) x
insert_keeps cmp [] k x h = absurd (contains_none x h)
insert_keeps {K} cmp (y ∷ ys) k x h = by (cmp k y) (insert_keeps cmp ys k x) where
  by : (o : Ordering) → (Contains ys x → Contains (insert_key cmp ys k) x) → Contains (match_ordering o (k ∷ y ∷ ys) (y ∷ ys) (y ∷ insert_key cmp ys k)) x
  by Less more = contains_later k (y ∷ ys) x h
  by Equal more = h
  by Greater more = elim (contains_cases y ys x h) [ inl e ↦ contains_here y (insert_key cmp ys k) x e | inr t ↦ contains_later y (insert_key cmp ys k) x (more t) ]

pub insert_has : {K : Type 0} (cmp : K → K → Ordering) → ((x y : K) → cmp x y ≡ Equal → x ≡ y) → (ks : List K) (k : K) → Contains (insert_key cmp ks k) k
insert_has cmp exact [] k = contains_first k []
insert_has {K} cmp exact (y ∷ ys) k = by (cmp k y) refl (insert_has cmp exact ys k) where
  by : (o : Ordering) → cmp k y ≡ o → Contains (insert_key cmp ys k) k → Contains (match_ordering o (k ∷ y ∷ ys) (y ∷ ys) (y ∷ insert_key cmp ys k)) k
  by Less is more = contains_first k (y ∷ ys)
  by Equal is more = contains_here y ys k (exact k y is)
  by Greater is more = contains_later y (insert_key cmp ys k) k more

pub nat_exact : (x y : ℕ) → nat_cmp x y ≡ Equal → x ≡ y
nat_exact x y is = ranked x y Equal (sym is)

abbrev pub pair_cmp : ℤ × ℕ → ℤ × ℕ → Ordering
pair_cmp a b = ordering_then (int_cmp a.0 b.0) (nat_cmp a.1 b.1)

pub pair_exact : (x y : ℤ × ℕ) → pair_cmp x y ≡ Equal → x ≡ y
pair_exact x y is = by (int_cmp x.0 y.0) refl is where
  by : (o : Ordering) → o ≡ int_cmp x.0 y.0 → ordering_then o (nat_cmp x.1 y.1) ≡ Equal → x ≡ y
  by Less e is = absurd cc
  by Equal e is = let f = int_ranked x.0 y.0 Equal e in let g = nat_exact x.1 y.1 is in λ i. (f i, g i)
  by Greater e is = absurd cc

-- what is not greater has no greater first part
pub first_le : (x y : ℤ × ℕ) → is_gt (pair_cmp x y) ≡ false → x.0 ≤ℤ y.0
first_le x y is = by (int_cmp x.0 y.0) refl is where
  by : (o : Ordering) → o ≡ int_cmp x.0 y.0 → is_gt (ordering_then o (nat_cmp x.1 y.1)) ≡ false → x.0 ≤ℤ y.0
  by Less e is = let lt = int_ranked x.0 y.0 Less e in omega (arith, ints, lt)
  by Equal e is = let same = int_ranked x.0 y.0 Equal e in omega (arith, ints, same)
  by Greater e is = absurd cc

pub less_from : (x y : ℕ) → nat_cmp x y ≡ Less → x < y
less_from x y is = ranked x y Less (sym is)
