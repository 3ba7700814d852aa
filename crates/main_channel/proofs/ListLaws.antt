-- What stands where in lists.
use Rattle.std.proofs.Common.{◌≡◌, ◌⊎◌, inl, inr, ℕ, zero, suc, ◌+◌, ◌<◌, List, [], ◌∷◌, ◌++◌, map, length, Option, Some, None, true, is_some, refl, ap, sym, ◌∙◌, zero-add, arith}
use Rattle.std.specs.Prelude.{slice_get}
use Rattle.std.specs.List.{AllByRecursion}
use Rattle.or_geom.proofs.ListLaws.{all_contained, contained_at}
use Rattle.row_laws.proofs.LookLaws.{IsOneOf}
use Rattle.sram_netlist.specs.InstanceList.{numbers_from, tabulate}
use Rattle.sram_rows.proofs.DifferLaws.{DifferBy}

pub exists_in : {X : Type 0} (xs : List X) (k : ℕ) → k < length xs → (x : X) × (slice_get xs k ≡ Some x)
exists_in [] k lt = absurd (omega (arith, lt))
exists_in (x ∷ xs) zero lt = (x, refl)
exists_in (x ∷ xs) (suc k) lt = exists_in xs k (omega (arith, lt))

pub in_front : {X : Type 0} (xs ys : List X) (i : ℕ) (x : X) → slice_get xs i ≡ Some x → slice_get (xs ++ ys) i ≡ Some x
in_front [] ys i x at = absurd cc
in_front (x ∷ xs) ys zero y at = at
in_front (x ∷ xs) ys (suc i) y at = in_front xs ys i y at

pub behind_all : {X : Type 0} (xs ys : List X) (n i : ℕ) → n ≡ length xs + i → slice_get (xs ++ ys) n ≡ slice_get ys i
behind_all [] ys n i e = ap (slice_get ys) (let same : n ≡ i = omega (arith, e) in same)
behind_all (x ∷ xs) ys zero i e = absurd (omega (arith, e))
behind_all (x ∷ xs) ys (suc n) i e = behind_all xs ys n i (omega (arith, e))

-- at an index behind the first of two lists
pub record IsBehind {X : Type 0} (xs ys : List X) (i : ℕ) (x : X) : Type 0 where
  pub index : ℕ
  pub sum : i ≡ length xs + index
  pub at : slice_get ys index ≡ Some x

pub split_at : {X : Type 0} (xs ys : List X) (i : ℕ) (x : X) → slice_get (xs ++ ys) i ≡ Some x → (slice_get xs i ≡ Some x) ⊎ IsBehind xs ys i x
split_at [] ys i x at = inr (record { index = i; sum = omega arith; at = at })
split_at (y ∷ xs) ys zero x at = inl at
split_at (y ∷ xs) ys (suc i) x at = elim (split_at xs ys i x at) [
  | inl here ↦ inl here
  | inr b ↦ let sum = b.sum in inr (record { index = b.index; sum = omega (arith, sum); at = b.at })
]

table_at : {X : Type 0} (f : ℕ → X) (k n i : ℕ) (x : X) → slice_get (map f (numbers_from k n)) i ≡ Some x → (x ≡ f (k + i)) × (i < n)
table_at f k zero i x at = absurd cc
table_at f k (suc n) zero x at = (let e : f k ≡ x = cc in sym e ∙ ap f (omega arith), omega arith)
table_at f k (suc n) (suc i) x at = let r = table_at f (suc k) n i x at in let lt = r.1 in (r.0 ∙ ap f (omega arith), omega (arith, lt))

pub in_table : {X : Type 0} (n : ℕ) (f : ℕ → X) (i : ℕ) (x : X) → slice_get (tabulate n f) i ≡ Some x → (x ≡ f i) × (i < n)
in_table n f i x at = let r = table_at f 0 n i x at in (r.0 ∙ ap f (zero-add i), r.1)

table_has : {X : Type 0} (f : ℕ → X) (k n i : ℕ) → i < n → slice_get (map f (numbers_from k n)) i ≡ Some (f (k + i))
table_has f k zero i lt = absurd (omega (arith, lt))
table_has f k (suc n) zero lt = ap (λ (m : ℕ). Some (f m)) (omega arith)
table_has f k (suc n) (suc i) lt = table_has f (suc k) n i (omega (arith, lt)) ∙ ap (λ (m : ℕ). Some (f m)) (omega arith)

pub table_there : {X : Type 0} (n : ℕ) (f : ℕ → X) (i : ℕ) → i < n → slice_get (tabulate n f) i ≡ Some (f i)
table_there n f i lt = table_has f 0 n i lt ∙ ap (λ (m : ℕ). Some (f m)) (zero-add i)

pub all_at : {X : Type 0} (P : X → Type 0) (xs : List X) (i : ℕ) (x : X) → AllByRecursion P xs → slice_get xs i ≡ Some x → P x
all_at P xs i x all at = all_contained P xs x all (contained_at xs i x at)

pub one_there : {X : Type 0} (xs : List X) (i : ℕ) (x : X) → slice_get xs i ≡ Some x → IsOneOf x xs
one_there [] i x at = absurd cc
one_there (y ∷ xs) zero x at = inl (let e : x ≡ y = cc in e)
one_there (y ∷ xs) (suc i) x at = inr (one_there xs i x at)

pub value_of : (o : Option ℕ) → is_some o ≡ true → (j : ℕ) × (o ≡ Some j)
value_of None e = absurd cc
value_of (Some j) e = (j, refl)

-- items that names tell apart stand once
pub differ_once : {X : Type 0} (name : X → List ℕ) (xs : List X) (i j : ℕ) (x y : X) → DifferBy name xs → slice_get xs i ≡ Some x → slice_get xs j ≡ Some y → name x ≡ name y → i ≡ j
differ_once name [] i j x y d ati atj e = absurd cc
differ_once name (z ∷ zs) zero zero x y d ati atj e = refl
differ_once name (z ∷ zs) zero (suc j) x y d ati atj e =
    let is : z ≡ x = cc in
    absurd (all_at (λ w. name z ≡ name w → ⊥) zs j y d.0 atj (ap name is ∙ e))
differ_once name (z ∷ zs) (suc i) zero x y d ati atj e =
    let is : z ≡ y = cc in
    absurd (all_at (λ w. name z ≡ name w → ⊥) zs i x d.0 ati (ap name is ∙ sym e))
differ_once name (z ∷ zs) (suc i) (suc j) x y d ati atj e = ap suc (differ_once name zs i j x y d.1 ati atj e)

-- what an item of a mapped list comes from
pub record IsFrom {X Y : Type 0} (f : X → Y) (xs : List X) (i : ℕ) (y : Y) : Type 0 where
  pub item : X
  pub at : slice_get xs i ≡ Some item
  pub is : y ≡ f item

pub comes_from : {X Y : Type 0} (f : X → Y) (xs : List X) (i : ℕ) (y : Y) → slice_get (map f xs) i ≡ Some y → IsFrom f xs i y
comes_from f [] i y at = absurd cc
comes_from f (x ∷ xs) zero y at = record { item = x; at = refl; is = (let e : f x ≡ y = cc in sym e) }
comes_from f (x ∷ xs) (suc i) y at = let r = comes_from f xs i y at in record { item = r.item; at = r.at; is = r.is }
