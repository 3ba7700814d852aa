-- Two lists in order that hold the same things, each as often, are one list.
use Rattle.std.proofs.Common.{◌≡◌, ◌⊎◌, inl, inr, ℕ, zero, suc, ◌+◌, ◌<◌, ◌≤◌, List, [], ◌∷◌, Bool, true, false, cond, get_or, IsPermutation, IsSorted, refl, sym, ap, subst, ◌∙◌, arith}
use Rattle.std.specs.Prelude.{Contains}
use Rattle.std.specs.List.{sum_by}
use Rattle.std.specs.Cmp.{IsTotalOrder}
use Rattle.std.specs.Ordering.{is_lt, is_eq, ordering_reverse}
use Rattle.std.specs.declared.cmp.Ordering.{Ordering}
use Rattle.std.specs.declared.cmp.Ordering.TheVariants.{Less, Equal, Greater}
use Rattle.std.proofs.lemmas.List.Sorted.{ranks_by, sorted_far, sum_by-IsPermutation}
use Rattle.std.proofs.lemmas.List.Sums.{sum_by-cons}
use Rattle.or_geom.proofs.ListLaws.{contains_cases, contains_first, contains_later}

-- what compares as equal is one thing
abbrev pub IsExact : {X : Type 0} → (X → X → Ordering) → Type 0
IsExact {X} cmp = (x y : X) → cmp x y ≡ Equal → x ≡ y

abbrev mark : {X : Type 0} → (X → X → Ordering) → X → X → ℕ
mark cmp z x = cond (is_eq (cmp z x)) 1 0

-- how often something stands in a list
abbrev count : {X : Type 0} → (X → X → Ordering) → X → List X → ℕ
count cmp z xs = sum_by (mark cmp z) xs

own : (o : Ordering) → o ≡ ordering_reverse o → o ≡ Equal
own Less e = cc
own Equal e = refl
own Greater e = cc

counts_itself : {X : Type 0} (cmp : X → X → Ordering) → IsTotalOrder cmp → (x : X) → mark cmp x x ≡ 1
counts_itself cmp total x = ap (λ o. cond (is_eq o) 1 0) (own (cmp x x) (total.antisymm x x))

is_one : {X : Type 0} (cmp : X → X → Ordering) → IsExact cmp → (z x : X) (o : Ordering) → cmp z x ≡ o → 0 < cond (is_eq o) 1 0 → z ≡ x
is_one cmp exact z x Less e some = absurd (omega (arith, some))
is_one cmp exact z x Equal e some = exact z x e
is_one cmp exact z x Greater e some = absurd (omega (arith, some))

stands : {X : Type 0} (cmp : X → X → Ordering) → IsExact cmp → (z : X) (xs : List X) → 0 < count cmp z xs → Contains xs z
stands cmp exact z [] some = absurd (omega (arith, some))
stands cmp exact z (x ∷ xs) some = elim (first_or_later (mark cmp z x) (count cmp z xs) (subst (λ (n : ℕ). 0 < n) (sum_by-cons (mark cmp z) x xs) some)) [
  | inl here ↦ subst (λ (w : _). Contains (x ∷ xs) w) (sym (is_one cmp exact z x (cmp z x) refl here)) (contains_first x xs)
  | inr later ↦ contains_later x xs z (stands cmp exact z xs later)
]
  where
    first_or_later : (m n : ℕ) → 0 < m + n → (0 < m) ⊎ (0 < n)
    first_or_later zero n p = inr (omega (arith, p))
    first_or_later (suc m) n p = inl (omega arith)

-- nothing behind the first item comes before it
none_before : {X : Type 0} (cmp : X → X → Ordering) → IsTotalOrder cmp → (x : X) (xs : List X) → IsSorted cmp (x ∷ xs) → (z : X) → Contains xs z → is_lt (cmp z x) ≡ false
none_before cmp total x xs up z h =
    let lt = h.1 in
    subst (λ (w : _). is_lt (cmp w x) ≡ false) h.2 (sorted_far (λ a b. is_lt (cmp a b)) (ranks_by total (λ a. a)) (x ∷ xs) up 0 (suc h.0) z (omega arith) (omega (arith, lt)))

behind : {X : Type 0} (cmp : X → X → Ordering) (x : X) (xs : List X) → IsSorted cmp (x ∷ xs) → IsSorted cmp xs
behind cmp x xs up k d low high =
    subst (λ (n : ℕ). is_lt (cmp (get_or (x ∷ xs) n d) (get_or xs k d)) ≡ false) {x = suc k + 1} {y = suc (k + 1)} (omega arith) (up (suc k) d (omega arith) (omega (arith, high)))

neither : {X : Type 0} (cmp : X → X → Ordering) → IsTotalOrder cmp → (x y : X) → is_lt (cmp x y) ≡ false → is_lt (cmp y x) ≡ false → cmp x y ≡ Equal
neither cmp total x y a b = by_cases (cmp x y) (cmp y x) (total.antisymm y x) a b
  where
    by_cases : (o p : Ordering) → p ≡ ordering_reverse o → is_lt o ≡ false → is_lt p ≡ false → o ≡ Equal
    by_cases Less p e a b = cc
    by_cases Equal p e a b = refl
    by_cases Greater p e a b = let f : is_lt p ≡ true = ap is_lt e in cc

-- what holds the same as often has the same first item
first_is : {X : Type 0} (cmp : X → X → Ordering) → IsTotalOrder cmp → IsExact cmp → (x y : X) (xs ys : List X) → IsSorted cmp (x ∷ xs) → IsSorted cmp (y ∷ ys) → Contains (y ∷ ys) x → Contains (x ∷ xs) y → x ≡ y
first_is cmp total exact x y xs ys up also a b = elim (contains_cases y ys x a) [
  | inl e ↦ e
  | inr h ↦ elim (contains_cases x xs y b) [
    | inl e ↦ sym e
    | inr k ↦ exact x y (neither cmp total x y (none_before cmp total y ys also x h) (none_before cmp total x xs up y k))
  ]
]

some_of_it : {X : Type 0} (cmp : X → X → Ordering) → IsTotalOrder cmp → (x : X) (xs : List X) → 0 < count cmp x (x ∷ xs)
some_of_it cmp total x xs = let here = counts_itself cmp total x in let all = sum_by-cons (mark cmp x) x xs in omega (arith, here, all)

lists_are_one : {X : Type 0} (cmp : X → X → Ordering) → IsTotalOrder cmp → IsExact cmp → (xs ys : List X) → IsSorted cmp xs → IsSorted cmp ys → ((z : X) → count cmp z xs ≡ count cmp z ys) → xs ≡ ys
lists_are_one cmp total exact [] [] up also same = refl
lists_are_one cmp total exact [] (y ∷ ys) up also same = let some = some_of_it cmp total y ys in let e = same y in absurd (omega (arith, some, e))
lists_are_one cmp total exact (x ∷ xs) [] up also same = let some = some_of_it cmp total x xs in let e = same x in absurd (omega (arith, some, e))
lists_are_one {X} cmp total exact (x ∷ xs) (y ∷ ys) up also same =
    let there = stands cmp exact x (y ∷ ys) (subst (λ (n : ℕ). 0 < n) (same x) (some_of_it cmp total x xs)) in
    let back = stands cmp exact y (x ∷ xs) (subst (λ (n : ℕ). 0 < n) (sym (same y)) (some_of_it cmp total y ys)) in
    let e = first_is cmp total exact x y xs ys up also there back in
    let rest = lists_are_one cmp total exact xs ys (behind cmp x xs up) (behind cmp y ys also) (λ z. less z e) in
    ap (λ (z : X). z ∷ xs) e ∙ ap (λ (zs : List X). y ∷ zs) rest
  where
    less : (z : X) → x ≡ y → count cmp z xs ≡ count cmp z ys
    less z e =
        let a = sum_by-cons (mark cmp z) x xs in
        let b = sum_by-cons (mark cmp z) y ys in
        let c = same z in
        let d : mark cmp z x ≡ mark cmp z y = ap (mark cmp z) e in
        omega (arith, a, b, c, d)

-- a list has one list in order that holds what it holds
pub one_in_order : {X : Type 0} (cmp : X → X → Ordering) → IsTotalOrder cmp → IsExact cmp → (all xs ys : List X) → IsPermutation all xs → IsPermutation all ys → IsSorted cmp xs → IsSorted cmp ys → xs ≡ ys
one_in_order cmp total exact all xs ys a b up also =
    lists_are_one cmp total exact xs ys up also (λ z. sum_by-IsPermutation (mark cmp z) all xs a ∙ sym (sum_by-IsPermutation (mark cmp z) all ys b))
