-- How often things stand in two lists that are in order.
use Rattle.std.proofs.Common.{◌≡◌, ◌≢◌, ◌⊎◌, inl, inr, ℕ, ◌+◌, ◌<◌, Bool, true, false, cond, List, [], ◌∷◌, length, get_or, take, drop, Some, refl, sym, ap, subst, ◌∙◌, arith}
use Rattle.std.specs.Prelude.{Contains, count_by, slice_get}
use Rattle.std.specs.Ordering.{ordering_reverse, eq_by_cmp, is_lt, is_eq}
use Rattle.std.specs.Cmp.{IsTotalOrder, Equal-is}
use Rattle.std.specs.List.Sorted.{IsSorted, IsPermutation}
use Rattle.std.specs.declared.cmp.Ordering.{Ordering}
use Rattle.std.specs.declared.cmp.Ordering.TheVariants.{Less, Equal, Greater}
use Rattle.std.proofs.lemmas.Bool.{cases_lt}
use Rattle.std.proofs.lemmas.Cmp.{tied_itself, alike_right}
use Rattle.std.proofs.lemmas.List.{length-drop, get_or-drop, drop_more}
use Rattle.std.proofs.lemmas.List.Sorted.{sorted_far, ranks_by, sum_by-IsPermutation}
use Rattle.std.proofs.lemmas.List.Sums.{sum_by-cons, sum_by-take-drop}
use Rattle.std.proofs.lemmas.Option.{slice_get_within, get_or_from_slice_get, slice_get-get_or}
use Rattle.or_geom.proofs.ListLaws.{contains_first, contains_later}

counted_cons : {X : Type 0} (p : X → Bool) (x : X) (xs : List X) → count_by p (x ∷ xs) ≡ cond (p x) 1 0 + count_by p xs
counted_cons p x xs = sum_by-cons (λ y. cond (p y) 1 0) x xs

-- nothing is counted where nothing passes
none_counted : {X : Type 0} (p : X → Bool) (xs : List X) → ((y : X) → Contains xs y → p y ≡ false) → count_by p xs ≡ 0
none_counted p [] none = refl
none_counted p (x ∷ xs) none =
    let rest = none_counted p xs (λ y there. none y (contains_later x xs y there)) in
    let first = counted_cons p x xs ∙ ap (λ b. cond b 1 0 + count_by p xs) (none x (contains_first x xs)) in
    omega (arith, rest, first)

-- an item of the list that passes
record Passes {X : Type 0} (p : X → Bool) (xs : List X) : Type 0 where
  item : X
  there : Contains xs item
  passes : p item ≡ true

passes_by : {X : Type 0} (p : X → Bool) (x : X) (xs : List X) (b : Bool) → p x ≡ b → 0 < count_by p (x ∷ xs) → (0 < count_by p xs → Passes p xs) → Passes p (x ∷ xs)
passes_by p x xs true is some later = record { item = x; there = contains_first x xs; passes = is }
passes_by p x xs false is some later =
    let same = counted_cons p x xs ∙ ap (λ b. cond b 1 0 + count_by p xs) is in
    let found = later (omega (arith, some, same)) in
    record { item = found.item; there = contains_later x xs found.item found.there; passes = found.passes }

-- what is counted is there
some_counted : {X : Type 0} (p : X → Bool) (xs : List X) → 0 < count_by p xs → Passes p xs
some_counted p [] some = absurd (omega (arith, some))
some_counted p (x ∷ xs) some = passes_by p x xs (p x) refl some (some_counted p xs)

-- how often it stands there
abbrev often : {X : Type 0} → (X → X → Ordering) → X → List X → ℕ
often cmp x xs = count_by (eq_by_cmp cmp x) xs

-- an order whose ties are one thing
pub record TellsApart {X : Type 0} (cmp : X → X → Ordering) : Type 0 where
  pub total : IsTotalOrder cmp
  pub exact : (x y : X) → cmp x y ≡ Equal → x ≡ y

never_before_and_tied : (o : Ordering) → o ≡ Less → is_eq o ≡ false
never_before_and_tied o less = rw less refl

less_everywhere : {X : Type 0} (cmp : X → X → Ordering) (x : X) (ys : List X) → ((y : X) → Contains ys y → cmp x y ≡ Less) → often cmp x ys ≡ 0
less_everywhere cmp x ys before = none_counted (eq_by_cmp cmp x) ys (λ y there. never_before_and_tied (cmp x y) (before y there))

stands_first : {X : Type 0} (cmp : X → X → Ordering) → IsTotalOrder cmp → (x : X) (xs : List X) → 0 < often cmp x (x ∷ xs)
stands_first cmp total x xs =
    let tied : eq_by_cmp cmp x x ≡ true = ap is_eq (tied_itself total x) in
    let more = counted_cons (eq_by_cmp cmp x) x xs ∙ ap (λ b. cond b 1 0 + often cmp x xs) tied in
    omega (arith, more)

is_there : {X : Type 0} (cmp : X → X → Ordering) → TellsApart cmp → (x : X) (xs : List X) → 0 < often cmp x xs → Contains xs x
is_there cmp tells x xs some =
    let found = some_counted (eq_by_cmp cmp x) xs some in
    subst (Contains xs) (sym (tells.exact x found.item ((Equal-is (cmp x found.item)).0 found.passes))) found.there

-- what stands unequally often in two lists stands in one of them
in_one : {X : Type 0} (cmp : X → X → Ordering) → TellsApart cmp → (x : X) (xs ys : List X) → often cmp x xs ≢ often cmp x ys → Contains xs x ⊎ Contains ys x
in_one cmp tells x xs ys odd = elim (cases_lt 0 (often cmp x xs)) [
  | inl some ↦ inl (is_there cmp tells x xs some)
  | inr none ↦ elim (cases_lt 0 (often cmp x ys)) [
    | inl some ↦ inr (is_there cmp tells x ys some)
    | inr none_too ↦ absurd (odd (omega (arith, none, none_too)))
  ]
]

not_greater : (o turned : Ordering) → o ≡ ordering_reverse turned → is_lt turned ≡ false → o ≢ Greater
not_greater Less turned e less = λ is. absurd cc
not_greater Equal turned e less = λ is. absurd cc
not_greater Greater Less e less = λ is. absurd cc
not_greater Greater Equal e less = λ is. absurd cc
not_greater Greater Greater e less = λ is. absurd cc

-- in a list in order nothing from the place on is before the item there
none_before : {X : Type 0} (cmp : X → X → Ordering) → IsTotalOrder cmp → (xs : List X) (k : ℕ) (x y : X) → IsSorted cmp xs → slice_get xs k ≡ Some x → Contains (drop k xs) y → cmp x y ≢ Greater
none_before cmp total xs k x y sorted here there =
    let inside : k + there.0 < length xs = let lt = there.1 in omega (arith, lt, length-drop k xs) in
    let is_y : get_or xs (k + there.0) y ≡ y = sym (get_or-drop k xs there.0 y) ∙ there.2 in
    let is_x : get_or xs k y ≡ x = get_or_from_slice_get xs k x y here in
    let far = sorted_far (λ a b. is_lt (cmp a b)) (ranks_by total (λ z. z)) xs sorted k (k + there.0) y (omega arith) inside in
    not_greater (cmp x y) (cmp y x) (total.antisymm x y) (subst (λ z. is_lt (cmp y z) ≡ false) is_x (subst (λ z. is_lt (cmp z (get_or xs k y)) ≡ false) is_y far))

-- where the first of two lists in order has an item, and the second a greater one or none
record IsAhead {X : Type 0} (cmp : X → X → Ordering) (xs ys : List X) (k : ℕ) (x : X) : Type 0 where
  here : slice_get xs k ≡ Some x
  before : (y : X) → slice_get ys k ≡ Some y → cmp x y ≡ Less

often_split : {X : Type 0} (cmp : X → X → Ordering) (x : X) (xs : List X) (k : ℕ) → often cmp x xs ≡ often cmp x (take k xs) + often cmp x (drop k xs)
often_split cmp x xs k = sym (sum_by-take-drop (λ y. cond (eq_by_cmp cmp x y) 1 0) xs k)

-- what is after the place is after an item that comes before the one there
after_lesser : {X : Type 0} (cmp : X → X → Ordering) → IsTotalOrder cmp → (x y z : X) → cmp x y ≡ Less → cmp y z ≢ Greater → cmp x z ≡ Less
after_lesser cmp total x y z less upto = by (cmp y z) refl upto where
  by : (o : Ordering) → cmp y z ≡ o → o ≢ Greater → cmp x z ≡ Less
  by Less is upto = total.trans x y z less is
  by Equal is upto = sym (alike_right total y z x is) ∙ less
  by Greater is upto = absurd (upto refl)

-- the item ahead is in no place of the second list from there on
not_behind : {X : Type 0} (cmp : X → X → Ordering) → IsTotalOrder cmp → (xs ys : List X) (k : ℕ) (x : X) → IsSorted cmp ys → IsAhead cmp xs ys k x → (z : X) → Contains (drop k ys) z → cmp x z ≡ Less
not_behind cmp total xs ys k x sorted ahead z there =
    let inside : k < length ys = let lt = there.1 in omega (arith, lt, length-drop k ys) in
    let y = get_or ys k z in
    let here : slice_get ys k ≡ Some y = slice_get-get_or ys k z inside in
    after_lesser cmp total x y z (ahead.before y here) (none_before cmp total ys k y z sorted here there)

-- it stands more often in the first list, and no lesser item stands unequally often in the two
pub record IsLeastMore {X : Type 0} (cmp : X → X → Ordering) (xs ys : List X) (x : X) : Type 0 where
  pub more : often cmp x ys < often cmp x xs
  pub least : (other : X) → often cmp other xs ≢ often cmp other ys → cmp x other ≢ Greater

not_greater_less : (o : Ordering) → o ≡ Less → o ≢ Greater
not_greater_less o less = λ greater. absurd cc

ahead_is_least : {X : Type 0} (cmp : X → X → Ordering) → TellsApart cmp → (xs ys : List X) (k : ℕ) (x : X) → IsSorted cmp xs → IsSorted cmp ys → take k xs ≡ take k ys → IsAhead cmp xs ys k x → IsLeastMore cmp xs ys x
ahead_is_least cmp tells xs ys k x up_xs up_ys same ahead =
    let inside : k < length xs = slice_get_within xs k x ahead.here in
    let first : drop k xs ≡ x ∷ drop (k + 1) xs = drop_more xs k x inside ∙ ap (λ z. z ∷ drop (k + 1) xs) (get_or_from_slice_get xs k x x ahead.here) in
    let some : 0 < often cmp x (drop k xs) = subst (λ l. 0 < often cmp x l) (sym first) (stands_first cmp tells.total x (drop (k + 1) xs)) in
    let none : often cmp x (drop k ys) ≡ 0 = less_everywhere cmp x (drop k ys) (not_behind cmp tells.total xs ys k x up_ys ahead) in
    let split_xs = often_split cmp x xs k in
    let split_ys = often_split cmp x ys k in
    let front : often cmp x (take k xs) ≡ often cmp x (take k ys) = ap (often cmp x) same in
    record {
      more = omega (arith, some, none, split_xs, split_ys, front);
      least = λ other odd.
          let other_xs = often_split cmp other xs k in
          let other_ys = often_split cmp other ys k in
          let other_front : often cmp other (take k xs) ≡ often cmp other (take k ys) = ap (often cmp other) same in
          let odd_behind : often cmp other (drop k xs) ≢ often cmp other (drop k ys) = λ even. odd (omega (arith, even, other_xs, other_ys, other_front)) in
          elim (in_one cmp tells other (drop k xs) (drop k ys) odd_behind) [
            | inl there ↦ none_before cmp tells.total xs k x other up_xs ahead.here there
            | inr there ↦ not_greater_less (cmp x other) (not_behind cmp tells.total xs ys k x up_ys ahead other there)
          ];
    }

-- the same of lists that are these in another order
pub least_permuted : {X : Type 0} (cmp : X → X → Ordering) → TellsApart cmp → (xs ys us vs : List X) (k : ℕ) (x : X) → IsPermutation us xs → IsPermutation vs ys → IsSorted cmp xs → IsSorted cmp ys → take k xs ≡ take k ys
    → slice_get xs k ≡ Some x → ((y : X) → slice_get ys k ≡ Some y → cmp x y ≡ Less) → IsLeastMore cmp us vs x
least_permuted cmp tells xs ys us vs k x of_us of_vs up_xs up_ys same here before =
    let least = ahead_is_least cmp tells xs ys k x up_xs up_ys same (record { here = here; before = before }) in
    let moved_us : (z : _) → often cmp z xs ≡ often cmp z us = λ z. sum_by-IsPermutation (λ y. cond (eq_by_cmp cmp z y) 1 0) us xs of_us in
    let moved_vs : (z : _) → often cmp z ys ≡ often cmp z vs = λ z. sum_by-IsPermutation (λ y. cond (eq_by_cmp cmp z y) 1 0) vs ys of_vs in
    record {
      more = let more = least.more in let u = moved_us x in let v = moved_vs x in omega (arith, more, u, v);
      least = λ other odd. least.least other (λ even. odd (sym (moved_us other) ∙ even ∙ moved_vs other));
    }

-- lists that are nowhere parted have everything equally often
pub even_permuted : {X : Type 0} (cmp : X → X → Ordering) (xs ys us vs : List X) → IsPermutation us xs → IsPermutation vs ys → xs ≡ ys → (z : X) → often cmp z us ≡ often cmp z vs
even_permuted cmp xs ys us vs of_us of_vs same z =
    sym (sum_by-IsPermutation (λ y. cond (eq_by_cmp cmp z y) 1 0) us xs of_us) ∙ ap (often cmp z) same ∙ sum_by-IsPermutation (λ y. cond (eq_by_cmp cmp z y) 1 0) vs ys of_vs
