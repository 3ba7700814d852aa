-- What stands in a list, and what is at a place of it.
use Rattle.std.proofs.Common.{◌≡◌, ◌⊎◌, inl, inr, ℕ, zero, suc, ◌+◌, ◌<◌, List, [], ◌∷◌, ◌++◌, map, length, get_or, drop, false, Option, None, Some, refl, sym, ap, ◌∙◌, arith}
use Rattle.std.specs.Prelude.{Contains, slice_get, slice_index_or, is_some, reverse}
use Rattle.std.specs.List.{AllByRecursion, cons_option}
use Rattle.std.proofs.lemmas.Bool.{cases_lt}
use Rattle.std.proofs.lemmas.Option.{same_Some, slice_get_within, slice_get-get_or, get_or_from_slice_get}
use Rattle.std.proofs.lemmas.List.{get_or-map, length-map, at_drop_more, reverse-append}
use Rattle.std.proofs.lemmas.List.Elements.{All-from_recursion, All-contains}

-- nothing stands in the empty list
pub contains_none : {X : Type 0} (x : X) → Contains [] x → ⊥
contains_none x h = let lt = h.1 in omega arith

cases_at : {X : Type 0} (y : X) (ys : List X) (x : X) (k : ℕ) → k < length (y ∷ ys) → slice_index_or (y ∷ ys) k x ≡ x → (x ≡ y) ⊎ Contains ys x
cases_at y ys x zero lt is = inl (sym is)
cases_at y ys x (suc k) lt is = inr (k, omega arith, is)

-- what stands in a list is its first item or stands behind it
pub contains_cases : {X : Type 0} (y : X) (ys : List X) (x : X) → Contains (y ∷ ys) x → (x ≡ y) ⊎ Contains ys x
contains_cases y ys x h = cases_at y ys x h.0 h.1 h.2

pub contains_here : {X : Type 0} (y : X) (ys : List X) (x : X) → x ≡ y → Contains (y ∷ ys) x
contains_here y ys x is = (0, omega arith, sym is)

pub contains_first : {X : Type 0} (y : X) (ys : List X) → Contains (y ∷ ys) y
contains_first y ys = contains_here y ys y refl

pub contains_later : {X : Type 0} (y : X) (ys : List X) (x : X) → Contains ys x → Contains (y ∷ ys) x
contains_later y ys x h = let lt = h.1 in (suc h.0, omega arith, h.2)

-- behind one item more, or none
pub contains_option : {X : Type 0} (o : Option X) (xs : List X) (x : X) → Contains xs x → Contains (cons_option o xs) x
contains_option None xs x h = h
contains_option (Some y) xs x h = contains_later y xs x h

pub contains_map : {X Y : Type 0} (f : X → Y) (xs : List X) (x : X) → Contains xs x → Contains (map f xs) (f x)
contains_map f xs x h = (h.0, rw (length-map xs f) h.1, get_or-map f xs h.0 x (f x) h.1 ∙ ap f h.2)

-- what holds of all holds of what stands in the list
pub all_contained : {X : Type 0} (P : X → Type 0) (xs : List X) (x : X) → AllByRecursion P xs → Contains xs x → P x
all_contained P xs x all h = All-contains P xs x (All-from_recursion P xs all) h

-- what is at a place stands in the list
pub contained_at : {X : Type 0} (xs : List X) (k : ℕ) (x : X) → slice_get xs k ≡ Some x → Contains xs x
contained_at xs k x is = (k, slice_get_within xs k x is, get_or_from_slice_get xs k x x is)

-- a place has one item
pub one_at : {X : Type 0} (xs : List X) (k : ℕ) (x y : X) → slice_get xs k ≡ Some x → slice_get xs k ≡ Some y → x ≡ y
one_at xs k x y a b = same_Some x y (sym a ∙ b)

-- a list with an item in it isn't empty
pub never_empty : {X : Type 0} (xs : List X) (y : X) (ys : List X) → xs ++ y ∷ ys ≡ [] → ⊥
never_empty [] y ys e = cc
never_empty (x ∷ xs) y ys e = cc

-- the list from a place on
pub rest_at : {X : Type 0} (xs : List X) (k : ℕ) (x : X) → k < length xs → x ≡ get_or xs k x → drop k xs ≡ x ∷ drop (k + 1) xs
rest_at {X} xs k x lt is = at_drop_more (λ (l : List X). l) xs k x lt ∙ ap (λ (z : X). z ∷ drop (k + 1) xs) (sym is)

-- the same, whatever is read where there is none
pub rest_item : {X : Type 0} (xs : List X) (k : ℕ) (d : X) → k < length xs → drop k xs ≡ get_or xs k d ∷ drop (k + 1) xs
rest_item xs k d lt = rest_at xs k (get_or xs k d) lt (sym (get_or_from_slice_get xs k (get_or xs k d) (get_or xs k d) (slice_get-get_or xs k d lt)))

pub reverse_push : {X : Type 0} (xs : List X) (x : X) → reverse (xs ++ x ∷ []) ≡ x ∷ reverse xs
reverse_push xs x = reverse-append xs (x ∷ [])

-- numbers below a bound, one more
pub below_or : (a n : ℕ) → a < n + 1 → (a < n) ⊎ (a ≡ n)
below_or a n lt = elim (cases_lt a n) [ inl h ↦ inl h | inr h ↦ inr (omega arith) ]

pub none_is : {X : Type 0} (o : Option X) → false ≡ is_some o → o ≡ None
none_is None e = refl
none_is (Some x) e = absurd cc
