-- Lists that are made number by number: their items.
use Rattle.std.proofs.Common.{◌≡◌, inl, inr, ℕ, zero, suc, ◌+◌, ◌<◌, List, [], ◌∷◌, ◌++◌, Some, map, length, get_or, refl, ap, sym, subst, ◌∙◌, arith}
use Rattle.std.proofs.lemmas.Option.{same_Some, slice_get_within, slice_get-get_or}
use Rattle.std.specs.Prelude.{Contains, slice_get}
use Rattle.std.proofs.lemmas.List.Elements.{Contains-append_left, Contains-append_right, Contains-append_cases}
use Rattle.or_geom.proofs.ListLaws.{contains_none, contains_cases, contains_here, contained_at, below_or}
use Rattle.sram_netlist.specs.InstanceList.{numbers_from, tabulate, tabulate_lists}
use Rattle.port_lists.proofs.TabulateLaws.{tabulate_more, tabulate_lists_more}

more : {A : Type 0} (n : ℕ) (f : ℕ → A) → tabulate (suc n) f ≡ tabulate n f ++ f n ∷ []
more {A = A} n f = let e : suc n ≡ n + 1 = omega arith in ap (λ (m : ℕ). tabulate m f) e ∙ tabulate_more n f

lists_more : {A : Type 0} (n : ℕ) (f : ℕ → List A) → tabulate_lists (suc n) f ≡ tabulate_lists n f ++ f n
lists_more {A = A} n f = let e : suc n ≡ n + 1 = omega arith in ap (λ (m : ℕ). tabulate_lists m f) e ∙ tabulate_lists_more n f

pub record IsTabulated {A : Type 0} (n : ℕ) (f : ℕ → A) (x : A) : Type 0 where
  pub k : ℕ
  pub below : k < n
  pub is : x ≡ f k

pub record IsInLists {A : Type 0} (n : ℕ) (f : ℕ → List A) (x : A) : Type 0 where
  pub k : ℕ
  pub below : k < n
  pub among : Contains (f k) x

pub in_tabulate : {A : Type 0} (n : ℕ) (f : ℕ → A) (x : A) → Contains (tabulate n f) x → IsTabulated n f x
in_tabulate zero f x h = absurd (contains_none x h)
in_tabulate {A = A} (suc n) f x h =
    elim (Contains-append_cases (tabulate n f) (f n ∷ []) x (subst (λ (l : List A). Contains l x) (more n f) h)) [
      | inl before ↦ (let r = in_tabulate n f x before in let lt = r.below in record { k = r.k; below = omega (arith, lt); is = r.is })
      | inr last ↦ elim (contains_cases (f n) [] x last) [ inl e ↦ record { k = n; below = omega arith; is = e } | inr none ↦ absurd (contains_none x none) ]
    ]

pub tabulate_has : {A : Type 0} (n : ℕ) (f : ℕ → A) (k : ℕ) → k < n → Contains (tabulate n f) (f k)
tabulate_has zero f k lt = absurd (omega (arith, lt))
tabulate_has {A = A} (suc n) f k lt =
    elim (below_or k n (omega (arith, lt))) [
      | inl less ↦ subst (λ (l : List A). Contains l (f k)) (sym (more n f)) (Contains-append_left (tabulate n f) (f n ∷ []) (f k) (tabulate_has n f k less))
      | inr e ↦ subst (λ (l : List A). Contains l (f k)) (sym (more n f)) (Contains-append_right (tabulate n f) (f n ∷ []) (f k) (contains_here (f n) [] (f k) (ap f e)))
    ]

pub in_lists : {A : Type 0} (n : ℕ) (f : ℕ → List A) (x : A) → Contains (tabulate_lists n f) x → IsInLists n f x
in_lists zero f x h = absurd (contains_none x h)
in_lists {A = A} (suc n) f x h =
    elim (Contains-append_cases (tabulate_lists n f) (f n) x (subst (λ (l : List A). Contains l x) (lists_more n f) h)) [
      | inl before ↦ (let r = in_lists n f x before in let lt = r.below in record { k = r.k; below = omega (arith, lt); among = r.among })
      | inr last ↦ record { k = n; below = omega arith; among = last }
    ]

pub lists_have : {A : Type 0} (n : ℕ) (f : ℕ → List A) (k : ℕ) (x : A) → k < n → Contains (f k) x → Contains (tabulate_lists n f) x
lists_have zero f k x lt h = absurd (omega (arith, lt))
lists_have {A = A} (suc n) f k x lt h =
    elim (below_or k n (omega (arith, lt))) [
      | inl less ↦ subst (λ (l : List A). Contains l x) (sym (lists_more n f)) (Contains-append_left (tabulate_lists n f) (f n) x (lists_have n f k x less h))
      | inr e ↦ subst (λ (l : List A). Contains l x) (sym (lists_more n f)) (Contains-append_right (tabulate_lists n f) (f n) x (subst (λ (m : ℕ). Contains (f m) x) e h))
    ]

-- the items by their places
from_numbers : {A : Type 0} (f : ℕ → A) (a n k : ℕ) (x : A) → slice_get (map f (numbers_from a n)) k ≡ Some x → x ≡ f (k + a)
from_numbers f a zero k x e = let lt = slice_get_within [] k x e in absurd (omega (arith, lt))
from_numbers f a (suc n) zero x e = same_Some x (f a) (sym e) ∙ ap f (omega arith)
from_numbers f a (suc n) (suc k) x e = from_numbers f (suc a) n k x e ∙ ap f (omega arith)

at_numbers : {A : Type 0} (f : ℕ → A) (a n k : ℕ) → k < n → slice_get (map f (numbers_from a n)) k ≡ Some (f (k + a))
at_numbers f a zero k lt = absurd (omega (arith, lt))
at_numbers f a (suc n) zero lt = ap (λ (m : ℕ). Some (f m)) (omega arith)
at_numbers f a (suc n) (suc k) lt = at_numbers f (suc a) n k (omega (arith, lt)) ∙ ap (λ (m : ℕ). Some (f m)) (omega arith)

long_numbers : {A : Type 0} (f : ℕ → A) (a n : ℕ) → length (map f (numbers_from a n)) ≡ n
long_numbers f a zero = refl
long_numbers f a (suc n) = ap suc (long_numbers f (suc a) n)

pub at_tabulated : {A : Type 0} (n : ℕ) (f : ℕ → A) (k : ℕ) (x : A) → slice_get (tabulate n f) k ≡ Some x → x ≡ f k
at_tabulated n f k x e = from_numbers f 0 n k x e ∙ ap f (omega arith)

pub tabulated_at : {A : Type 0} (n : ℕ) (f : ℕ → A) (k : ℕ) → k < n → slice_get (tabulate n f) k ≡ Some (f k)
tabulated_at n f k lt = at_numbers f 0 n k lt ∙ ap (λ (m : ℕ). Some (f m)) (omega arith)

pub tabulated_long : {A : Type 0} (n : ℕ) (f : ℕ → A) → length (tabulate n f) ≡ n
tabulated_long n f = long_numbers f 0 n

-- what holds of all items holds at each place
pub all_items : {A : Type 0} (P : A → Type 0) (xs : List A) → ((x : A) → Contains xs x → P x) → (k : ℕ) (d : A) → k < length xs → P (get_or xs k d)
all_items P xs each k d lt = each (get_or xs k d) (contained_at xs k (get_or xs k d) (slice_get-get_or xs k d lt))
