-- What a list contains, item by item, and what a sort and a dedup keep of it.
use Rattle.std.proofs.Common.{◌≡◌, inl, inr, ℕ, Bool, true, List, [], ◌∷◌, map, sym, subst}
use Rattle.std.specs.Prelude.{Contains}
use Rattle.std.specs.List.{Any, dedup}
use Rattle.std.specs.List.Sorted.{IsPermutation}
use Rattle.std.specs.Cmp.{IsEquivalence}
use Rattle.std.proofs.lemmas.List.Kept.{Any-dedup}
use Rattle.std.proofs.lemmas.List.Sorted.{Contains-permutation}
use Rattle.or_geom.proofs.ListLaws.{contains_none, contains_cases, contains_first, contains_later, contains_map}
use Rattle.cell_chains.specs.Numbering.{texts}
use denote.Ref.{Bor}

-- an item whose image is y
pub record HasImage {X Y : Type 0} (f : X → Y) (xs : List X) (y : Y) : Type 0 where
  pub item : X
  pub stands : Contains xs item
  pub is : f item ≡ y

pub image_from : {X Y : Type 0} (f : X → Y) (xs : List X) (y : Y) → Contains (map f xs) y → HasImage f xs y
image_from f [] y h = absurd (contains_none y h)
image_from f (x ∷ xs) y h = elim (contains_cases (f x) (map f xs) y h) [
  | inl e ↦ record { item = x; stands = contains_first x xs; is = sym e }
  | inr later ↦ let i = image_from f xs y later in record { item = i.item; stands = contains_later x xs i.item i.stands; is = i.is }
]

kept_text : (E : Bor (List ℕ) → Bor (List ℕ) → Bool) → ((x y : Bor (List ℕ)) → E x y ≡ true → x.now ≡ y.now) → (xs : List (Bor (List ℕ))) (x : Bor (List ℕ)) → Any (λ y. E x y ≡ true) xs → Contains (texts xs) x.now
kept_text E exact xs x a =
    let in_texts : Contains (texts xs) a.1.now = contains_map (λ (name : Bor (List ℕ)). name.now) xs a.1 (a.0, a.2, a.3) in
    subst (Contains (texts xs)) (sym (exact x a.1 a.4)) in_texts

-- names that are sorted and of which equal ones are dropped are the same names
pub keeps_texts : (E : Bor (List ℕ) → Bor (List ℕ) → Bool) → IsEquivalence E → ((x y : Bor (List ℕ)) → E x y ≡ true → x.now ≡ y.now) → (xs ys : List (Bor (List ℕ))) → IsPermutation xs ys
    → (text : List ℕ) → Contains (texts xs) text → Contains (texts (dedup E ys)) text
keeps_texts E equiv exact xs ys moved text h =
    let i = image_from (λ (name : Bor (List ℕ)). name.now) xs text h in
    subst (Contains (texts (dedup E ys))) i.is (kept_text E exact (dedup E ys) i.item (Any-dedup equiv ys i.item (Contains-permutation xs ys i.item moved i.stands)))
