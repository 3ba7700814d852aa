-- Lists with one thing at each place, and first places.
use Rattle.std.proofs.Common.{◌≡◌, inl, inr, ℕ, ◌<◌, List, length, Option, Some, sym, ap, ◌∙◌, arith}
use Rattle.std.specs.Prelude.{slice_get, unwrap_or}
use Rattle.std.proofs.lemmas.Bool.{cases_lt}
use Rattle.std.proofs.lemmas.List.{same_lists}
use Rattle.std.proofs.lemmas.Option.{unwrap_or-slice_get}
use Rattle.leaf_shapes.proofs.PinLaws.{exists_at}

-- lists that have the same at each place
pub same_by_places : {X : Type 0} (xs ys : List X) → length xs ≡ length ys → ((k : ℕ) → k < length xs → slice_get xs k ≡ slice_get ys k) → xs ≡ ys
same_by_places {X} xs ys sized each =
    same_lists xs ys sized (λ k d lt. sym (unwrap_or-slice_get xs k d) ∙ (ap (λ (o : Option X). unwrap_or o d) (each k lt) ∙ unwrap_or-slice_get ys k d))

-- at each place stands what is of the item there
abbrev pub EachOf : {D X : Type 0} → (D → X → Type 0) → List D → List X → Type 0
EachOf {D} {X} Of ds xs = (k : ℕ) (d : D) (x : X) → slice_get ds k ≡ Some d → slice_get xs k ≡ Some x → Of d x

-- where one thing is of an item, one list is of a list
pub one_list : {D X : Type 0} (Of : D → X → Type 0) (ds : List D) (xs ys : List X) → ((d : D) (x y : X) → Of d x → Of d y → x ≡ y)
    → length xs ≡ length ds → length ys ≡ length ds → EachOf Of ds xs → EachOf Of ds ys → xs ≡ ys
one_list {D} {X} Of ds xs ys one sized as_long of also = same_by_places xs ys (sized ∙ sym as_long) (λ k lt.
    let d = exists_at ds k (omega (arith, lt, sized)) in
    let x = exists_at xs k lt in
    let y = exists_at ys k (omega (arith, lt, sized, as_long)) in
    x.1 ∙ ap (λ (z : X). Some z) (one d.0 x.0 y.0 (of k d.0 x.0 d.1 x.1) (also k d.0 y.0 d.1 y.1)) ∙ sym y.1)

-- the first place at which something holds is one
pub one_first : (P : ℕ → Type 0) (i j : ℕ) → P i → P j → ((k : ℕ) → k < i → P k → ⊥) → ((k : ℕ) → k < j → P k → ⊥) → i ≡ j
one_first P i j at_i at_j before earlier = elim (cases_lt i j) [
  | inl lt ↦ absurd (earlier i lt at_i)
  | inr ge ↦ elim (cases_lt j i) [
    | inl lt ↦ absurd (before j lt at_j)
    | inr le ↦ omega (arith, ge, le)
  ]
]
