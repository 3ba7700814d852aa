-- A list has its items in order: each is put before the first that is not below it.
use Rattle.std.proofs.Common.{◌≡◌, inl, inr, ℕ, zero, suc, ◌+◌, ◌<◌, List, [], ◌∷◌, length, refl, sym, ap, subst, ◌∙◌, false, arith}
use Rattle.std.specs.Prelude.{Contains, IsPermutation, IsSorted, slice_index_or}
use Rattle.std.specs.Cmp.{IsTotalOrder}
use Rattle.std.specs.List.{AllByRecursion}
use Rattle.std.specs.Ordering.{is_gt, is_lt, ordering_reverse}
use Rattle.std.specs.declared.cmp.Ordering.{Ordering}
use Rattle.std.specs.declared.cmp.Ordering.TheVariants.{Less, Equal, Greater}
use Rattle.std.proofs.lemmas.Cmp.{upto}
use Rattle.std.proofs.lemmas.List.Sorted.{Contains-permutation, IsPermutation-cons, IsPermutation-refl, IsPermutation-swap, IsPermutation-sym, IsPermutation-trans}
use Rattle.or_geom.proofs.ListLaws.{all_contained, contains_cases, contains_first, contains_later}

-- each is not above those behind it
abbrev NeverFalls : {X : Type 0} → (X → X → Ordering) → List X → Type 0
NeverFalls cmp [] = Unit {0}
NeverFalls cmp (x ∷ xs) = AllByRecursion (λ y. is_lt (cmp y x) ≡ false) xs × NeverFalls cmp xs

sorted_from : {X : Type 0} (cmp : X → X → Ordering) (xs : List X) → NeverFalls cmp xs → (k : ℕ) (d : X) → suc k < length xs
    → is_lt (cmp (slice_index_or xs (suc k) d) (slice_index_or xs k d)) ≡ false
sorted_from cmp [] up k d lt = absurd (omega (arith, lt))
sorted_from cmp (x ∷ []) up k d lt = absurd (omega (arith, lt))
sorted_from cmp (x ∷ y ∷ ys) up zero d lt = up.0.0
sorted_from cmp (x ∷ y ∷ ys) up (suc k) d lt = sorted_from cmp (y ∷ ys) up.1 k d (omega (arith, lt))

-- the items of one list, in order in the other
pub record IsInOrder {X : Type 0} (cmp : X → X → Ordering) (xs ys : List X) : Type 0 where
  pub same : IsPermutation xs ys
  pub up : NeverFalls cmp ys

all_of : {X : Type 0} (P : X → Type 0) (xs : List X) → ((x : X) → Contains xs x → P x) → AllByRecursion P xs
all_of P [] each = tt
all_of P (x ∷ xs) each = (each x (contains_first x xs), all_of P xs (λ y h. each y (contains_later x xs y h)))

turned : {X : Type 0} (cmp : X → X → Ordering) → IsTotalOrder cmp → (x y : X) (o : Ordering) → cmp x y ≡ o → cmp y x ≡ ordering_reverse o
turned cmp total x y o e = total.antisymm y x ∙ ap ordering_reverse e

not_below : {X : Type 0} (cmp : X → X → Ordering) → IsTotalOrder cmp → (x y z : X) → is_lt (cmp y x) ≡ false → is_lt (cmp z y) ≡ false
    → is_lt (cmp z x) ≡ false
not_below cmp total x y z p q = back x z (upto total x y z (forth x y p) (forth y z q))
  where
    gt_of : (o : Ordering) → is_lt (ordering_reverse o) ≡ false → is_gt o ≡ false
    gt_of Less e = refl
    gt_of Equal e = refl
    gt_of Greater e = absurd cc

    lt_of : (o : Ordering) → is_gt o ≡ false → is_lt (ordering_reverse o) ≡ false
    lt_of Less e = refl
    lt_of Equal e = refl
    lt_of Greater e = absurd cc

    forth : (a b : _) → is_lt (cmp b a) ≡ false → is_gt (cmp a b) ≡ false
    forth a b e = gt_of (cmp a b) (sym (ap is_lt (total.antisymm b a)) ∙ e)

    back : (a b : _) → is_gt (cmp a b) ≡ false → is_lt (cmp b a) ≡ false
    back a b e = ap is_lt (total.antisymm b a) ∙ lt_of (cmp a b) e

put : {X : Type 0} (cmp : X → X → Ordering) → IsTotalOrder cmp → (x : X) (ys : List X) → NeverFalls cmp ys → (zs : List X) × IsInOrder cmp (x ∷ ys) zs
put cmp total x [] up = (x ∷ [], record { same = IsPermutation-refl (x ∷ []); up = (tt, tt) })
put {X} cmp total x (y ∷ ys) up = by (cmp x y) refl (put cmp total x ys up.1)
  where
    first : is_lt (cmp y x) ≡ false → (zs : List X) × IsInOrder cmp (x ∷ y ∷ ys) zs
    first low = (
      x ∷ y ∷ ys,
      record {
        same = IsPermutation-refl (x ∷ y ∷ ys);
        up = ((low, all_of (λ z. is_lt (cmp z x) ≡ false) ys (λ z h. not_below cmp total x y z low (all_contained (λ w. is_lt (cmp w y) ≡ false) ys z up.0 h))), up);
      },
    )

    by : (o : Ordering) → cmp x y ≡ o → (zs : List X) × IsInOrder cmp (x ∷ ys) zs → (zs : List X) × IsInOrder cmp (x ∷ y ∷ ys) zs
    by Less e rest = first (ap is_lt (turned cmp total x y Less e))
    by Equal e rest = first (ap is_lt (turned cmp total x y Equal e))
    by Greater e rest = (
      y ∷ rest.0,
      record {
        same = IsPermutation-trans (x ∷ y ∷ ys) (y ∷ x ∷ ys) (y ∷ rest.0) (IsPermutation-swap (x ∷ y ∷ ys) (y ∷ x ∷ ys) 0 1 (omega arith) (omega arith) refl)
            (IsPermutation-cons y (x ∷ ys) rest.0 rest.1.same);
        up = (
          all_of (λ z. is_lt (cmp z y) ≡ false) rest.0 (λ z h. elim (contains_cases x ys z (Contains-permutation rest.0 (x ∷ ys) z (IsPermutation-sym (x ∷ ys) rest.0 rest.1.same) h)) [
            | inl is ↦ subst (λ (w : X). is_lt (cmp w y) ≡ false) (sym is) (ap is_lt e)
            | inr k ↦ all_contained (λ w. is_lt (cmp w y) ≡ false) ys z up.0 k
          ]),
          rest.1.up,
        );
      },
    )

in_order : {X : Type 0} (cmp : X → X → Ordering) → IsTotalOrder cmp → (xs : List X) → (ys : List X) × IsInOrder cmp xs ys
in_order cmp total [] = ([], record { same = IsPermutation-refl []; up = tt })
in_order cmp total (x ∷ xs) =
    let rest = in_order cmp total xs in
    let more = put cmp total x rest.0 rest.1.up in
    (more.0, record { same = IsPermutation-trans (x ∷ xs) (x ∷ rest.0) more.0 (IsPermutation-cons x xs rest.0 rest.1.same) more.1.same; up = more.1.up })

-- Each list has its items in order.
pub sorted_there : {X : Type 0} (cmp : X → X → Ordering) → IsTotalOrder cmp → (xs : List X) → (ys : List X) × IsPermutation xs ys × IsSorted cmp ys
sorted_there {X} cmp total xs =
    let found = in_order cmp total xs in
    let ys : List X = found.0 in
    (ys, found.1.same, λ k d le lt. subst (λ (n : ℕ). is_lt (cmp (slice_index_or ys n d) (slice_index_or ys k d)) ≡ false) (next k) (sorted_from cmp ys found.1.up k d (omega (arith, lt))))
  where
    next : (k : ℕ) → suc k ≡ k + 1
    next k = omega arith
