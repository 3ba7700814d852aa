-- Two numbers of a list: where they stand in another order, and the lowest that are close.
use Rattle.std.proofs.Common.{◌≡◌, ◌≢◌, ◌⊎◌, inl, inr, ℕ, ◌+◌, ◌-◌, ◌<◌, ◌≤◌, ℤ, pos, ◌+ℤ◌, ◌≤ℤ◌, ◌<ℤ◌, List, length, get_or, false, refl, sym, ap, subst, ◌∙◌, arith}
use Rattle.std.specs.Prelude.{slice_get, Some, All, IsPermutation, IsSorted, swap}
use Rattle.std.specs.Ordering.{int_cmp, is_lt}
use Rattle.std.proofs.lemmas.Bool.{cases_eq, cases_order}
use Rattle.std.proofs.lemmas.Cmp.{int_cmp_total}
use Rattle.std.proofs.lemmas.Int.{ints, by_lt_z}
use Rattle.std.proofs.lemmas.List.Edits.{swapped_from_swap, length-swap}
use Rattle.std.proofs.lemmas.List.Sorted.{IsPermutation-keeps, IsPermutation-sym, All-permutation, sorted_far, ranks_by}
use Rattle.std.proofs.lemmas.List.Elements.{All-contains}
use Rattle.std.proofs.lemmas.Option.{slice_get-get_or, slice_get_read, slice_get_within, get_or_from_slice_get}
use Rattle.or_geom.specs.Distance.{IsNear}
use Rattle.wire_drawing.specs.Spacing.{AreTwoOf, AreCloseTwo, AreFirstClose, AreClose}

-- what stands at p stands at q once the items at i and j are exchanged
IsMoved : ℕ → ℕ → ℕ → ℕ → Type 0
IsMoved i j p q = ((p ≡ i) × (q ≡ j)) ⊎ (((p ≡ j) × (q ≡ i)) ⊎ ((p ≢ i) × (p ≢ j) × (q ≡ p)))

moved : (i j p : ℕ) → (q : ℕ) × IsMoved i j p q
unfolding IsMoved
moved i j p = elim (cases_eq p i) [
  | inl at_i ↦ (j, inl (at_i, refl))
  | inr not_i ↦ elim (cases_eq p j) [
    | inl at_j ↦ (i, inr (inl (at_j, refl)))
    | inr not_j ↦ (p, inr (inr (not_i, not_j, refl)))
  ]
]

moved_differ : (i j p q r s : ℕ) → IsMoved i j p q → IsMoved i j r s → p ≢ r → q ≢ s
unfolding IsMoved
moved_differ i j p q r s (inl m) (inl n) differ same = differ (omega (arith, m.0, n.0))
moved_differ i j p q r s (inl m) (inr (inl n)) differ same = differ (omega (arith, m.0, m.1, n.0, n.1, same))
moved_differ i j p q r s (inl m) (inr (inr n)) differ same = n.1 (omega (arith, m.1, n.2, same))
moved_differ i j p q r s (inr (inl m)) (inl n) differ same = differ (omega (arith, m.0, m.1, n.0, n.1, same))
moved_differ i j p q r s (inr (inl m)) (inr (inl n)) differ same = differ (omega (arith, m.0, n.0))
moved_differ i j p q r s (inr (inl m)) (inr (inr n)) differ same = n.0 (omega (arith, m.1, n.2, same))
moved_differ i j p q r s (inr (inr m)) (inl n) differ same = m.1 (omega (arith, n.1, m.2, same))
moved_differ i j p q r s (inr (inr m)) (inr (inl n)) differ same = m.0 (omega (arith, n.1, m.2, same))
moved_differ i j p q r s (inr (inr m)) (inr (inr n)) differ same = differ (omega (arith, m.2, n.2, same))

moved_get : {X : Type 0} (xs : List X) (i j p q : ℕ) (x : X) → i < length xs → j < length xs → IsMoved i j p q → slice_get xs p ≡ Some x → slice_get (swap xs i j) q ≡ Some x
unfolding IsMoved
moved_get xs i j p q x in_i in_j moved is =
    let at_p = get_or_from_slice_get xs p x x is in
    let s = swapped_from_swap xs (swap xs i j) i j x in_i in_j refl in
    let inside : q < length (swap xs i j) = inside_by moved in
    slice_get-get_or (swap xs i j) q x inside ∙ ap Some (by_move s moved at_p) where
      inside_by : IsMoved i j p q → q < length (swap xs i j)
      inside_by (inl m) = let e = length-swap xs i j in omega (arith, m.1, in_j, e)
      inside_by (inr (inl m)) = let e = length-swap xs i j in omega (arith, m.1, in_i, e)
      inside_by (inr (inr m)) = let e = length-swap xs i j in let lt = slice_get_within xs p x is in omega (arith, m.2, lt, e)

      by_move : (get_or (swap xs i j) i x ≡ get_or xs j x) × (get_or (swap xs i j) j x ≡ get_or xs i x) × ((m : ℕ) → (m ≡ i → ⊥) → (m ≡ j → ⊥) → get_or (swap xs i j) m x ≡ get_or xs m x) → IsMoved i j p q → get_or xs p x ≡ x → get_or (swap xs i j) q x ≡ x
      by_move s (inl m) at_p = ap (λ (k : ℕ). get_or (swap xs i j) k x) m.1 ∙ s.1 ∙ ap (λ (k : ℕ). get_or xs k x) (sym m.0) ∙ at_p
      by_move s (inr (inl m)) at_p = ap (λ (k : ℕ). get_or (swap xs i j) k x) m.1 ∙ s.0 ∙ ap (λ (k : ℕ). get_or xs k x) (sym m.0) ∙ at_p
      by_move s (inr (inr m)) at_p = ap (λ (k : ℕ). get_or (swap xs i j) k x) m.2 ∙ s.2 p m.0 m.1 ∙ at_p

two_swapped : {X : Type 0} (x y : X) (xs : List X) (i j : ℕ) → i < length xs → j < length xs → AreTwoOf xs x y → AreTwoOf (swap xs i j) x y
two_swapped x y xs i j in_i in_j two =
    let p = moved i j two.i in
    let q = moved i j two.j in
    record {
      i = p.0;
      j = q.0;
      differ = moved_differ i j two.i p.0 two.j q.0 p.1 q.1 two.differ;
      first = moved_get xs i j two.i p.0 x in_i in_j p.1 two.first;
      second = moved_get xs i j two.j q.0 y in_i in_j q.1 two.second;
    }

-- two items of a list are two items of it in another order
pub two_permuted : {X : Type 0} (xs ys : List X) (x y : X) → IsPermutation xs ys → AreTwoOf xs x y → AreTwoOf ys x y
two_permuted {X} xs ys x y permutation two =
    IsPermutation-keeps xs (λ (l : List X). AreTwoOf l x y) two (λ l i j in_i in_j two. two_swapped x y l i j in_i in_j two) ys permutation

pub close_permuted : (pitch : ℤ) (xs ys : List ℤ) (x y : ℤ) → IsPermutation xs ys → AreCloseTwo pitch xs x y → AreCloseTwo pitch ys x y
close_permuted pitch xs ys x y permutation close = record { two = two_permuted xs ys x y permutation close.two; above = close.above; close = close.close }

pub first_permuted : (pitch : ℤ) (xs ys : List ℤ) (x y : ℤ) → IsPermutation xs ys → AreFirstClose pitch xs x y → AreFirstClose pitch ys x y
first_permuted pitch xs ys x y permutation first = record {
  close = close_permuted pitch xs ys x y permutation first.close;
  lowest = λ z w close. first.lowest z w (close_permuted pitch ys xs z w (IsPermutation-sym xs ys permutation) close);
}

not_less : (x y : ℤ) → is_lt (int_cmp x y) ≡ false → y ≤ℤ x
not_less x y is = grind (arith, ints)

-- a sorted list rises
pub rises : (xs : List ℤ) → IsSorted int_cmp xs → (i j : ℕ) → i ≤ j → j < length xs → get_or xs i (pos 0) ≤ℤ get_or xs j (pos 0)
rises xs sorted i j le lt = not_less (get_or xs j (pos 0)) (get_or xs i (pos 0)) (sorted_far (λ (x y : ℤ). is_lt (int_cmp x y)) (ranks_by int_cmp_total (λ (x : ℤ). x)) xs sorted i j (pos 0) le lt)

-- the numbers up to the one before k are a pitch apart
abbrev pub AreApartBelow : ℤ → List ℤ → ℕ → Type 0
AreApartBelow pitch xs k = (m : ℕ) → 0 < m → m < k → (get_or xs (m - 1) (pos 0) +ℤ pitch) ≤ℤ get_or xs m (pos 0)

-- the lower place of two close numbers, and the higher one
record AreAt (xs : List ℤ) (x y : ℤ) : Type 0 where
  pub p : ℕ
  pub q : ℕ
  pub before : p < q
  pub inside : q < length xs
  pub low : get_or xs p (pos 0) ≡ x
  pub high : get_or xs q (pos 0) ≡ y

at_places : (pitch : ℤ) (xs : List ℤ) (x y : ℤ) → IsSorted int_cmp xs → AreCloseTwo pitch xs x y → AreAt xs x y
at_places pitch xs x y sorted close =
    let at_i = get_or_from_slice_get xs close.two.i x (pos 0) close.two.first in
    let at_j = get_or_from_slice_get xs close.two.j y (pos 0) close.two.second in
    let in_i = slice_get_within xs close.two.i x close.two.first in
    let in_j = slice_get_within xs close.two.j y close.two.second in
    elim (cases_order close.two.i close.two.j) [
      | inl same ↦ absurd (close.two.differ same)
      | inr (inl before) ↦ record { p = close.two.i; q = close.two.j; before = before; inside = in_j; low = at_i; high = at_j }
      | inr (inr after) ↦
          let up : get_or xs close.two.j (pos 0) ≤ℤ get_or xs close.two.i (pos 0) = rises xs sorted close.two.j close.two.i (omega (arith, after)) in_i in
          let above = close.above in
          let one : x ≡ y = omega (arith, ints, at_i, at_j, up, above) in
          record { p = close.two.j; q = close.two.i; before = after; inside = in_i; low = at_j ∙ sym one; high = at_i ∙ one }
    ]

-- close numbers stand behind those that are apart
beyond : (pitch : ℤ) (xs : List ℤ) (x y : ℤ) (k : ℕ) → IsSorted int_cmp xs → AreApartBelow pitch xs k → AreCloseTwo pitch xs x y → (at : AreAt xs x y) → k ≤ at.p + 1
beyond pitch xs x y k sorted apart close at = elim (cases_order k (at.p + 1)) [
  | inl same ↦ omega (arith, same)
  | inr (inl less) ↦ omega (arith, less)
  | inr (inr more) ↦
      let gap : (get_or xs at.p (pos 0) +ℤ pitch) ≤ℤ get_or xs (at.p + 1) (pos 0) =
      (let e : at.p + 1 - 1 ≡ at.p = omega arith in subst (λ (n : ℕ). (get_or xs n (pos 0) +ℤ pitch) ≤ℤ get_or xs (at.p + 1) (pos 0)) e (apart (at.p + 1) (omega arith) more)) in
      let before = at.before in
      let up : get_or xs (at.p + 1) (pos 0) ≤ℤ get_or xs at.q (pos 0) = rises xs sorted (at.p + 1) at.q (omega (arith, before)) at.inside in
      let near = close.close in
      let low = at.low in
      let high = at.high in
      absurd (omega (arith, ints, gap, up, near, low, high))
]

pub none_close : (pitch : ℤ) (xs : List ℤ) (k : ℕ) → IsSorted int_cmp xs → length xs ≤ k → AreApartBelow pitch xs k → AreClose pitch xs → ⊥
none_close pitch xs k sorted all apart close =
    let at = at_places pitch xs close.0 close.1 sorted close.2 in
    let past = beyond pitch xs close.0 close.1 k sorted apart close.2 at in
    let before = at.before in
    let inside = at.inside in
    omega (arith, all, past, before, inside)

low_or_same : (x y : ℤ) → x ≤ℤ y → (x <ℤ y) ⊎ (x ≡ y)
low_or_same x y le = by_lt_z {P = (x <ℤ y) ⊎ (x ≡ y)} x y (λ lt. inl lt) (λ ge. inr (omega (arith, ints, le, ge)))

pub first_close_at : (pitch : ℤ) (xs : List ℤ) (k : ℕ) → IsSorted int_cmp xs → 0 < k → k < length xs → AreApartBelow pitch xs k
    → get_or xs k (pos 0) <ℤ (get_or xs (k - 1) (pos 0) +ℤ pitch) → AreFirstClose pitch xs (get_or xs (k - 1) (pos 0)) (get_or xs k (pos 0))
first_close_at pitch xs k sorted positive inside apart near = record {
  close = record {
    two = record {
      i = k - 1;
      j = k;
      differ = λ same. omega (arith, same, positive);
      first = slice_get-get_or xs (k - 1) (pos 0) (omega (arith, inside));
      second = slice_get-get_or xs k (pos 0) inside;
    };
    above = rises xs sorted (k - 1) k (omega arith) inside;
    close = near;
  };
  lowest = λ x y close.
      let at = at_places pitch xs x y sorted close in
      let past = beyond pitch xs x y k sorted apart close at in
      let before = at.before in
      let in_q = at.inside in
      let low = at.low in
      let high = at.high in
      let up : get_or xs (k - 1) (pos 0) ≤ℤ get_or xs at.p (pos 0) = rises xs sorted (k - 1) at.p (omega (arith, past)) (omega (arith, before, in_q)) in
      let further : get_or xs k (pos 0) ≤ℤ get_or xs at.q (pos 0) = rises xs sorted k at.q (omega (arith, past, before)) in_q in
      elim (low_or_same (get_or xs (k - 1) (pos 0)) x (omega (arith, ints, up, low))) [
        | inl less ↦ inl less
        | inr same ↦ inr (same, omega (arith, ints, further, high))
      ];
}

-- what an index gives is near
pub near_at : (xs ys : List ℤ) (k : ℕ) (x : ℤ) → IsPermutation xs ys → All IsNear xs → k < length ys → x ≡ get_or ys k x → IsNear x
near_at xs ys k x permutation near inside is = All-contains IsNear ys x (All-permutation IsNear xs ys permutation near) (k, inside, sym is)

-- what an index gives, with any default
pub at_default : (xs : List ℤ) (k : ℕ) (x : ℤ) → k < length xs → x ≡ get_or xs k x → get_or xs k (pos 0) ≡ x
at_default xs k x inside is = get_or_from_slice_get xs k x (pos 0) (slice_get_read xs (length xs) k x refl inside is)
