-- What can be decided: whether some number of a range has a property, and whether rectangles cover an area.
use Rattle.std.proofs.Common.{◌≡◌, ◌⊎◌, inl, inr, ℕ, zero, suc, List, [], ◌∷◌, ℤ, pos, ◌≤ℤ◌, ◌<ℤ◌, ◌+ℤ◌, ◌-ℤ◌, subst, arith}
use Rattle.std.specs.Prelude.{unsigned_abs}
use Rattle.std.proofs.lemmas.Int.{ints, by_lt_z}
use Rattle.or_geom.specs.declared.shape.Rect.{Rect}
use Rattle.or_geom.specs.Covered.{HasCell, HasCellInSome, IsCovered}

-- it holds, or it doesn't
abbrev pub Decided : Type 0 → Type 0
Decided A = A ⊎ (A → ⊥)

pub decide_both : (A B : Type 0) → Decided A → Decided B → Decided (A × B)
decide_both A B (inl a) (inl b) = inl (a, b)
decide_both A B (inl a) (inr no_b) = inr (λ p. no_b p.1)
decide_both A B (inr no_a) b = inr (λ p. no_a p.0)

pub decide_not : (A : Type 0) → Decided A → Decided (A → ⊥)
decide_not A (inl a) = inr (λ f. f a)
decide_not A (inr no_a) = inl no_a

pub decide_as : (A B : Type 0) → (A → B) → (B → A) → Decided A → Decided B
decide_as A B to from (inl a) = inl (to a)
decide_as A B to from (inr no_a) = inr (λ b. no_a (from b))

-- a number from one on, below another, has P
abbrev pub IsBetween : (ℤ → Type 0) → ℤ → ℤ → Type 0
IsBetween P from to = (z : ℤ) × (from ≤ℤ z) × (z <ℤ to) × P z

among : (P : ℤ → Type 0) (each : (z : ℤ) → Decided (P z)) (from : ℤ) (n : ℕ) → Decided (IsBetween P from (from +ℤ pos n))
among P each from zero = inr (λ h. let low = h.1 in let high = h.2 in omega (arith, ints))
among P each from (suc n) = elim (each (from +ℤ pos n)) [
  | inl here ↦ inl (from +ℤ pos n, omega (arith, ints), omega (arith, ints), here)
  | inr none ↦ elim (among P each from n) [
    | inl h ↦ let high = h.2 in inl (h.0, h.1, omega (arith, ints), h.3)
    | inr never ↦ inr (λ h. let high = h.2 in by_lt_z h.0 (from +ℤ pos n) (λ lt. never (h.0, h.1, lt, h.3)) (λ ge. let e : h.0 ≡ from +ℤ pos n = omega (arith, ints) in none (subst P e h.3)))
  ]
]

pub decide_some : (P : ℤ → Type 0) (each : (z : ℤ) → Decided (P z)) (from to : ℤ) → Decided (IsBetween P from to)
decide_some P each from to =
    by_lt_z from to
    (λ lt. let e : from +ℤ pos (unsigned_abs (to -ℤ from)) ≡ to = omega (arith, ints) in subst (λ (z : ℤ). Decided (IsBetween P from z)) e (among P each from (unsigned_abs (to -ℤ from))))
    (λ ge. inr (λ h. let low = h.1 in let high = h.2 in omega (arith, ints)))

-- each of them has P
abbrev pub AreBetween : (ℤ → Type 0) → ℤ → ℤ → Type 0
AreBetween P from to = (z : ℤ) → from ≤ℤ z → z <ℤ to → P z

pub decide_each : (P : ℤ → Type 0) (each : (z : ℤ) → Decided (P z)) (from to : ℤ) → Decided (AreBetween P from to)
decide_each P each from to = elim (decide_some (λ z. P z → ⊥) (λ z. decide_not (P z) (each z)) from to) [
  | inl h ↦ inr (λ all. h.3 (all h.0 h.1 h.2))
  | inr none ↦ inl (λ z low high. elim (each z) [ inl p ↦ p | inr fails ↦ absurd (none (z, low, high, fails)) ])
]

decide_cell : (r : Rect) (x y : ℤ) → Decided (HasCell r x y)
decide_cell r x y =
    by_lt_z x r.x1 (λ lt. inr (λ h. let le : r.x1 ≤ℤ x = h.left in omega (arith, ints)))
    (λ left. by_lt_z x r.x2 (λ right. by_lt_z y r.y1 (λ lt. inr (λ h. let le : r.y1 ≤ℤ y = h.low in omega (arith, ints)))
    (λ low. by_lt_z y r.y2 (λ high. inl (record { left = left; right = right; low = low; high = high })) (λ ge. inr (λ h. let lt : y <ℤ r.y2 = h.high in omega (arith, ints)))))
    (λ ge. inr (λ h. let lt : x <ℤ r.x2 = h.right in omega (arith, ints))))

pub decide_cell_in : (rects : List Rect) (x y : ℤ) → Decided (HasCellInSome rects x y)
decide_cell_in [] x y = inr (λ none. none)
decide_cell_in (r ∷ rs) x y = elim (decide_cell r x y) [
  | inl here ↦ inl (inl here)
  | inr out ↦ elim (decide_cell_in rs x y) [ inl there ↦ inl (inr there) | inr none ↦ inr (λ h. elim h [ inl here ↦ out here | inr there ↦ none there ]) ]
]

-- whether the cells of these columns and rows are covered
pub decide_cells : (rects : List Rect) (x1 x2 y1 y2 : ℤ) → Decided (AreBetween (λ x. AreBetween (λ y. HasCellInSome rects x y) y1 y2) x1 x2)
decide_cells rects x1 x2 y1 y2 = decide_each (λ x. AreBetween (λ y. HasCellInSome rects x y) y1 y2) (λ x. decide_each (λ y. HasCellInSome rects x y) (λ y. decide_cell_in rects x y) y1 y2) x1 x2

pub decide_covered : (area : Rect) (rects : List Rect) → Decided (IsCovered area rects)
decide_covered area rects =
    decide_as (AreBetween (λ x. AreBetween (λ y. HasCellInSome rects x y) area.y1 area.y2) area.x1 area.x2) (IsCovered area rects)
    (λ all x y h. all x h.left h.right y h.low h.high)
    (λ is x left right y low high. is x y (record { left = left; right = right; low = low; high = high }))
    (decide_cells rects area.x1 area.x2 area.y1 area.y2)
