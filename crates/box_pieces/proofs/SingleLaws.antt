-- Whether boxes have exactly the unit cells of one rectangle.
use Rattle.std.proofs.Common.{◌≡◌, ◌⊎◌, inl, inr, ℤ, List, [], ◌∷◌, length, ◌<◌, ◌==◌, false, refl, ap, ◌∙◌, subst, arith}
use Rattle.std.proofs.lemmas.Int.{ints, by_lt_z}
use Rattle.or_geom.specs.declared.shape.Rect.{Rect}
use Rattle.or_geom.specs.Covered.{HasCell, HasCellInSome}
use Rattle.box_pieces.specs.Cells.{HaveNone, IsBoundOf, HasSameCells, IsNoRectangle, IsCellOutside}
use Rattle.box_pieces.proofs.CellLaws.{only_cell}
use Rattle.box_pieces.proofs.PartLaws.{same_is_bound, no_same}
use Rattle.box_pieces.proofs.SplitLaws.{some_left}

-- the lower left unit cell of a rectangle
pub first_cell : (r : Rect) → HasCell r r.x1 r.y1
first_cell r = let wide = r.wide in let tall = r.tall in record { left = omega (arith, ints); right = omega (arith, ints); low = omega (arith, ints); high = omega (arith, ints) }

pub none_single : (boxes : List Rect) → HaveNone boxes → IsNoRectangle boxes
none_single boxes none r same = none r.x1 r.y1 ((same r.x1 r.y1).0 (first_cell r))

in_or_out : (r : Rect) (x y : ℤ) → HasCell r x y ⊎ (HasCell r x y → ⊥)
in_or_out r x y =
    by_lt_z x r.x1 (λ lt. inr (λ h. omega (arith, ints, lt, h.left))) (λ left. by_lt_z x r.x2
    (λ right. by_lt_z y r.y1 (λ lt. inr (λ h. omega (arith, ints, lt, h.low))) (λ low. by_lt_z y r.y2 (λ high. inl (record { left = left; right = right; low = low; high = high })) (λ ge. inr (λ h. omega (arith, ints, ge, h.high)))))
    (λ ge. inr (λ h. omega (arith, ints, ge, h.right))))

some_or_none : (boxes : List Rect) (x y : ℤ) → HasCellInSome boxes x y ⊎ (HasCellInSome boxes x y → ⊥)
some_or_none [] x y = inr (λ h. h)
some_or_none (r ∷ rs) x y = elim (in_or_out r x y) [
  | inl here ↦ inl (inl here)
  | inr not_here ↦ elim (some_or_none rs x y) [
    | inl there ↦ inl (inr there)
    | inr not_there ↦ inr (λ h. elim h [ inl a ↦ not_here a | inr b ↦ not_there b ])
  ]
]

-- nothing of the bounds lies outside of the boxes
pub all_covered : (boxes outside : List Rect) (area : Rect) → IsBoundOf boxes area → outside ≡ [] → ((x y : ℤ) → IsCellOutside (area ∷ []) boxes x y → HasCellInSome outside x y) → HasSameCells boxes area
all_covered boxes outside area b none each =
    same_is_bound boxes area b (λ x y h. elim (some_or_none boxes x y) [
      | inl some ↦ some
      | inr missing ↦ absurd (subst (λ (l : List Rect). HasCellInSome l x y) none (each x y (record { among = inl h; none = missing })))
    ])

-- something does
pub some_uncovered : (boxes outside : List Rect) (area : Rect) → IsBoundOf boxes area → (outside ≡ [] → ⊥) → ((x y : ℤ) → HasCellInSome outside x y → IsCellOutside (area ∷ []) boxes x y) → IsNoRectangle boxes
some_uncovered boxes [] area b some only = absurd (some refl)
some_uncovered boxes (r ∷ rs) area b some only =
    let o = only r.x1 r.y1 (inl (first_cell r)) in
    no_same boxes area r.x1 r.y1 b (only_cell area r.x1 r.y1 o.among) o.none

pub not_none : (seen all : List Rect) → seen ≡ all → (length seen == 0) ≡ false → all ≡ [] → ⊥
not_none seen all e test none =
    let some : 0 < length seen = some_left (length seen) test in
    let zero : length seen ≡ 0 = ap length (e ∙ none) in
    omega arith
