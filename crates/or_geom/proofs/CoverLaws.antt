-- Covering an area row by row, and a row from one rectangle to the next.
use Rattle.std.proofs.Common.{◌≡◌, inl, inr, ℕ, ◌+◌, ◌<◌, List, [], ◌∷◌, length, get_or, drop, ℤ, ◌≤ℤ◌, ◌<ℤ◌, subst, sym, arith}
use Rattle.std.specs.Int.{int_min}
use Rattle.std.proofs.lemmas.Int.{ints, clamps, by_lt_z}
use Rattle.std.proofs.lemmas.List.{at_drop_more}
use Rattle.or_geom.specs.declared.shape.Point.{Point}
use Rattle.or_geom.specs.declared.shape.Rect.{Rect}
use Rattle.or_geom.specs.Covered.{HasCell, HasCellInSome, IsCovered}
use Rattle.or_geom.specs.Row.{IsFound, IsRowOf, AreRowsTo}
use Rattle.std.specs.Prelude.{Contains}
use Rattle.or_geom.proofs.ListLaws.{contains_none, contains_cases}

-- a cell of a rectangle of the list lies in one of them
pub cell_among : (rects : List Rect) (r : Rect) (x y : ℤ) → Contains rects r → HasCell r x y → HasCellInSome rects x y
cell_among [] r x y one h = absurd (contains_none r one)
cell_among (s ∷ rs) r x y one h = elim (contains_cases s rs r one) [
  | inl e ↦ inl (subst (λ (t : Rect). HasCell t x y) e h)
  | inr more ↦ inr (cell_among rs r x y more h)
]

-- so the rectangle is covered by the list
pub own_covered : (rects : List Rect) (i : ℕ) (r : Rect) → i < length rects → r ≡ get_or rects i r → IsCovered r rects
own_covered rects i r lt e x y h = cell_among rects r x y (i, lt, sym e) h

-- what holds the cell stands among those left
abbrev pub IsLeft : List Rect → ℕ → Point → Type 0
IsLeft rects i cell = HasCellInSome rects cell.x cell.y → HasCellInSome (drop i rects) cell.x cell.y

pub one_less : (rects : List Rect) (i : ℕ) (r : Rect) (cell : Point) → i < length rects → r ≡ get_or rects i r → (HasCell r cell.x cell.y → ⊥) → IsLeft rects i cell → IsLeft rects (i + 1) cell
one_less rects i r cell lt e not_here left some =
    elim (subst (λ (rs : List Rect). HasCellInSome rs cell.x cell.y) (at_drop_more (λ (rs : List Rect). rs) rects i r lt) (left some)) [
      | inl here ↦ absurd (not_here (subst (λ (t : Rect). HasCell t cell.x cell.y) (sym e) here))
      | inr there ↦ there
    ]

-- the area's cells between the row and the corner are covered
pub record IsBegun (rects : List Rect) (area : Rect) (row corner : Point) : Type 0 where
  pub left : area.x1 ≤ℤ corner.x
  pub right : corner.x <ℤ area.x2
  pub low : row.y <ℤ corner.y
  pub high : corner.y ≤ℤ area.y2
  pub done : (x y : ℤ) → area.x1 ≤ℤ x → x <ℤ corner.x → row.y ≤ℤ y → y <ℤ corner.y → HasCellInSome rects x y

-- the cells left of the next corner
further : (rects : List Rect) (area : Rect) (row corner cell : Point) (r : Rect) → IsBegun rects area row corner → cell.x ≡ corner.x → cell.y ≡ row.y → IsFound rects cell r
    → (x y : ℤ) → area.x1 ≤ℤ x → x <ℤ r.x2 → row.y ≤ℤ y → y <ℤ int_min corner.y r.y2 → HasCellInSome rects x y
further rects area row corner cell r b a e f x y l u d h =
    by_lt_z x corner.x (λ before. b.done x y l before d (omega (arith, ints, clamps)))
    (λ after. f.covered x y (record { left = omega (arith, ints, f.holds.left); right = u; low = omega (arith, ints, f.holds.low); high = omega (arith, ints, clamps) }))

pub row_ends : (rects : List Rect) (area : Rect) (row corner cell next : Point) (r : Rect) → IsBegun rects area row corner → cell.x ≡ corner.x → cell.y ≡ row.y → IsFound rects cell r → area.x2 ≤ℤ r.x2
    → next.x ≡ area.x1 → next.y ≡ int_min corner.y r.y2 → AreRowsTo rects area row next
row_ends rects area row corner cell next r b a e f end x y = record {
  left = x;
  higher = omega (arith, ints, clamps, b.low, f.holds.high);
  within = omega (arith, ints, clamps, b.high);
  covered = λ i j h low high. further rects area row corner cell r b a e f i j h.left (omega (arith, ints, h.right)) low (omega (arith, ints));
}

pub row_goes_on : (rects : List Rect) (area : Rect) (row corner cell next : Point) (r : Rect) → IsBegun rects area row corner → cell.x ≡ corner.x → cell.y ≡ row.y → IsFound rects cell r → r.x2 <ℤ area.x2
    → next.x ≡ r.x2 → next.y ≡ int_min corner.y r.y2 → IsBegun rects area row next
row_goes_on rects area row corner cell next r b a e f more x y = record {
  left = omega (arith, ints, b.left, f.holds.right);
  right = omega (arith, ints);
  low = omega (arith, ints, clamps, b.low, f.holds.high);
  high = omega (arith, ints, clamps, b.high);
  done = λ i j l u d h. further rects area row corner cell r b a e f i j l (omega (arith, ints)) d (omega (arith, ints));
}

-- the rows below this one are covered
pub record IsRaised (rects : List Rect) (area : Rect) (row : Point) : Type 0 where
  pub row_of : IsRowOf area row
  pub done : (x y : ℤ) → HasCell area x y → y <ℤ row.y → HasCellInSome rects x y
