-- Lists of boxes that grow by unit cells.
use Rattle.std.proofs.Common.{◌≡◌, ◌⊎◌, inl, inr, ℤ, List, [], ◌∷◌, ◌++◌, sym, subst, arith}
use Rattle.std.proofs.lemmas.Int.{ints}
use Rattle.or_geom.specs.declared.shape.Rect.{Rect}
use Rattle.or_geom.specs.Covered.{HasCell, HasCellInSome}
use Rattle.box_pieces.specs.Cells.{AddsCells, IsBetweenSides}

pub cells_first : (a b : List Rect) (x y : ℤ) → HasCellInSome a x y → HasCellInSome (a ++ b) x y
cells_first [] b x y h = absurd h
cells_first (r ∷ rs) b x y (inl h) = inl h
cells_first (r ∷ rs) b x y (inr h) = inr (cells_first rs b x y h)

pub cells_second : (a b : List Rect) (x y : ℤ) → HasCellInSome b x y → HasCellInSome (a ++ b) x y
cells_second [] b x y h = h
cells_second (r ∷ rs) b x y h = inr (cells_second rs b x y h)

pub cells_cases : (a b : List Rect) (x y : ℤ) → HasCellInSome (a ++ b) x y → HasCellInSome a x y ⊎ HasCellInSome b x y
cells_cases [] b x y h = inr h
cells_cases (r ∷ rs) b x y (inl h) = inl (inl h)
cells_cases (r ∷ rs) b x y (inr h) = elim (cells_cases rs b x y h) [ inl f ↦ inl (inr f) | inr s ↦ inr s ]

-- the one cell of a list of one box
pub only_cell : (r : Rect) (x y : ℤ) → HasCellInSome (r ∷ []) x y → HasCell r x y
only_cell r x y (inl h) = h
only_cell r x y (inr h) = absurd h

pub adds_no_cell : (boxes : List Rect) (P : ℤ → ℤ → Type 0) → ((x y : ℤ) → P x y → ⊥) → AddsCells boxes boxes P
adds_no_cell boxes P none = record { kept = λ x y h. h; only = λ x y h. inl h; each = λ x y p. absurd (none x y p) }

pub adds_boxes : (old added new : List Rect) (P : ℤ → ℤ → Type 0) → new ≡ old ++ added → ((x y : ℤ) → HasCellInSome added x y → P x y) → ((x y : ℤ) → P x y → HasCellInSome added x y) → AddsCells old new P
adds_boxes old added new P is to from = subst (λ (boxes : List Rect). AddsCells old boxes P) (sym is) (record {
  kept = λ x y h. cells_first old added x y h;
  only = λ x y h. elim (cells_cases old added x y h) [ inl f ↦ inl f | inr s ↦ inr (to x y s) ];
  each = λ x y p. cells_second old added x y (from x y p);
})

pub adds_one_box : (old new : List Rect) (r : Rect) (P : ℤ → ℤ → Type 0) → new ≡ old ++ r ∷ [] → ((x y : ℤ) → HasCell r x y → P x y) → ((x y : ℤ) → P x y → HasCell r x y) → AddsCells old new P
adds_one_box old new r P is to from = adds_boxes old (r ∷ []) new P is (λ x y h. to x y (only_cell r x y h)) (λ x y p. inl (from x y p))

pub adds_two : (old mid new : List Rect) (P Q : ℤ → ℤ → Type 0) → AddsCells old mid P → AddsCells mid new Q → AddsCells old new (λ x y. P x y ⊎ Q x y)
adds_two old mid new P Q a b = record {
  kept = λ x y h. b.kept x y (a.kept x y h);
  only = λ x y h. elim (b.only x y h) [
    | inl m ↦ elim (a.only x y m) [ inl o ↦ inl o | inr p ↦ inr (inl p) ]
    | inr q ↦ inr (inr q)
  ];
  each = λ x y h. elim h [ inl p ↦ b.kept x y (a.each x y p) | inr q ↦ b.each x y q ];
}

pub adds_same : (old new : List Rect) (P Q : ℤ → ℤ → Type 0) → ((x y : ℤ) → P x y → Q x y) → ((x y : ℤ) → Q x y → P x y) → AddsCells old new P → AddsCells old new Q
adds_same old new P Q to from a = record {
  kept = a.kept;
  only = λ x y h. elim (a.only x y h) [ inl o ↦ inl o | inr p ↦ inr (to x y p) ];
  each = λ x y q. a.each x y (from x y q);
}

-- a rectangle with these sides was added
pub adds_sides : (old new : List Rect) (r : Rect) (x1 y1 x2 y2 : ℤ) → new ≡ old ++ r ∷ [] → r.x1 ≡ x1 → r.y1 ≡ y1 → r.x2 ≡ x2 → r.y2 ≡ y2 → AddsCells old new (IsBetweenSides x1 y1 x2 y2)
adds_sides old new r x1 y1 x2 y2 is left low right high = adds_one_box old new r (IsBetweenSides x1 y1 x2 y2) is
    (λ x y h. record { left = omega (arith, ints, h.left); right = omega (arith, ints, h.right); low = omega (arith, ints, h.low); high = omega (arith, ints, h.high) })
    (λ x y b. record { left = omega (arith, ints, b.left); right = omega (arith, ints, b.right); low = omega (arith, ints, b.low); high = omega (arith, ints, b.high) })

pub sides_as : (old new : List Rect) (a b c d x1 y1 x2 y2 : ℤ) → a ≡ x1 → b ≡ y1 → c ≡ x2 → d ≡ y2 → AddsCells old new (IsBetweenSides a b c d) → AddsCells old new (IsBetweenSides x1 y1 x2 y2)
sides_as old new a b c d x1 y1 x2 y2 left low right high added = adds_same old new (IsBetweenSides a b c d) (IsBetweenSides x1 y1 x2 y2)
    (λ x y h. record { left = omega (arith, ints, h.left); right = omega (arith, ints, h.right); low = omega (arith, ints, h.low); high = omega (arith, ints, h.high) })
    (λ x y h. record { left = omega (arith, ints, h.left); right = omega (arith, ints, h.right); low = omega (arith, ints, h.low); high = omega (arith, ints, h.high) }) added
