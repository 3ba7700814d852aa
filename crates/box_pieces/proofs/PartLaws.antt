-- Parts of boxes in an area, and rectangles round boxes, gathered box by box.
use Rattle.std.proofs.Common.{◌≡◌, ◌⊎◌, inl, inr, ℕ, ◌+◌, ◌<◌, ◌≤◌, ℤ, List, [], ◌∷◌, ◌++◌, length, get_or, drop, sym, subst, arith}
use Rattle.std.proofs.lemmas.Int.{ints}
use Rattle.std.proofs.lemmas.List.{at_drop_more, at_drop_all}
use Rattle.or_geom.specs.declared.shape.Rect.{Rect}
use Rattle.or_geom.specs.Covered.{HasCell, HasCellInSome}
use Rattle.or_geom.proofs.CoverLaws.{cell_among}
use Rattle.or_geom.proofs.ContainingLaws.{around_first, around_second, around_least}
use Rattle.or_geom.specs.Containing.{HoldsRect, IsAround}
use Rattle.box_pieces.specs.Cells.{IsIntersection, ShareNoCell, AreParts, HoldsAll, IsBoundOf, HasSameCells}
use Rattle.box_pieces.proofs.CellLaws.{cells_first, cells_second, cells_cases, only_cell}
use Rattle.box_pieces.proofs.CommonLaws.{is_part}

-- a unit cell of a part is one of the rectangle
in_part : (rect part : Rect) (x y : ℤ) → HoldsRect rect part → HasCell part x y → HasCell rect x y
in_part rect part x y p h = record { left = omega (arith, ints, p.left, h.left); right = omega (arith, ints, p.right, h.right); low = omega (arith, ints, p.low, h.low); high = omega (arith, ints, p.high, h.high) }

-- gathering the parts of boxes that lie in an area: those so far, and the boxes that are left
pub record ArePartsSoFar (area : Rect) (boxes : List Rect) (done : ℕ) (parts : List Rect) : Type 0 where
  pub only : (x y : ℤ) → HasCellInSome parts x y → HasCell area x y × HasCellInSome boxes x y
  pub each : (x y : ℤ) → HasCell area x y → HasCellInSome boxes x y → HasCellInSome parts x y ⊎ HasCellInSome (drop done boxes) x y

pub parts_begin : (area : Rect) (boxes parts : List Rect) → parts ≡ [] → ArePartsSoFar area boxes 0 parts
parts_begin area boxes parts is = record { only = λ x y h. absurd (subst (λ (l : List Rect). HasCellInSome l x y) is h); each = λ x y a h. inr h }

next_cell : (boxes : List Rect) (k : ℕ) (r : Rect) (x y : ℤ) → k < length boxes → r ≡ get_or boxes k r → HasCellInSome (drop k boxes) x y → HasCell r x y ⊎ HasCellInSome (drop (k + 1) boxes) x y
next_cell boxes k r x y lt is h = elim (subst (λ (l : List Rect). HasCellInSome l x y) (at_drop_more (λ (l : List Rect). l) boxes k r lt) h) [
  | inl here ↦ inl (subst (λ (t : Rect). HasCell t x y) (sym is) here)
  | inr more ↦ inr more
]

pub parts_skip : (area : Rect) (boxes parts : List Rect) (k : ℕ) (r : Rect) → k < length boxes → r ≡ get_or boxes k r → ShareNoCell r area → ArePartsSoFar area boxes k parts → ArePartsSoFar area boxes (k + 1) parts
parts_skip area boxes parts k r lt is none p = record {
  only = p.only;
  each = λ x y a h. elim (p.each x y a h) [
    | inl f ↦ inl f
    | inr left ↦ elim (next_cell boxes k r x y lt is left) [ inl here ↦ absurd (none x y here a) | inr more ↦ inr more ]
  ];
}

pub parts_more : (area : Rect) (boxes parts longer : List Rect) (k : ℕ) (r part : Rect) → k < length boxes → r ≡ get_or boxes k r → IsIntersection r area part → longer ≡ parts ++ part ∷ [] → ArePartsSoFar area boxes k parts → ArePartsSoFar area boxes (k + 1) longer
parts_more area boxes parts longer k r part lt is c e p = subst (λ (l : List Rect). ArePartsSoFar area boxes (k + 1) l) (sym e) (record {
  only = λ x y h. elim (cells_cases parts (part ∷ []) x y h) [
    | inl f ↦ p.only x y f
    | inr s ↦ let both = c.only x y (only_cell part x y s) in (both.1, cell_among boxes r x y (k, lt, sym is) both.0)
  ];
  each = λ x y a h. elim (p.each x y a h) [
    | inl f ↦ inl (cells_first parts (part ∷ []) x y f)
    | inr left ↦ elim (next_cell boxes k r x y lt is left) [
      | inl here ↦ inl (cells_second parts (part ∷ []) x y (inl (c.each x y here a)))
      | inr more ↦ inr more
    ]
  ];
})

pub none_left : (boxes : List Rect) (k : ℕ) (x y : ℤ) → drop k boxes ≡ [] → HasCellInSome (drop k boxes) x y → ⊥
none_left boxes k x y e h = subst (λ (l : List Rect). HasCellInSome l x y) e h

pub parts_end : (area : Rect) (boxes parts : List Rect) (k : ℕ) → length boxes ≤ k → ArePartsSoFar area boxes k parts → AreParts area boxes parts
parts_end area boxes parts k far p = let e : drop k boxes ≡ [] = at_drop_all (λ (l : List Rect). l) boxes k far in record {
  only = p.only;
  each = λ x y a h. elim (p.each x y a h) [ inl f ↦ f | inr left ↦ absurd (none_left boxes k x y e left) ];
}

-- a box that covers the area
pub area_alone : (area : Rect) (boxes : List Rect) (k : ℕ) (r : Rect) → k < length boxes → r ≡ get_or boxes k r → HoldsRect r area → AreParts area boxes (area ∷ [])
area_alone area boxes k r lt is part = record {
  only = λ x y h. let a = only_cell area x y h in (a, cell_among boxes r x y (k, lt, sym is) (in_part r area x y part a));
  each = λ x y a h. inl a;
}

-- a rectangle round the boxes so far, and the boxes that are left
pub record HoldsSoFar (boxes others : List Rect) (done : ℕ) (area : Rect) : Type 0 where
  pub rest : (x y : ℤ) → HasCellInSome others x y → HasCellInSome boxes x y
  pub each : (x y : ℤ) → HasCellInSome boxes x y → HasCell area x y ⊎ HasCellInSome (drop done others) x y
  pub least : (r : Rect) → HoldsAll boxes r → HoldsRect r area

pub bounds_begin : (boxes others : List Rect) (first : Rect) → boxes ≡ first ∷ others → HoldsSoFar boxes others 0 first
bounds_begin boxes others first e = record {
  rest = λ x y h. subst (λ (l : List Rect). HasCellInSome l x y) (sym e) (inr h);
  each = λ x y h. subst (λ (l : List Rect). HasCellInSome l x y) e h;
  least = λ r all. is_part r first (λ x y h. all x y (subst (λ (l : List Rect). HasCellInSome l x y) (sym e) (inl h)));
}

pub bounds_more : (boxes others : List Rect) (k : ℕ) (r old new : Rect) → k < length others → r ≡ get_or others k r → IsAround old r new → HoldsSoFar boxes others k old → HoldsSoFar boxes others (k + 1) new
bounds_more boxes others k r old new lt is round b = record {
  rest = b.rest;
  each = λ x y h. elim (b.each x y h) [
    | inl f ↦ inl (in_part new old x y (around_first old r new round) f)
    | inr left ↦ elim (next_cell others k r x y lt is left) [ inl here ↦ inl (in_part new r x y (around_second old r new round) here) | inr more ↦ inr more ]
  ];
  least = λ o all. around_least old r new o round (b.least o all) (is_part o r (λ x y h. all x y (b.rest x y (cell_among others r x y (k, lt, sym is) h))));
}

pub bounds_end : (boxes others : List Rect) (k : ℕ) (area : Rect) → length others ≤ k → HoldsSoFar boxes others k area → IsBoundOf boxes area
bounds_end boxes others k area far b =
    let e : drop k others ≡ [] = at_drop_all (λ (l : List Rect). l) others k far in
    record { holds = λ x y h. elim (b.each x y h) [ inl f ↦ f | inr left ↦ absurd (none_left others k x y e left) ]; least = b.least }

-- a rectangle with exactly the cells of the boxes is the least that has them all
pub same_is_bound : (boxes : List Rect) (area : Rect) → IsBoundOf boxes area → ((x y : ℤ) → HasCell area x y → HasCellInSome boxes x y) → HasSameCells boxes area
same_is_bound boxes area b all x y = (λ h. all x y h, λ h. b.holds x y h)

pub no_same : (boxes : List Rect) (area : Rect) (x y : ℤ) → IsBoundOf boxes area → HasCell area x y → (HasCellInSome boxes x y → ⊥) → (r : Rect) → HasSameCells boxes r → ⊥
no_same boxes area x y b here none r same = none ((same x y).0 (in_part r area x y (b.least r (λ i j h. (same i j).1 h)) here))
