-- Boxes that are joined stay filled.
use Rattle.std.proofs.Common.{◌≡◌, inl, inr, ℕ, ℤ, List, [], ◌∷◌, ◌++◌, length, length-append, append-nil, Option, None, Some, refl, sym, ap, subst, ◌∙◌, arith}
use Rattle.std.specs.Prelude.{All, Contains, IfSome, MatchOption}
use Rattle.std.specs.List.Sorted.{IsPermutation}
use Rattle.std.proofs.lemmas.List.Elements.{All-contains, All-push, All-pop}
use Rattle.std.proofs.lemmas.List.Sorted.{All-permutation, length_permutation}
use Rattle.std.proofs.lemmas.Int.{ints, clamps, by_lt_z}
use Rattle.or_geom.specs.declared.shape.Rect.{Rect}
use Rattle.or_geom.specs.declared.shape.Point.{Point}
use Rattle.or_geom.specs.declared.shape.Shape.{Shape}
use Rattle.or_geom.specs.Covered.{HasCellInSome, IsCovered}
use Rattle.or_geom.specs.Row.{IsFound}
use Rattle.or_geom.proofs.CoverLaws.{cell_among}
use Rattle.shape_bins.specs.declared.filled.Filled.{Filled}
use Rattle.or_geom.specs.Containing.{IsAround}
use Rattle.shape_bins.specs.Layers.{rects_on}
use Rattle.shape_bins.specs.Filled.{AreStacked, AreBeside, IsFilledBox, AreFilledBoxes, IsFilledBy, AreJoinedTo, AddsFilled, AreJoinedOf, AreJoinedFrom}
use Rattle.shape_bins.proofs.CoverLaws.{on_rects, shape_over}

pub stacked_covered : (a b r : Rect) → AreStacked a b → IsAround a b r → IsCovered r (a ∷ b ∷ [])
stacked_covered a b r s i x y h =
    by_lt_z y a.y1
    (λ lower. inr (inl (record {
      left = omega (arith, ints, clamps, s.left, i.x1, h.left);
      right = omega (arith, ints, clamps, s.right, i.x2, h.right);
      low = omega (arith, ints, clamps, i.y1, h.low);
      high = omega (arith, ints, s.under);
    })))
    (λ above. by_lt_z y a.y2
    (λ inside. inl (record { left = omega (arith, ints, clamps, s.left, i.x1, h.left); right = omega (arith, ints, clamps, s.right, i.x2, h.right); low = above; high = inside }))
    (λ upper. inr (inl (record {
      left = omega (arith, ints, clamps, s.left, i.x1, h.left);
      right = omega (arith, ints, clamps, s.right, i.x2, h.right);
      low = omega (arith, ints, s.over);
      high = omega (arith, ints, clamps, i.y2, h.high);
    }))))

pub beside_covered : (a b r : Rect) → AreBeside a b → IsAround a b r → IsCovered r (a ∷ b ∷ [])
beside_covered a b r s i x y h =
    by_lt_z x a.x1
    (λ lower. inr (inl (record {
      left = omega (arith, ints, clamps, i.x1, h.left);
      right = omega (arith, ints, s.before);
      low = omega (arith, ints, clamps, s.low, i.y1, h.low);
      high = omega (arith, ints, clamps, s.high, i.y2, h.high);
    })))
    (λ above. by_lt_z x a.x2
    (λ inside. inl (record { left = above; right = inside; low = omega (arith, ints, clamps, s.low, i.y1, h.low); high = omega (arith, ints, clamps, s.high, i.y2, h.high) }))
    (λ upper. inr (inl (record {
      left = omega (arith, ints, s.after);
      right = omega (arith, ints, clamps, i.x2, h.right);
      low = omega (arith, ints, clamps, s.low, i.y1, h.low);
      high = omega (arith, ints, clamps, s.high, i.y2, h.high);
    }))))

-- what the shapes fill with two boxes they fill with the box of both
pub joint_filled : (shapes : List Shape) (a b j : Filled) → AreJoinedTo a b j → IsFilledBy shapes a → IsFilledBy shapes b → IsFilledBy shapes j
joint_filled shapes a b j is p q x y h = elim (is.covered x y h) [
  | inl here ↦ subst (λ (layer : ℕ). HasCellInSome (rects_on layer shapes) x y) is.first (p x y here)
  | inr more ↦ elim more [
    | inl there ↦ subst (λ (layer : ℕ). HasCellInSome (rects_on layer shapes) x y) is.second (q x y there)
    | inr none ↦ absurd none
  ]
]

-- a shape fills its own rectangle
pub own_filled : (shapes : List Shape) (s : Shape) → Contains shapes s → IsCovered s.rect (rects_on s.layer shapes)
own_filled shapes s there x y h = cell_among (rects_on s.layer shapes) s.rect x y (on_rects s.layer shapes s there refl) h

-- what filled boxes cover the shapes cover
pub cell_filled : (shapes boxes : List Shape) (layer : ℕ) (x y : ℤ) → AreFilledBoxes shapes boxes → HasCellInSome (rects_on layer boxes) x y → HasCellInSome (rects_on layer shapes) x y
cell_filled shapes boxes layer x y filled h =
    let o = shape_over layer boxes x y h in
    subst (λ (l : ℕ). HasCellInSome (rects_on l shapes) x y) o.on (All-contains (IsFilledBox shapes) boxes o.shape filled o.there x y o.holds)

pub found_filled : (shapes boxes : List Shape) (layer : ℕ) (cell : Point) (found : Option Rect) → AreFilledBoxes shapes boxes → MatchOption found (HasCellInSome (rects_on layer boxes) cell.x cell.y → ⊥) (IsFound (rects_on layer boxes) cell)
    → IfSome found (IsFound (rects_on layer shapes) cell)
found_filled shapes boxes layer cell None filled f = tt
found_filled shapes boxes layer cell (Some r) filled f = record { holds = f.holds; covered = λ x y h. cell_filled shapes boxes layer x y filled (f.covered x y h) }

-- a box was added behind the others
pub adds_behind : (f : Filled) (old new : List Filled) → new ≡ old ++ f ∷ [] → AddsFilled f old new
adds_behind f old new is = record {
  few = rw is (rw length-append (omega arith));
  kept = λ shapes all own. subst (λ (l : List Filled). All (IsFilledBy shapes) l) (sym is) (All-push (IsFilledBy shapes) old f all own);
}

pub adds_first : (f : Filled) (old popped new : List Filled) → old ≡ popped ++ [] → new ≡ popped ++ f ∷ [] → AddsFilled f old new
adds_first f old popped new was is = adds_behind f old new (subst (λ (l : List Filled). new ≡ l ++ f ∷ []) (sym (was ∙ append-nil popped)) is)

pub adds_again : (f last : Filled) (old popped put new : List Filled) → old ≡ popped ++ last ∷ [] → put ≡ popped ++ last ∷ [] → new ≡ put ++ f ∷ [] → AddsFilled f old new
adds_again f last old popped put new was again is = adds_behind f old new (subst (λ (l : List Filled). new ≡ l ++ f ∷ []) (again ∙ sym was) is)

-- or in place of the last one
pub adds_instead : (f last : Filled) (old popped new : List Filled) → old ≡ popped ++ last ∷ [] → new ≡ popped ++ f ∷ [] → AddsFilled f old new
adds_instead f last old popped new was is = record {
  few = rw (was, is) (rw (length-append, length-append) (omega arith));
  kept = λ shapes all own. subst (λ (l : List Filled). All (IsFilledBy shapes) l) (sym is) (All-push (IsFilledBy shapes) popped f (All-pop (IsFilledBy shapes) old popped (Some last) was all).0 own);
}

-- or joined with the last one
pub adds_joint : (f last j : Filled) (old popped new : List Filled) → old ≡ popped ++ last ∷ [] → AreJoinedTo last f j → new ≡ popped ++ j ∷ [] → AddsFilled f old new
adds_joint f last j old popped new was joint is = record {
  few = rw (was, is) (rw (length-append, length-append) (omega arith));
  kept = λ shapes all own.
      let parts = All-pop (IsFilledBy shapes) old popped (Some last) was all in
      subst (λ (l : List Filled). All (IsFilledBy shapes) l) (sym is) (All-push (IsFilledBy shapes) popped j parts.0 (joint_filled shapes last f j joint parts.1 own));
}

-- the columns of shapes are joined, and joined again in another order
pub joined_twice : (shapes : List Shape) (columns sorted read rows ranked again out : List Filled) → AreJoinedFrom shapes columns → IsPermutation columns sorted → read ≡ sorted → AreJoinedOf read rows → IsPermutation rows ranked → again ≡ ranked
    → AreJoinedOf again out → AreJoinedFrom shapes out
joined_twice shapes columns sorted read rows ranked again out from p r one q s two =
    let first : All (IsFilledBy shapes) read = subst (λ (l : List Filled). All (IsFilledBy shapes) l) (sym r) (All-permutation (IsFilledBy shapes) columns sorted p from.filled) in
    let second : All (IsFilledBy shapes) again = subst (λ (l : List Filled). All (IsFilledBy shapes) l) (sym s) (All-permutation (IsFilledBy shapes) rows ranked q (one.kept shapes first)) in
    let len_first : length read ≡ length columns = ap (λ (l : List Filled). length l) r ∙ length_permutation columns sorted p in
    let len_second : length again ≡ length rows = ap (λ (l : List Filled). length l) s ∙ length_permutation rows ranked q in
    record { few = omega (arith, two.few, one.few, from.few, len_first, len_second); filled = two.kept shapes second }
