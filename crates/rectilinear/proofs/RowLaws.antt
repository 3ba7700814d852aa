-- The maximal stretches of a row.
use Rattle.std.proofs.Common.{◌≡◌, inl, inr, List, [], ◌∷◌, ℤ, pos, ◌-ℤ◌, ◌≤ℤ◌, ◌<ℤ◌, Bool, true, false, refl, sym, subst, ◌∙◌, arith}
use Rattle.std.specs.Prelude.{int_le, Contains}
use Rattle.rectilinear.specs.Slabs.{xor}
use Rattle.std.proofs.lemmas.Int.{ints, by_lt_z}
use Rattle.rectilinear.specs.declared.ends.End.{End}
use Rattle.or_geom.specs.declared.shape.Rect.{Rect}
use Rattle.or_geom.proofs.ListLaws.{contains_none, contains_cases, contains_here, contains_later}
use Rattle.or_geom.proofs.PlaceLaws.{same_rect}
use Rattle.rectilinear.specs.Rows.{is_odd_to, RiseAbove, Rise, ArePairs, IsStretch}
use Rattle.rectilinear.specs.Slabs.{AreDistinct}

pub at_or_left : (h x : ℤ) → h ≤ℤ x → int_le h x ≡ true
at_or_left h x le = grind (arith, ints)

pub not_left : (h x : ℤ) → x <ℤ h → int_le h x ≡ false
not_left h x lt = grind (arith, ints)

-- no end lies left of them all
pub none_to : (low : ℤ) (es : List End) (x : ℤ) → RiseAbove low es → x ≤ℤ low → is_odd_to es x ≡ false
none_to low [] x rise le = refl
none_to low (e ∷ es) x rise le =
    (λ i. xor (not_left e.x x (omega (arith, ints, rise.0)) i) (none_to e.x es x rise.1 (omega (arith, ints, rise.0)) i))

-- between a pair the number is odd, past it as of the others
pub past_pair : (a b : End) (es : List End) (x : ℤ) → a.x <ℤ b.x → b.x ≤ℤ x → is_odd_to (a ∷ b ∷ es) x ≡ is_odd_to es x
past_pair a b es x lt le = (λ i. xor (at_or_left a.x x (omega (arith, ints)) i) (xor (at_or_left b.x x le i) (is_odd_to es x))) ∙ twice (is_odd_to es x)
  where
    twice : (t : Bool) → xor true (xor true t) ≡ t
    twice true = refl
    twice false = refl

in_pair : (a b : End) (es : List End) (x : ℤ) → RiseAbove b.x es → a.x ≤ℤ x → x <ℤ b.x → is_odd_to (a ∷ b ∷ es) x ≡ true
in_pair a b es x rise ge lt = (λ i. xor (at_or_left a.x x ge i) (xor (not_left b.x x lt i) (none_to b.x es x rise (omega (arith, ints)) i)))

pub before_pair : (a b : End) (es : List End) (x : ℤ) → a.x <ℤ b.x → RiseAbove b.x es → x <ℤ a.x → is_odd_to (a ∷ b ∷ es) x ≡ false
before_pair a b es x ab rise lt = (λ i. xor (not_left a.x x lt i) (xor (not_left b.x x (omega (arith, ints)) i) (none_to b.x es x rise (omega (arith, ints)) i)))

pub rises : (low : ℤ) (es : List End) → RiseAbove low es → Rise es
rises low [] r = tt
rises low (e ∷ es) r = r.1

pub true_not_false : {P : Type 0} (t : Bool) → t ≡ true → t ≡ false → P
true_not_false t e f = absurd cc

stretch_here : (a b : End) (es : List End) (low high : ℤ) (s : Rect) → a.x <ℤ b.x → RiseAbove b.x es → s.x1 ≡ a.x → s.x2 ≡ b.x → s.y1 ≡ low → s.y2 ≡ high → IsStretch (a ∷ b ∷ es) low high s
stretch_here a b es low high s ab rise e1 e2 e3 e4 = record {
  low_is = e3;
  high_is = e4;
  inside = λ x ge lt. in_pair a b es x rise (omega (arith, ints, e1)) (omega (arith, ints, e2));
  left_end = before_pair a b es (s.x1 -ℤ pos 1) ab rise (omega (arith, ints, e1));
  right_end = past_pair a b es s.x2 ab (omega (arith, ints, e2)) ∙ none_to b.x es s.x2 rise (omega (arith, ints, e2));
}

-- a cell with an odd number to its left lies right of the lowest end
pub odd_above : (low : ℤ) (es : List End) (x : ℤ) → RiseAbove low es → is_odd_to es x ≡ true → low <ℤ x
odd_above low es x rise odd = by_lt_z low x (λ lt. lt) (λ le. true_not_false _ odd (none_to low es x rise le))

stretch_later : (a b : End) (es : List End) (low high : ℤ) (r : Rect) → a.x <ℤ b.x → RiseAbove b.x es → IsStretch es low high r → IsStretch (a ∷ b ∷ es) low high r
stretch_later a b es low high r ab rise s =
    let wide : r.x1 <ℤ r.x2 = r.wide in
    let first = odd_above b.x es r.x1 rise (s.inside r.x1 (omega (arith, ints)) wide) in
    record {
      low_is = s.low_is;
      high_is = s.high_is;
      inside = λ x ge lt. past_pair a b es x ab (omega (arith, ints, first)) ∙ s.inside x ge lt;
      left_end = past_pair a b es (r.x1 -ℤ pos 1) ab (omega (arith, ints, first)) ∙ s.left_end;
      right_end = past_pair a b es r.x2 ab (omega (arith, ints, first)) ∙ s.right_end;
    }

are_stretches : (es : List End) (low high : ℤ) (rects : List Rect) → Rise es → ArePairs es low high rects → (r : Rect) → Contains rects r → IsStretch es low high r
are_stretches [] low high [] rise pairs r one = absurd (contains_none r one)
are_stretches [] low high (s ∷ rs) rise pairs r one = absurd pairs
are_stretches (a ∷ []) low high rs rise pairs r one = absurd pairs
are_stretches (a ∷ b ∷ es) low high [] rise pairs r one = absurd pairs
are_stretches (a ∷ b ∷ es) low high (s ∷ rs) rise pairs r one = elim (contains_cases s rs r one) [
  | inl e ↦ subst (λ (t : Rect). IsStretch (a ∷ b ∷ es) low high t) (sym e) (stretch_here a b es low high s rise.0 rise.1 pairs.0.0 pairs.0.1 pairs.0.2 pairs.0.3)
  | inr more ↦ stretch_later a b es low high r rise.0 rise.1 (are_stretches es low high rs (rises b.x es rise.1) pairs.1 r more)
]

is_first : (a b : End) (es : List End) (low high : ℤ) (r : Rect) → a.x <ℤ b.x → RiseAbove b.x es → IsStretch (a ∷ b ∷ es) low high r → r.x1 <ℤ b.x → (r.x1 ≡ a.x) × (r.x2 ≡ b.x)
is_first a b es low high r ab rise s lt =
    let wide : r.x1 <ℤ r.x2 = r.wide in
    let here = s.inside r.x1 (omega (arith, ints)) wide in
    let from : a.x ≤ℤ r.x1 = by_lt_z r.x1 a.x (λ l. true_not_false _ here (before_pair a b es r.x1 ab rise l)) (λ g. g) in
    let to : r.x1 ≤ℤ a.x = by_lt_z a.x r.x1 (λ l. true_not_false _ (in_pair a b es (r.x1 -ℤ pos 1) rise (omega (arith, ints, l)) (omega (arith, ints, lt))) s.left_end) (λ g. g) in
    let over : b.x ≤ℤ r.x2 = by_lt_z r.x2 b.x (λ l. true_not_false _ (in_pair a b es r.x2 rise (omega (arith, ints, from, wide)) l) s.right_end) (λ g. g) in
    let under : r.x2 ≤ℤ b.x = by_lt_z b.x r.x2 (λ l. true_not_false _ (s.inside b.x (omega (arith, ints, lt)) l) (past_pair a b es b.x ab (omega (arith, ints)) ∙ none_to b.x es b.x rise (omega (arith, ints)))) (λ g. g) in
    (omega (arith, ints, from, to), omega (arith, ints, over, under))

is_later : (a b : End) (es : List End) (low high : ℤ) (r : Rect) → a.x <ℤ b.x → RiseAbove b.x es → IsStretch (a ∷ b ∷ es) low high r → b.x ≤ℤ r.x1 → IsStretch es low high r
is_later a b es low high r ab rise s ge =
    let wide : r.x1 <ℤ r.x2 = r.wide in
    let far : b.x ≤ℤ (r.x1 -ℤ pos 1) = by_lt_z (r.x1 -ℤ pos 1) b.x (λ l. true_not_false _ (in_pair a b es (r.x1 -ℤ pos 1) rise (omega (arith, ints, ge, ab)) l) s.left_end) (λ g. g) in
    record {
      low_is = s.low_is;
      high_is = s.high_is;
      inside = λ x from lt. sym (past_pair a b es x ab (omega (arith, ints, ge, from))) ∙ s.inside x from lt;
      left_end = sym (past_pair a b es (r.x1 -ℤ pos 1) ab far) ∙ s.left_end;
      right_end = sym (past_pair a b es r.x2 ab (omega (arith, ints, ge, wide))) ∙ s.right_end;
    }

all_stretches : (es : List End) (low high : ℤ) (rects : List Rect) → Rise es → ArePairs es low high rects → (r : Rect) → IsStretch es low high r → Contains rects r
all_stretches [] low high rects rise pairs r s =
    let wide : r.x1 <ℤ r.x2 = r.wide in true_not_false _ (s.inside r.x1 (omega (arith, ints)) wide) refl
all_stretches (a ∷ []) low high rs rise pairs r s = absurd pairs
all_stretches (a ∷ b ∷ es) low high [] rise pairs r s = absurd pairs
all_stretches (a ∷ b ∷ es) low high (t ∷ rs) rise pairs r s =
    by_lt_z r.x1 b.x
    (λ lt. let is = is_first a b es low high r rise.0 rise.1 s lt in
    contains_here t rs r (same_rect r t (is.0 ∙ sym pairs.0.0) (s.low_is ∙ sym pairs.0.2) (is.1 ∙ sym pairs.0.1) (s.high_is ∙ sym pairs.0.3)))
    (λ ge. contains_later t rs r (all_stretches es low high rs (rises b.x es rise.1) pairs.1 r (is_later a b es low high r rise.0 rise.1 s ge)))

-- pairs of rising ends are the maximal stretches
pub stretches_are_pairs : (es : List End) (low high : ℤ) (rects : List Rect) → Rise es → ArePairs es low high rects → (r : Rect) → (Contains rects r → IsStretch es low high r) × (IsStretch es low high r → Contains rects r)
stretches_are_pairs es low high rects rise pairs r = (are_stretches es low high rects rise pairs r, all_stretches es low high rects rise pairs r)

-- the rectangles of ends above low begin above low
pair_above : (low : ℤ) (es : List End) (y1 y2 : ℤ) (rects : List Rect) → RiseAbove low es → ArePairs es y1 y2 rects → (r : Rect) → Contains rects r → low <ℤ r.x1
pair_above low es y1 y2 rects rise pairs r one =
    let s = are_stretches es y1 y2 rects (rises low es rise) pairs r one in
    let wide : r.x1 <ℤ r.x2 = r.wide in
    odd_above low es r.x1 rise (s.inside r.x1 (omega (arith, ints)) wide)

-- each pair begins further right than those before
pub pairs_distinct : (es : List End) (low high : ℤ) (rects : List Rect) → Rise es → ArePairs es low high rects → AreDistinct rects
pairs_distinct [] low high [] rise pairs = tt
pairs_distinct [] low high (s ∷ rs) rise pairs = absurd pairs
pairs_distinct (a ∷ []) low high rs rise pairs = absurd pairs
pairs_distinct (a ∷ b ∷ es) low high [] rise pairs = absurd pairs
pairs_distinct (a ∷ b ∷ es) low high (s ∷ rs) rise pairs = (
  λ has. let above = pair_above b.x es low high rs rise.1 pairs.1 s has in let at = pairs.0.0 in let ab = rise.0 in absurd (omega (arith, ints, above, at, ab)),
  pairs_distinct es low high rs (rises b.x es rise.1) pairs.1,
)
