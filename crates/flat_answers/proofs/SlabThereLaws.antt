-- Each ring has a list of its slabs.
use Rattle.std.proofs.Common.{◌≡◌, ◌⊎◌, inl, inr, ℕ, ◌<◌, ℤ, pos, ◌≤ℤ◌, ◌<ℤ◌, ◌+ℤ◌, ◌-ℤ◌, List, [], ◌∷◌, Bool, ◌&&◌, refl, sym, ◌∙◌, arith}
use Rattle.std.specs.Prelude.{unsigned_abs}
use Rattle.std.specs.List.Sorted.{IsStrictlySortedBy}
use Rattle.std.specs.declared.cmp.Ordering.{Ordering}
use Rattle.std.specs.declared.cmp.Ordering.TheVariants.{Less, Equal}
use Rattle.std.proofs.lemmas.Cmp.{tied_itself}
use Rattle.std.proofs.lemmas.Int.{ints, by_lt_z}
use Rattle.or_geom.specs.declared.shape.Point.{Point}
use Rattle.or_geom.specs.declared.shape.Rect.{Rect}
use Rattle.or_geom.specs.ShapeOrder.{rect_order}
use Rattle.or_geom.proofs.ListLaws.{all_contained}
use Rattle.or_geom.proofs.PlaceLaws.{same_rect}
use Rattle.or_geom.proofs.ShapeOrderLaws.{rect_total}
use Rattle.rectilinear.specs.declared.ring.RingSide.{RingSide}
use Rattle.rectilinear.specs.Ring.{sides_of, sides_on}
use Rattle.rectilinear.specs.Slabs.{xor, passes, is_odd_left, IsInside, HasHeight, AreNeighbours, IsSlab, AreDistinct, IsSlabList}
use Rattle.rectilinear.proofs.RowLaws.{at_or_left, not_left}
use Rattle.element_drawing.specs.Paths.{IsRectOf}
use Rattle.flat_answers.proofs.DecisionLaws.{Decided, decide_as, decide_at_most, decide_below, decide_bool, decide_both, decide_either, decide_not}
use Rattle.flat_answers.proofs.ListedLaws.{Listed, listed_as, listed_below, listed_either, listed_none, listed_one, listed_ordered, listed_over}
use Rattle.flat_answers.proofs.ListedLaws.{listed_where, decide_all}
use Rattle.flat_answers.proofs.OrderLaws.{rects_in_order}

-- Numbers of a range, and the heights and columns of corners, are listed.
listed_range : (from to : ℤ) → Listed (λ (z : ℤ). (from ≤ℤ z) × (z <ℤ to))
listed_range from to = by_lt_z from to
    (λ lt. let n = unsigned_abs (to -ℤ from) in let whole : from +ℤ pos n ≡ to = omega (arith, ints) in
    listed_as (λ (z : ℤ). (k : ℕ) × (k < n) × (z ≡ from +ℤ pos k)) (λ (z : ℤ). (from ≤ℤ z) × (z <ℤ to))
    (λ z h. let less = h.1 in let is = h.2 in (omega (arith, ints, is), omega (arith, ints, is, less, whole)))
    (λ z h. let low = h.0 in let high = h.1 in (unsigned_abs (z -ℤ from), omega (arith, ints, low, high, whole), omega (arith, ints, low)))
    (listed_over (λ (k : ℕ). k < n) (λ (k : ℕ) (z : ℤ). z ≡ from +ℤ pos k) (listed_below n) (λ k. listed_one (from +ℤ pos k))))
    (λ ge. listed_none (λ (z : ℤ). (from ≤ℤ z) × (z <ℤ to)) (λ z h. let low = h.0 in let high = h.1 in omega (arith, ints, low, high, ge)))

listed_heights : (corners : List Point) → Listed (HasHeight corners)
listed_heights [] = listed_none (λ (h : ℤ). ⊥) (λ h has. has)
listed_heights (p ∷ ps) = listed_either (λ (h : ℤ). h ≡ p.y) (HasHeight ps) (listed_one p.y) (listed_heights ps)

abbrev HasColumn : List Point → ℤ → Type 0
HasColumn [] x = ⊥
HasColumn (p ∷ ps) x = (x ≡ p.x) ⊎ HasColumn ps x

listed_columns : (corners : List Point) → Listed (HasColumn corners)
listed_columns [] = listed_none (λ (x : ℤ). ⊥) (λ x has. has)
listed_columns (p ∷ ps) = listed_either (λ (x : ℤ). x ≡ p.x) (HasColumn ps) (listed_one p.x) (listed_columns ps)

-- Inside and outside change only in the column of a corner.
abbrev Begins : List RingSide → ℤ → Type 0
Begins [] x = ⊥
Begins (s ∷ ss) x = (x ≡ s.a.x) ⊎ Begins ss x

changes : (ss : List RingSide) (z x y : ℤ) → z +ℤ pos 1 ≡ x → (is_odd_left ss x y ≡ is_odd_left ss z y) ⊎ Begins ss x
changes [] z x y next = inl refl
changes (s ∷ ss) z x y next = elim (changes ss z x y next) [
  | inr begins ↦ inr (inr begins)
  | inl same ↦
      by_lt_z x s.a.x (λ right. inl (both (not_left s.a.x x right ∙ sym (not_left s.a.x z (omega (arith, ints, right, next)))) same))
      (λ reached. by_lt_z s.a.x x (λ left. inl (both (at_or_left s.a.x x reached ∙ sym (at_or_left s.a.x z (omega (arith, ints, left, next)))) same))
      (λ ge. inr (inl (omega (arith, ints, reached, ge)))))
]
  where
    both : {a b c d : Bool} → a ≡ b → c ≡ d → xor (passes s y && a) c ≡ xor (passes s y && b) d
    both e f = λ i. xor (passes s y && e i) (f i)

begins_on : (p : Point) (qs : List Point) (last : Point) (x : ℤ) → Begins (sides_on p qs last) x → HasColumn (p ∷ qs) x
begins_on p [] last x (inl e) = inl e
begins_on p [] last x (inr h) = absurd h
begins_on p (q ∷ qs) last x (inl e) = inl e
begins_on p (q ∷ qs) last x (inr h) = inr (begins_on q qs last x h)

begins_of : (corners : List Point) (x : ℤ) → Begins (sides_of corners) x → HasColumn corners x
begins_of [] x h = absurd h
begins_of (p ∷ ps) x h = begins_on p ps p x h

column_of : (corners : List Point) (z x y : ℤ) → z +ℤ pos 1 ≡ x → (is_odd_left (sides_of corners) x y ≡ is_odd_left (sides_of corners) z y → ⊥)
    → HasColumn corners x
column_of corners z x y next differ =
    elim (changes (sides_of corners) z x y next) [ inl same ↦ absurd (differ same) | inr begins ↦ begins_of corners x begins ]

left_column : (corners : List Point) (r : Rect) → IsSlab corners r → HasColumn corners r.x1
left_column corners r slab =
    let wide : r.x1 <ℤ r.x2 = r.wide in
    let tall : r.y1 <ℤ r.y2 = r.tall in
    column_of corners (r.x1 -ℤ pos 1) r.x1 r.y1 (omega (arith, ints))
    (λ same. slab.left_end r.y1 (omega (arith, ints)) tall
    (sym same ∙ slab.inside r.x1 r.y1 (record { left = omega (arith, ints); right = wide; low = omega (arith, ints); high = tall })))

right_column : (corners : List Point) (r : Rect) → IsSlab corners r → HasColumn corners r.x2
right_column corners r slab =
    let wide : r.x1 <ℤ r.x2 = r.wide in
    let tall : r.y1 <ℤ r.y2 = r.tall in
    let z = r.x2 -ℤ pos 1 in
    column_of corners z r.x2 r.y1 (omega (arith, ints))
    (λ same. slab.right_end r.y1 (omega (arith, ints)) tall
    (same ∙ slab.inside z r.y1
    (record { left = omega (arith, ints, wide); right = omega (arith, ints); low = omega (arith, ints); high = tall })))

-- What may be a slab is listed, and it can be decided what is one.
listed_rect : (left bottom right top : ℤ) → Listed (IsRectOf left bottom right top)
listed_rect left bottom right top = by_lt_z left right
    (λ wide. by_lt_z bottom top
    (λ tall. let r : Rect = record { x1 = left; y1 = bottom; x2 = right; y2 = top; wide = wide; tall = tall } in
    listed_as (λ (s : Rect). s ≡ r) (IsRectOf left bottom right top)
    (λ s e. record { x1 = λ i. (e i).x1; y1 = λ i. (e i).y1; x2 = λ i. (e i).x2; y2 = λ i. (e i).y2 }) (λ s h. same_rect s r h.x1 h.y1 h.x2 h.y2)
    (listed_one r))
    (λ ge. listed_none (IsRectOf left bottom right top)
    (λ s h. let tall : s.y1 <ℤ s.y2 = s.tall in let low = h.y1 in let high = h.y2 in omega (arith, ints, tall, low, high, ge))))
    (λ ge. listed_none (IsRectOf left bottom right top)
    (λ s h. let wide : s.x1 <ℤ s.x2 = s.wide in let low = h.x1 in let high = h.x2 in omega (arith, ints, wide, low, high, ge)))

decide_int : (a b : ℤ) → Decided (a ≡ b)
decide_int a b = by_lt_z a b (λ lt. inr (λ e. omega (arith, ints, lt, e)))
    (λ ge. by_lt_z b a (λ lt. inr (λ e. omega (arith, ints, lt, e))) (λ le. inl (omega (arith, ints, ge, le))))

decide_height : (corners : List Point) (h : ℤ) → Decided (HasHeight corners h)
decide_height [] h = inr (λ has. has)
decide_height (p ∷ ps) h = decide_either (h ≡ p.y) (HasHeight ps h) (decide_int h p.y) (decide_height ps h)

decide_neighbours : (corners : List Point) (low high : ℤ) → Decided (AreNeighbours corners low high)
decide_neighbours corners low high =
    decide_as (((HasHeight corners low × HasHeight corners high) × (low <ℤ high)) × ((h : ℤ) → HasHeight corners h → low <ℤ h → high ≤ℤ h))
    (AreNeighbours corners low high)
    (λ h. record { has_low = h.0.0.0; has_high = h.0.0.1; below = h.0.1; none = h.1 }) (λ n. (((n.has_low, n.has_high), n.below), n.none))
    (decide_both _ _ (decide_both _ _ (decide_both _ _ (decide_height corners low) (decide_height corners high)) (decide_below low high))
    (decide_all (HasHeight corners) (λ (h : ℤ). low <ℤ h → high ≤ℤ h) (listed_heights corners) (λ h. elim (decide_at_most high h) [
      | inl le ↦ inl (λ above. le)
      | inr over ↦ elim (decide_below low h) [ inl above ↦ inr (λ f. over (f above)) | inr under ↦ inl (λ above. absurd (under above)) ]
    ])))

decide_rows : (P : ℤ → Type 0) → ((y : ℤ) → Decided (P y)) → (low high : ℤ) → Decided ((y : ℤ) → low ≤ℤ y → y <ℤ high → P y)
decide_rows P decide low high =
    decide_as ((y : ℤ) → (low ≤ℤ y) × (y <ℤ high) → P y) _ (λ all y a b. all y (a, b)) (λ all y h. all y h.0 h.1)
    (decide_all (λ (y : ℤ). (low ≤ℤ y) × (y <ℤ high)) P (listed_range low high) decide)

decide_slab : (corners : List Point) (r : Rect) → Decided (IsSlab corners r)
decide_slab corners r =
    let inside = λ (x y : ℤ). decide_bool (is_odd_left (sides_of corners) x y) in
    let outside = λ (x y : ℤ). decide_not (IsInside corners x y) (inside x y) in
    decide_as (((AreNeighbours corners r.y1 r.y2 × AllInside) × AllOutside (r.x1 -ℤ pos 1)) × AllOutside r.x2) (IsSlab corners r)
    (λ h. record { heights = h.0.0.0; inside = λ x y c. h.0.0.1 x c.left c.right y c.low c.high; left_end = h.0.1; right_end = h.1 })
    (λ s. (((s.heights, λ x a b y c d. s.inside x y (record { left = a; right = b; low = c; high = d })), s.left_end), s.right_end))
    (decide_both _ _ (decide_both _ _ (decide_both _ _ (decide_neighbours corners r.y1 r.y2)
    (decide_rows (λ (x : ℤ). (y : ℤ) → r.y1 ≤ℤ y → y <ℤ r.y2 → IsInside corners x y)
    (λ x. decide_rows (IsInside corners x) (inside x) r.y1 r.y2) r.x1 r.x2))
    (decide_rows (λ (y : ℤ). IsInside corners (r.x1 -ℤ pos 1) y → ⊥) (outside (r.x1 -ℤ pos 1)) r.y1 r.y2))
    (decide_rows (λ (y : ℤ). IsInside corners r.x2 y → ⊥) (outside r.x2) r.y1 r.y2))
  where
    AllInside : Type 0
    AllInside = (x : ℤ) → r.x1 ≤ℤ x → x <ℤ r.x2 → (y : ℤ) → r.y1 ≤ℤ y → y <ℤ r.y2 → IsInside corners x y

    AllOutside : ℤ → Type 0
    AllOutside x = (y : ℤ) → r.y1 ≤ℤ y → y <ℤ r.y2 → IsInside corners x y → ⊥

-- its sides are in columns and at heights of corners
module _ (corners : List Point) where
  abbrev IsWithTop : ℤ → ℤ → ℤ → Rect → Type 0
  IsWithTop x1 y1 x2 r = (y2 : ℤ) × HasHeight corners y2 × IsRectOf x1 y1 x2 y2 r

  abbrev IsWithRight : ℤ → ℤ → Rect → Type 0
  IsWithRight x1 y1 r = (x2 : ℤ) × HasColumn corners x2 × IsWithTop x1 y1 x2 r

  abbrev IsWithLow : ℤ → Rect → Type 0
  IsWithLow x1 r = (y1 : ℤ) × HasHeight corners y1 × IsWithRight x1 y1 r

  listed_candidates : Listed (λ (r : Rect). (x1 : ℤ) × HasColumn corners x1 × IsWithLow x1 r)
  listed_candidates =
      listed_over (HasColumn corners) IsWithLow (listed_columns corners) (λ x1.
      listed_over (HasHeight corners) (IsWithRight x1) (listed_heights corners) (λ y1.
      listed_over (HasColumn corners) (IsWithTop x1 y1) (listed_columns corners) (λ x2.
      listed_over (HasHeight corners) (IsRectOf x1 y1 x2) (listed_heights corners) (λ y2.
      listed_rect x1 y1 x2 y2))))

  listed_slabs : Listed (IsSlab corners)
  listed_slabs = listed_as (λ (r : Rect). ((x1 : ℤ) × HasColumn corners x1 × IsWithLow x1 r) × IsSlab corners r) (IsSlab corners) (λ r h. h.1)
      (λ r s. (
        (
          r.x1,
          left_column corners r s,
          (
            r.y1,
            s.heights.has_low,
            (r.x2, right_column corners r s, (r.y2, s.heights.has_high, record { x1 = refl; y1 = refl; x2 = refl; y2 = refl })),
          ),
        ),
        s,
      ))
      (listed_where _ (IsSlab corners) listed_candidates (decide_slab corners))

distinct : (rects : List Rect) → IsStrictlySortedBy rect_order rects → AreDistinct rects
unfolding IsStrictlySortedBy
distinct [] rises = tt
distinct (r ∷ rs) rises = (
  λ h. let bad : ◌≡◌ {A = Ordering} Less Equal = sym (all_contained (λ s. rect_order r s ≡ Less) rs r rises.0 h) ∙ tied_itself rect_total r in
      absurd cc,
  distinct rs rises.1,
)

pub slabs_there : (corners : List Point) → (rects : List Rect) × IsSlabList corners rects
slabs_there corners = let o = listed_ordered rect_order (IsSlab corners) rects_in_order (listed_slabs corners) in
    (o.0, record { exact = o.2; distinct = distinct o.0 o.1 })
