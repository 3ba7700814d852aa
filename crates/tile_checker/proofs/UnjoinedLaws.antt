-- A covered box that contains a shape which is joined with no other is that shape.
use Rattle.std.proofs.Common.{◌≡◌, ◌≢◌, ◌⊎◌, inl, inr, ℕ, List, [], ◌∷◌, ℤ, pos, ◌≤ℤ◌, ◌<ℤ◌, ◌+ℤ◌, ◌-ℤ◌, Bool, true, false, ◌==◌, if◌then◌else◌, refl, ap, subst, sym, ◌∙◌, arith}
use Rattle.std.specs.Prelude.{Contains}
use Rattle.std.proofs.lemmas.Bool.{eqb-true}
use Rattle.std.proofs.lemmas.Int.{ints, by_lt_z}
use Rattle.or_geom.specs.declared.shape.Point.{Point}
use Rattle.or_geom.specs.declared.shape.Rect.{Rect}
use Rattle.or_geom.specs.declared.shape.Shape.{Shape}
use Rattle.or_geom.specs.Joined.{AreJoined}
use Rattle.or_geom.specs.Covered.{HasCell, HasCellInSome, IsCovered}
use Rattle.or_geom.proofs.ListLaws.{contains_none, contains_cases, contains_first, contains_later, contains_here}
use Rattle.or_geom.proofs.CoverLaws.{cell_among}
use Rattle.or_geom.specs.Containing.{HoldsRect}
use Rattle.tile_checker.specs.Breaks.{IsAsWide, HasWidth}
use Rattle.shape_bins.specs.Layers.{rects_on}
use Rattle.tile_checker.specs.Unjoined.{AreUnjoined, WidthOfUnjoinedShapes}

-- only a rectangle and itself are joined
abbrev AreAlone : List Rect → Type 0
AreAlone rects = (a b : Rect) → Contains rects a → Contains rects b → AreJoined a b → b ≡ a

found : (rects : List Rect) (x y : ℤ) → HasCellInSome rects x y → (s : Rect) × Contains rects s × HasCell s x y
found [] x y h = absurd h
found (r ∷ rs) x y (inl here) = (r, contains_first r rs, here)
found (r ∷ rs) x y (inr there) = let f = found rs x y there in (f.0, contains_later r rs f.0 f.1, f.2)

-- a cell beside a, and an edge that its box shares with a
beside : (rects : List Rect) (a box : Rect) (x y : ℤ) → AreAlone rects → Contains rects a → IsCovered box rects → HasCell box x y → (HasCell a x y → ⊥)
    → ((s : Rect) → HasCell s x y → AreJoined a s) → ⊥
beside rects a box x y alone one covers in_box not_in joins =
    let f = found rects x y (covers x y in_box) in
    not_in (subst (λ (s : Rect). HasCell s x y) (alone a f.0 one f.1 (joins f.0 f.2)) f.2)

differ_y : (x y : ℤ) → ◌≢◌ {A = Point} (record { x = x; y = y }) (record { x = x; y = y +ℤ pos 1 })
differ_y x y e = let h : y ≡ y +ℤ pos 1 = ap (λ (p : Point). p.y) e in omega (arith, ints)

differ_x : (x y : ℤ) → ◌≢◌ {A = Point} (record { x = x; y = y }) (record { x = x +ℤ pos 1; y = y })
differ_x x y e = let h : x ≡ x +ℤ pos 1 = ap (λ (p : Point). p.x) e in omega (arith, ints)

not_left : (rects : List Rect) (a box : Rect) → AreAlone rects → Contains rects a → HoldsRect box a → IsCovered box rects → a.x1 ≤ℤ box.x1
not_left rects a box alone one c covers =
    let wide : a.x1 <ℤ a.x2 = a.wide in
    let tall : a.y1 <ℤ a.y2 = a.tall in
    by_lt_z box.x1 a.x1 (λ lt. absurd (beside rects a box (a.x1 -ℤ pos 1) a.y1 alone one covers
    (record { left = omega (arith, ints); right = omega (arith, ints); low = omega (arith, ints); high = omega (arith, ints) })
    (λ h. omega (arith, ints))
    (λ s h. record {
      p = record { x = a.x1; y = a.y1 };
      q = record { x = a.x1; y = a.y1 +ℤ pos 1 };
      differ = differ_y a.x1 a.y1;
      p_in_a = record { left = omega (arith, ints); right = omega (arith, ints); low = omega (arith, ints); high = omega (arith, ints) };
      p_in_b = record { left = omega (arith, ints, h.left); right = omega (arith, ints, h.right); low = omega (arith, ints, h.low); high = omega (arith, ints, h.high) };
      q_in_a = record { left = omega (arith, ints); right = omega (arith, ints); low = omega (arith, ints); high = omega (arith, ints) };
      q_in_b = record { left = omega (arith, ints, h.left); right = omega (arith, ints, h.right); low = omega (arith, ints, h.low); high = omega (arith, ints, h.high) };
    })))
    (λ ge. ge)

not_right : (rects : List Rect) (a box : Rect) → AreAlone rects → Contains rects a → HoldsRect box a → IsCovered box rects → box.x2 ≤ℤ a.x2
not_right rects a box alone one c covers =
    let wide : a.x1 <ℤ a.x2 = a.wide in
    let tall : a.y1 <ℤ a.y2 = a.tall in
    by_lt_z a.x2 box.x2 (λ lt. absurd (beside rects a box a.x2 a.y1 alone one covers
    (record { left = omega (arith, ints); right = omega (arith, ints); low = omega (arith, ints); high = omega (arith, ints) })
    (λ h. omega (arith, ints))
    (λ s h. record {
      p = record { x = a.x2; y = a.y1 };
      q = record { x = a.x2; y = a.y1 +ℤ pos 1 };
      differ = differ_y a.x2 a.y1;
      p_in_a = record { left = omega (arith, ints); right = omega (arith, ints); low = omega (arith, ints); high = omega (arith, ints) };
      p_in_b = record { left = omega (arith, ints, h.left); right = omega (arith, ints, h.right); low = omega (arith, ints, h.low); high = omega (arith, ints, h.high) };
      q_in_a = record { left = omega (arith, ints); right = omega (arith, ints); low = omega (arith, ints); high = omega (arith, ints) };
      q_in_b = record { left = omega (arith, ints, h.left); right = omega (arith, ints, h.right); low = omega (arith, ints, h.low); high = omega (arith, ints, h.high) };
    })))
    (λ ge. ge)

not_low : (rects : List Rect) (a box : Rect) → AreAlone rects → Contains rects a → HoldsRect box a → IsCovered box rects → a.y1 ≤ℤ box.y1
not_low rects a box alone one c covers =
    let wide : a.x1 <ℤ a.x2 = a.wide in
    let tall : a.y1 <ℤ a.y2 = a.tall in
    by_lt_z box.y1 a.y1 (λ lt. absurd (beside rects a box a.x1 (a.y1 -ℤ pos 1) alone one covers
    (record { left = omega (arith, ints); right = omega (arith, ints); low = omega (arith, ints); high = omega (arith, ints) })
    (λ h. omega (arith, ints))
    (λ s h. record {
      p = record { x = a.x1; y = a.y1 };
      q = record { x = a.x1 +ℤ pos 1; y = a.y1 };
      differ = differ_x a.x1 a.y1;
      p_in_a = record { left = omega (arith, ints); right = omega (arith, ints); low = omega (arith, ints); high = omega (arith, ints) };
      p_in_b = record { left = omega (arith, ints, h.left); right = omega (arith, ints, h.right); low = omega (arith, ints, h.low); high = omega (arith, ints, h.high) };
      q_in_a = record { left = omega (arith, ints); right = omega (arith, ints); low = omega (arith, ints); high = omega (arith, ints) };
      q_in_b = record { left = omega (arith, ints, h.left); right = omega (arith, ints, h.right); low = omega (arith, ints, h.low); high = omega (arith, ints, h.high) };
    })))
    (λ ge. ge)

not_high : (rects : List Rect) (a box : Rect) → AreAlone rects → Contains rects a → HoldsRect box a → IsCovered box rects → box.y2 ≤ℤ a.y2
not_high rects a box alone one c covers =
    let wide : a.x1 <ℤ a.x2 = a.wide in
    let tall : a.y1 <ℤ a.y2 = a.tall in
    by_lt_z a.y2 box.y2 (λ lt. absurd (beside rects a box a.x1 a.y2 alone one covers
    (record { left = omega (arith, ints); right = omega (arith, ints); low = omega (arith, ints); high = omega (arith, ints) })
    (λ h. omega (arith, ints))
    (λ s h. record {
      p = record { x = a.x1; y = a.y2 };
      q = record { x = a.x1 +ℤ pos 1; y = a.y2 };
      differ = differ_x a.x1 a.y2;
      p_in_a = record { left = omega (arith, ints); right = omega (arith, ints); low = omega (arith, ints); high = omega (arith, ints) };
      p_in_b = record { left = omega (arith, ints, h.left); right = omega (arith, ints, h.right); low = omega (arith, ints, h.low); high = omega (arith, ints, h.high) };
      q_in_a = record { left = omega (arith, ints); right = omega (arith, ints); low = omega (arith, ints); high = omega (arith, ints) };
      q_in_b = record { left = omega (arith, ints, h.left); right = omega (arith, ints, h.right); low = omega (arith, ints, h.low); high = omega (arith, ints, h.high) };
    })))
    (λ ge. ge)

wide_itself : (rects : List Rect) (a : Rect) (min : ℤ) → AreAlone rects → Contains rects a → HasWidth rects min a → IsAsWide min a
wide_itself rects a min alone one h =
    let l = not_left rects a h.box alone one h.holds h.covered in
    let r = not_right rects a h.box alone one h.holds h.covered in
    let d = not_low rects a h.box alone one h.holds h.covered in
    let u = not_high rects a h.box alone one h.holds h.covered in
    record { wide = omega (arith, ints, h.as_wide.wide); tall = omega (arith, ints, h.as_wide.tall) }

itself_wide : (rects : List Rect) (a : Rect) (min : ℤ) → Contains rects a → IsAsWide min a → HasWidth rects min a
itself_wide rects a min one w = record {
  box = a;
  holds = record { left = omega (arith, ints); right = omega (arith, ints); low = omega (arith, ints); high = omega (arith, ints) };
  as_wide = w;
  covered = λ x y h. cell_among rects a x y one h;
}

-- a rectangle of a layer is that of a shape
record IsOfShape (layer : ℕ) (shapes : List Shape) (r : Rect) : Type 0 where
  pub shape : Shape
  pub there : Contains shapes shape
  pub on : shape.layer ≡ layer
  pub rect : shape.rect ≡ r

later : (layer : ℕ) (s : Shape) (ss : List Shape) (r : Rect) → IsOfShape layer ss r → IsOfShape layer (s ∷ ss) r
later layer s ss r o = record { shape = o.shape; there = contains_later s ss o.shape o.there; on = o.on; rect = o.rect }

of_first : (layer : ℕ) (s : Shape) (ss : List Shape) (r : Rect) (b : Bool) → (s.layer == layer) ≡ b → (Contains (rects_on layer ss) r → IsOfShape layer ss r) → Contains (if b then s.rect ∷ rects_on layer ss else rects_on layer ss) r → IsOfShape layer (s ∷ ss) r
of_first layer s ss r true e more one = elim (contains_cases s.rect (rects_on layer ss) r one) [
  | inl is ↦ record { shape = s; there = contains_first s ss; on = eqb-true s.layer layer e; rect = sym is }
  | inr behind ↦ later layer s ss r (more behind)
]
of_first layer s ss r false e more one = later layer s ss r (more one)

of_shape : (layer : ℕ) (shapes : List Shape) (r : Rect) → Contains (rects_on layer shapes) r → IsOfShape layer shapes r
of_shape layer [] r one = absurd (contains_none r one)
of_shape layer (s ∷ ss) r one = of_first layer s ss r (s.layer == layer) refl (of_shape layer ss r) one

alone_on : (layer : ℕ) (shapes : List Shape) → AreUnjoined shapes → AreAlone (rects_on layer shapes)
alone_on layer shapes unjoined a b one two joined =
    let s = of_shape layer shapes a one in
    let t = of_shape layer shapes b two in
    let here : AreJoined s.shape.rect t.shape.rect = subst (λ (r : Rect). AreJoined r t.shape.rect) (sym s.rect) (subst (λ (r : Rect). AreJoined a r) (sym t.rect) joined) in
    let same : t.shape ≡ s.shape = unjoined s.shape t.shape s.there t.there (s.on ∙ sym t.on) here in
    sym t.rect ∙ (ap (λ (u : Shape). u.rect) same ∙ s.rect)

eqb-same : (m n : ℕ) → m ≡ n → (m == n) ≡ true
eqb-same m n e = grind (arith)

among_first : (layer : ℕ) (s : Shape) (ss : List Shape) (a : Shape) (b : Bool) → (s.layer == layer) ≡ b → a.layer ≡ layer → (Contains ss a → Contains (rects_on layer ss) a.rect) → (a ≡ s) ⊎ Contains ss a → Contains (if b then s.rect ∷ rects_on layer ss else rects_on layer ss) a.rect
among_first layer s ss a true e on more (inl is) = contains_here s.rect (rects_on layer ss) a.rect (ap (λ (u : Shape). u.rect) is)
among_first layer s ss a true e on more (inr h) = contains_later s.rect (rects_on layer ss) a.rect (more h)
among_first layer s ss a false e on more (inl is) =
    let same : (s.layer == layer) ≡ true = eqb-same s.layer layer (ap (λ (u : Shape). u.layer) (sym is) ∙ on) in
    let no : ◌≡◌ {A = Bool} true false = sym same ∙ e in
    absurd cc
among_first layer s ss a false e on more (inr h) = more h

among : (layer : ℕ) (shapes : List Shape) (a : Shape) → Contains shapes a → a.layer ≡ layer → Contains (rects_on layer shapes) a.rect
among layer [] a h on = absurd (contains_none a h)
among layer (s ∷ ss) a h on = among_first layer s ss a (s.layer == layer) refl on (λ k. among layer ss a k on) (contains_cases s ss a h)

pub width_of_unjoined_shapes : WidthOfUnjoinedShapes
width_of_unjoined_shapes shapes layer min a unjoined there on =
    let alone = alone_on layer shapes unjoined in
    let one = among layer shapes a there on in (
      λ breaks wide. breaks.narrow (itself_wide (rects_on layer shapes) a.rect min one wide),
      λ narrow. record { on = on; narrow = λ h. narrow (wide_itself (rects_on layer shapes) a.rect min alone one h) },
    )
