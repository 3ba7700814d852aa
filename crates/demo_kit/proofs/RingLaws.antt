-- The four corners of a rectangle are a ring that can be written.
use Rattle.std.proofs.Common.{◌≡◌, ◌≢◌, inl, inr, ℤ, ◌<ℤ◌, List, [], ◌∷◌, Bool, true, false, ◌&&◌, cond, refl, ap, ◌∙◌, arith}
use Rattle.std.proofs.lemmas.Int.{ints}
use Rattle.std.specs.Prelude.{int_lt}
use Rattle.std.specs.Ordering.{int_eq}
use Rattle.or_geom.specs.declared.shape.Point.{Point}
use Rattle.or_geom.specs.declared.shape.Rect.{Rect}
use Rattle.or_geom.proofs.PlaceLaws.{same_point}
use Rattle.rectilinear.specs.declared.ring.RingSide.{RingSide}
use Rattle.rectilinear.specs.Ring.{side, sides_of}
use Rattle.rectilinear.specs.Corners.{corners_of, is_zero, is_up, is_down, is_right, is_left, is_run, steps, turns_after, turns}
use Rattle.rectilinear.specs.Simple.{LiesBetween, IsSimple, MeetAtMostThere}
use Rattle.gds_records.specs.Values.{IsShort}
use Rattle.gds_library.specs.Writable.{IsWritableRing}

-- counter-clockwise from the lower left corner
abbrev pub ring : Rect → List Point
ring r =
    record { x = r.x1; y = r.y1 } ∷ record { x = r.x2; y = r.y1 }
    ∷ record { x = r.x2; y = r.y2 } ∷ record { x = r.x1; y = r.y2 } ∷ []

only : (a z : ℤ) → LiesBetween a z a → z ≡ a
only a z (inl b) = let low = b.0 in let high = b.1 in omega (arith, ints, low, high)
only a z (inr b) = let low = b.0 in let high = b.1 in omega (arith, ints, low, high)

abbrev bottom : Rect → RingSide
bottom r = side (record { x = r.x1; y = r.y1 }) (record { x = r.x2; y = r.y1 })

abbrev right : Rect → RingSide
right r = side (record { x = r.x2; y = r.y1 }) (record { x = r.x2; y = r.y2 })

abbrev top : Rect → RingSide
top r = side (record { x = r.x2; y = r.y2 }) (record { x = r.x1; y = r.y2 })

abbrev left : Rect → RingSide
left r = side (record { x = r.x1; y = r.y2 }) (record { x = r.x1; y = r.y1 })

bottom_right : (r : Rect) → MeetAtMostThere (bottom r) (right r)
bottom_right r p a b =
    let e = same_point p (record { x = r.x2; y = r.y1 }) (only r.x2 p.x b.in_x) (only r.y1 p.y a.in_y) in
    (e, e)

right_top : (r : Rect) → MeetAtMostThere (right r) (top r)
right_top r p a b =
    let e = same_point p (record { x = r.x2; y = r.y2 }) (only r.x2 p.x a.in_x) (only r.y2 p.y b.in_y) in
    (e, e)

top_left : (r : Rect) → MeetAtMostThere (top r) (left r)
top_left r p a b =
    let e = same_point p (record { x = r.x1; y = r.y2 }) (only r.x1 p.x b.in_x) (only r.y2 p.y a.in_y) in
    (e, e)

left_bottom : (r : Rect) → MeetAtMostThere (left r) (bottom r)
left_bottom r p a b =
    let e = same_point p (record { x = r.x1; y = r.y1 }) (only r.x1 p.x a.in_x) (only r.y1 p.y b.in_y) in
    (e, e)

bottom_top : (r : Rect) → MeetAtMostThere (bottom r) (top r)
bottom_top r p a b =
    let tall = r.tall in
    let e = only r.y1 p.y a.in_y in
    let f = only r.y2 p.y b.in_y in
    absurd (omega (arith, ints, tall, e, f))

right_left : (r : Rect) → MeetAtMostThere (right r) (left r)
right_left r p a b =
    let wide = r.wide in
    let e = only r.x2 p.x a.in_x in
    let f = only r.x1 p.x b.in_x in
    absurd (omega (arith, ints, wide, e, f))

less_differs : (a b : ℤ) → a <ℤ b → a ≢ b
less_differs a b lt e = omega (arith, ints, lt, e)

more_differs : (a b : ℤ) → a <ℤ b → b ≢ a
more_differs a b lt e = omega (arith, ints, lt, e)

ring_simple : (r : Rect) → IsSimple (ring r)
ring_simple r = record {
  four = omega arith;
  straight = (
    inr (refl, less_differs r.x1 r.x2 r.wide),
    (
      inl (refl, less_differs r.y1 r.y2 r.tall),
      (inr (refl, more_differs r.x1 r.x2 r.wide), (inl (refl, more_differs r.y1 r.y2 r.tall), tt)),
    ),
  );
  meet = (
    (inl (bottom_right r), (inl (bottom_top r), (inr (left_bottom r), tt))),
    ((inl (right_top r), (inl (right_left r), tt)), ((inl (top_left r), tt), (tt, tt))),
  );
}

none : (b c : Bool) → cond b false (cond c false false) ≡ false
none true c = refl
none false true = refl
none false false = refl

level_upright : (s t : RingSide) → int_eq s.a.x s.b.x ≡ false → int_eq t.a.y t.b.y ≡ false → is_run s t ≡ false
level_upright s t e f =
    (λ i. cond (e i && int_lt s.a.y s.b.y) (is_up t) (cond (e i && int_lt s.b.y s.a.y) (is_down t)
    (cond (is_right s) (f i && int_lt t.a.x t.b.x) (cond (is_left s) (f i && int_lt t.b.x t.a.x) false))))
    ∙ none (is_right s) (is_left s)

upright_level : (s t : RingSide) → int_eq s.a.y s.b.y ≡ false → int_eq t.a.x t.b.x ≡ false → is_run s t ≡ false
upright_level s t e f =
    (λ i. cond (is_up s) (f i && int_lt t.a.y t.b.y) (cond (is_down s) (f i && int_lt t.b.y t.a.y)
    (cond (e i && int_lt s.a.x s.b.x) (is_right t) (cond (e i && int_lt s.b.x s.a.x) (is_left t) false))))
    ∙ none (is_up s) (is_down s)

zero_x : (s : RingSide) → int_eq s.a.x s.b.x ≡ false → is_zero s ≡ false
zero_x s e = λ i. e i && int_eq s.a.y s.b.y

and_false : (b : Bool) → b && false ≡ false
and_false true = refl
and_false false = refl

zero_y : (s : RingSide) → int_eq s.a.y s.b.y ≡ false → is_zero s ≡ false
zero_y s e = (λ i. int_eq s.a.x s.b.x && e i) ∙ and_false (int_eq s.a.x s.b.x)

step_one : (s : RingSide) (ss : List RingSide) → is_zero s ≡ false → steps (s ∷ ss) ≡ s ∷ steps ss
step_one s ss e = ap (λ (b : Bool). cond b (steps ss) (s ∷ steps ss)) e

turn_one : (s t : RingSide) (ts : List RingSide) → is_run s t ≡ false → turns_after s (t ∷ ts) ≡ t.a ∷ turns_after t ts
turn_one s t ts e = ap (λ (b : Bool). cond b (turns_after t ts) (t.a ∷ turns_after t ts)) e

less_unequal : (a b : ℤ) → a <ℤ b → int_eq a b ≡ false
less_unequal a b lt = grind (arith, ints, lt)

more_unequal : (a b : ℤ) → a <ℤ b → int_eq b a ≡ false
more_unequal a b lt = grind (arith, ints, lt)

ring_steps : (r : Rect) → steps (sides_of (ring r)) ≡ sides_of (ring r)
ring_steps r =
    step_one (bottom r) (right r ∷ top r ∷ left r ∷ []) (zero_x (bottom r) (less_unequal r.x1 r.x2 r.wide))
    ∙ ap (λ (ss : List RingSide). bottom r ∷ ss) (step_one (right r) (top r ∷ left r ∷ [])
    (zero_y (right r) (less_unequal r.y1 r.y2 r.tall))
    ∙ ap (λ (ss : List RingSide). right r ∷ ss) (step_one (top r) (left r ∷ [])
    (zero_x (top r) (more_unequal r.x1 r.x2 r.wide))
    ∙ ap (λ (ss : List RingSide). top r ∷ ss) (step_one (left r) [] (zero_y (left r) (more_unequal r.y1 r.y2 r.tall)))))

ring_turns : (r : Rect) → corners_of (ring r) ≡ ring r
ring_turns r =
    ap turns (ring_steps r)
    ∙ (turn_one (left r) (bottom r) (right r ∷ top r ∷ left r ∷ [])
    (upright_level (left r) (bottom r) (more_unequal r.y1 r.y2 r.tall) (less_unequal r.x1 r.x2 r.wide))
    ∙ ap (λ (ps : List Point). record { x = r.x1; y = r.y1 } ∷ ps) (turn_one (bottom r) (right r) (top r ∷ left r ∷ [])
    (level_upright (bottom r) (right r) (less_unequal r.x1 r.x2 r.wide) (less_unequal r.y1 r.y2 r.tall))
    ∙ ap (λ (ps : List Point). record { x = r.x2; y = r.y1 } ∷ ps) (turn_one (right r) (top r) (left r ∷ [])
    (upright_level (right r) (top r) (less_unequal r.y1 r.y2 r.tall) (more_unequal r.x1 r.x2 r.wide))
    ∙ ap (λ (ps : List Point). record { x = r.x2; y = r.y2 } ∷ ps) (turn_one (top r) (left r) []
    (level_upright (top r) (left r) (more_unequal r.x1 r.x2 r.wide) (more_unequal r.y1 r.y2 r.tall))))))

pub ring_writable : (r : Rect) → IsShort (record { x = r.x1; y = r.y1 }) → IsShort (record { x = r.x2; y = r.y2 }) → IsWritableRing (ring r)
ring_writable r low high = record {
  short = (low, (record { x = high.x; y = low.y }, (high, (record { x = low.x; y = high.y }, tt))));
  few = omega arith;
  simple = ring_simple r;
  turning = ring_turns r;
}
