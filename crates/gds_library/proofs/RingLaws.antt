-- The corners of a ring of points.
use Rattle.std.proofs.Common.{◌≡◌, suc, ◌≤◌, List, [], ◌∷◌, length, true, false, cond, refl, subst, arith}
use Rattle.std.proofs.lemmas.Bool.Decides.{Decides-int_eq}
use Rattle.std.specs.List.{AllByRecursion}
use Rattle.std.specs.Ordering.{int_eq}
use Rattle.or_geom.specs.declared.shape.Point.{Point}
use Rattle.gds_records.specs.Values.{IsShort}
use Rattle.rectilinear.specs.declared.ring.RingSide.{RingSide}
use Rattle.rectilinear.specs.Ring.{sides_on}
use Rattle.rectilinear.specs.Corners.{is_zero, is_run, steps, turns_after, last_of, turns, corners_of}
use Rattle.gds_library.specs.Values.{last_point, IsClosed}

abbrev AreShortPoints : List RingSide → Type 0
AreShortPoints sides = AllByRecursion (λ (s : RingSide). IsShort s.a) sides

-- a corner is one of the points
short_sides : (p : Point) (ps : List Point) (last : Point) → IsShort p → AllByRecursion IsShort ps
    → AreShortPoints (sides_on p ps last)
short_sides p [] last f h = (f, tt)
short_sides p (q ∷ qs) last f h = (f, short_sides q qs last h.0 h.1)

short_steps : (sides : List RingSide) → AreShortPoints sides → AreShortPoints (steps sides)
short_steps [] h = tt
short_steps (s ∷ sides) h = elim (is_zero s) as (λ b. AreShortPoints (cond b (steps sides) (s ∷ steps sides))) [
  | true ↦ short_steps sides h.1
  | false ↦ (h.0, short_steps sides h.1)
]

short_turns : (s : RingSide) (sides : List RingSide) → AreShortPoints sides → AllByRecursion IsShort (turns_after s sides)
short_turns s [] h = tt
short_turns s (t ∷ sides) h = elim (is_run s t) as (λ b. AllByRecursion IsShort
    (cond b (turns_after t sides) (t.a ∷ turns_after t sides))) [
      | true ↦ short_turns t sides h.1
      | false ↦ (h.0, short_turns t sides h.1)
    ]

short_at : (sides : List RingSide) → AreShortPoints sides → AllByRecursion IsShort (turns sides)
short_at [] h = tt
short_at (s ∷ sides) h = short_turns (last_of s sides) (s ∷ sides) h

pub short_corners : (points : List Point) → AllByRecursion IsShort points → AllByRecursion IsShort (corners_of points)
short_corners [] h = tt
short_corners (p ∷ ps) h = short_at (steps (sides_on p ps p))
    (short_steps (sides_on p ps p) (short_sides p ps p h.0 h.1))

-- one point is dropped at least, since the last is the first again
pub zero_side : (p : Point) → is_zero (record { a = p; b = p }) ≡ true
zero_side p =
    let x : int_eq p.x p.x ≡ true = (Decides-int_eq p.x p.x).1 refl in
    let y : int_eq p.y p.y ≡ true = (Decides-int_eq p.y p.y).1 refl in
    rw (x, y) refl

one_less : (p : Point) (ps : List Point) (last : Point) → last_point p ps ≡ last
    → length (steps (sides_on p ps last)) ≤ length ps
one_less p [] last is =
    let zero : is_zero (record { a = p; b = last }) ≡ true =
    subst (λ (q : Point). is_zero (record { a = p; b = q }) ≡ true) is (zero_side p) in
    rw zero (omega arith)
one_less p (q ∷ qs) last is =
    let less = one_less q qs last is in
    elim (is_zero (record { a = p; b = q })) as (λ b. length
    (cond b (steps (sides_on q qs last)) (record { a = p; b = q } ∷ steps (sides_on q qs last))) ≤ length (q ∷ qs)) [
      | true ↦ omega arith
      | false ↦ omega arith
    ]

few_turns : (s : RingSide) (sides : List RingSide) → length (turns_after s sides) ≤ length sides
few_turns s [] = omega arith
few_turns s (t ∷ sides) =
    let few = few_turns t sides in
    elim (is_run s t) as (λ b. length (cond b (turns_after t sides) (t.a ∷ turns_after t sides)) ≤ length (t ∷ sides)) [
      | true ↦ omega arith
      | false ↦ omega arith
    ]

few_at : (sides : List RingSide) → length (turns sides) ≤ length sides
few_at [] = omega arith
few_at (s ∷ sides) = few_turns (last_of s sides) (s ∷ sides)

pub few_corners : (points : List Point) → IsClosed points → suc (length (corners_of points)) ≤ length points
few_corners [] closed = absurd closed
few_corners (p ∷ ps) closed =
    let less = one_less p ps p closed in
    let few = few_at (steps (sides_on p ps p)) in
    omega arith
