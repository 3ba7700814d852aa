-- Whether a ring is simple can be decided.
use Rattle.std.proofs.Common.{◌≡◌, ◌≢◌, ◌⊎◌, inl, inr, ℕ, ◌≤◌, List, [], ◌∷◌, length, ℤ, pos, Bool, true, false, refl, sym, ap, ◌∙◌, leb, arith}
use Rattle.std.proofs.lemmas.Int.{ints, by_lt_z}
use borrow.Author.Tests.{leb-true}
use Rattle.std.proofs.lemmas.Bool.{le-leb}
use Rattle.std.specs.Int.{int_max, int_min}
use Rattle.or_geom.specs.declared.shape.Point.{Point}
use Rattle.or_geom.proofs.PlaceLaws.{same_point}
use Rattle.rectilinear.specs.declared.ring.RingSide.{RingSide}
use Rattle.rectilinear.specs.declared.simple.Extent.{Extent}
use Rattle.rectilinear.specs.Ring.{sides_of}
use Rattle.rectilinear.specs.Simple.{IsStraight, MeetAtMostThere, MeetAsNeighbours, AllMeet, PairsMeet, AllStraight, IsSimple}
use Rattle.rectilinear.specs.Extents.{IsAtMostPoint}
use Rattle.rectilinear.proofs.SimpleLaws.{extent_law, common_law, both_at_most, at_most_both, empty_x, empty_y, one_point, is_low, is_high}

-- it holds, or it doesn't
abbrev Decided : Type 0 → Type 0
Decided A = A ⊎ (A → ⊥)

both : (A B : Type 0) → Decided A → Decided B → Decided (A × B)
both A B (inl a) (inl b) = inl (a, b)
both A B (inl a) (inr no_b) = inr (λ p. no_b p.1)
both A B (inr no_a) b = inr (λ p. no_a p.0)

either : (A B : Type 0) → Decided A → Decided B → Decided (A ⊎ B)
either A B (inl a) b = inl (inl a)
either A B (inr no_a) (inl b) = inl (inr b)
either A B (inr no_a) (inr no_b) = inr (λ p. elim p [ inl a ↦ no_a a | inr b ↦ no_b b ])

not : (A : Type 0) → Decided A → Decided (A → ⊥)
not A (inl a) = inr (λ f. f a)
not A (inr no_a) = inl no_a

number_decided : (a b : ℤ) → Decided (a ≡ b)
number_decided a b = by_lt_z a b (λ lt. inr (λ e. omega (arith, ints))) (λ ge. by_lt_z b a (λ lt. inr (λ e. omega (arith, ints))) (λ le. inl (omega (arith, ints))))

point_decided : (p q : Point) → Decided (p ≡ q)
point_decided p q = elim (both (p.x ≡ q.x) (p.y ≡ q.y) (number_decided p.x q.x) (number_decided p.y q.y)) [
  | inl h ↦ inl (same_point p q h.0 h.1)
  | inr h ↦ inr (λ e. h (ap (λ (z : Point). z.x) e, ap (λ (z : Point). z.y) e))
]

straight : (s : RingSide) → Decided (IsStraight s)
straight s =
    either ((s.a.x ≡ s.b.x) × (s.a.y ≢ s.b.y)) ((s.a.y ≡ s.b.y) × (s.a.x ≢ s.b.x))
    (both (s.a.x ≡ s.b.x) (s.a.y ≢ s.b.y) (number_decided s.a.x s.b.x) (not (s.a.y ≡ s.b.y) (number_decided s.a.y s.b.y)))
    (both (s.a.y ≡ s.b.y) (s.a.x ≢ s.b.x) (number_decided s.a.y s.b.y) (not (s.a.x ≡ s.b.x) (number_decided s.a.x s.b.x)))

at_most : (e : Extent) (p : Point) → Decided (IsAtMostPoint e p)
at_most e p =
    by_lt_z e.high.x e.low.x (λ lt. inl (empty_x e p lt)) (λ wide.
    by_lt_z e.high.y e.low.y (λ lt. inl (empty_y e p lt)) (λ tall.
    elim (point_decided e.low p) [
      | inr off ↦ inr (λ most. off (is_low e p wide tall most))
      | inl low ↦ elim (point_decided e.high p) [
        | inr off ↦ inr (λ most. off (is_high e p wide tall most))
        | inl high ↦ inl (one_point e p low high)
      ]
    ]))

extent_of : RingSide → Extent
extent_of s = record { low = record { x = int_min s.a.x s.b.x; y = int_min s.a.y s.b.y }; high = record { x = int_max s.a.x s.b.x; y = int_max s.a.y s.b.y } }

common_of : Extent → Extent → Extent
common_of e f = record { low = record { x = int_max e.low.x f.low.x; y = int_max e.low.y f.low.y }; high = record { x = int_min e.high.x f.high.x; y = int_min e.high.y f.high.y } }

meet_there : (s t : RingSide) → Decided (MeetAtMostThere s t)
unfolding extent_of common_of
meet_there s t =
    let e = extent_of s in
    let f = extent_of t in
    let c = common_of e f in
    let es = extent_law s e refl refl refl refl in
    let ft = extent_law t f refl refl refl refl in
    let cs = common_law e f c refl refl refl refl in
    elim (both (IsAtMostPoint c s.b) (IsAtMostPoint c t.a) (at_most c s.b) (at_most c t.a)) [
      | inl h ↦ inl (both_at_most s t e f c es ft cs h.0 h.1)
      | inr h ↦ inr (λ meet. h (at_most_both s t e f c es ft cs meet))
    ]

neighbours : (s t : RingSide) → Decided (MeetAsNeighbours s t)
neighbours s t = either (MeetAtMostThere s t) (MeetAtMostThere t s) (meet_there s t) (meet_there t s)

all_meet : (s : RingSide) (ts : List RingSide) → Decided (AllMeet s ts)
all_meet s [] = inl tt
all_meet s (t ∷ ts) = both (MeetAsNeighbours s t) (AllMeet s ts) (neighbours s t) (all_meet s ts)

pairs_meet : (ss : List RingSide) → Decided (PairsMeet ss)
pairs_meet [] = inl tt
pairs_meet (s ∷ ss) = both (AllMeet s ss) (PairsMeet ss) (all_meet s ss) (pairs_meet ss)

all_straight : (ss : List RingSide) → Decided (AllStraight ss)
all_straight [] = inl tt
all_straight (s ∷ ss) = both (IsStraight s) (AllStraight ss) (straight s) (all_straight ss)

four_at : (n : ℕ) (b : Bool) → leb 4 n ≡ b → Decided (4 ≤ n)
four_at n true is = inl (leb-true 4 n is)
four_at n false is = inr (λ le. let both : true ≡ false = sym (le-leb 4 n le) ∙ is in absurd cc)

pub decided_simple : (corners : List Point) → IsSimple corners ⊎ (IsSimple corners → ⊥)
decided_simple corners = elim (both (4 ≤ length corners) (AllStraight (sides_of corners) × PairsMeet (sides_of corners)) (four_at (length corners) (leb 4 (length corners)) refl)
    (both (AllStraight (sides_of corners)) (PairsMeet (sides_of corners)) (all_straight (sides_of corners)) (pairs_meet (sides_of corners)))) [
      | inl h ↦ inl (record { four = h.0; straight = h.1.0; meet = h.1.1 })
      | inr h ↦ inr (λ s. h (s.four, (s.straight, s.meet)))
    ]

-- the test by which it is decided
choice : {A : Type 0} → A ⊎ (A → ⊥) → Bool
choice (inl a) = true
choice (inr f) = false

test_true : {A : Type 0} (d : A ⊎ (A → ⊥)) → choice d ≡ true → A
unfolding choice
test_true (inl a) is = a
test_true (inr f) is = absurd cc

true_test : {A : Type 0} (d : A ⊎ (A → ⊥)) → A → choice d ≡ true
unfolding choice
true_test (inl a) b = refl
true_test (inr f) b = absurd (f b)

same_choice : {A : Type 0} (d : A ⊎ (A → ⊥)) (b : Bool) → (b ≡ true → A) → (A → b ≡ true) → b ≡ choice d
unfolding choice
same_choice (inl a) b f g = g a
same_choice (inr no_a) true f g = absurd (no_a (f refl))
same_choice (inr no_a) false f g = refl

-- whether the ring is simple
pub simple_test : List Point → Bool
simple_test corners = choice (decided_simple corners)

pub test_simple : (corners : List Point) → simple_test corners ≡ true → IsSimple corners
unfolding simple_test
test_simple corners is = test_true (decided_simple corners) is

pub simple_tested : (corners : List Point) → IsSimple corners → simple_test corners ≡ true
unfolding simple_test
simple_tested corners s = true_test (decided_simple corners) s

-- another test that decides it is the same
pub same_simple_test : (corners : List Point) (b : Bool) → (b ≡ true → IsSimple corners) → (IsSimple corners → b ≡ true) → b ≡ simple_test corners
unfolding simple_test
same_simple_test corners b f g = same_choice (decided_simple corners) b f g

-- whether the sides are straight
pub straight_test : List RingSide → Bool
straight_test sides = choice (all_straight sides)

pub test_straight : (sides : List RingSide) → straight_test sides ≡ true → AllStraight sides
unfolding straight_test
test_straight sides is = test_true (all_straight sides) is

pub straight_tested : (sides : List RingSide) → AllStraight sides → straight_test sides ≡ true
unfolding straight_test
straight_tested sides s = true_test (all_straight sides) s

pub same_straight_test : (sides : List RingSide) (b : Bool) → (b ≡ true → AllStraight sides) → (AllStraight sides → b ≡ true) → b ≡ straight_test sides
unfolding straight_test
same_straight_test sides b f g = same_choice (all_straight sides) b f g

-- a ring that is simple
abbrev pub square : List Point
square =
    record { x = pos 0; y = pos 0 } ∷ record { x = pos 4; y = pos 0 } ∷ record { x = pos 4; y = pos 4 } ∷ record { x = pos 0; y = pos 4 } ∷ []

there : (s t : RingSide) → IsAtMostPoint (common_of (extent_of s) (extent_of t)) s.b → IsAtMostPoint (common_of (extent_of s) (extent_of t)) t.a → MeetAtMostThere s t
unfolding extent_of common_of
there s t a b =
    both_at_most s t (extent_of s) (extent_of t) (common_of (extent_of s) (extent_of t)) (extent_law s (extent_of s) refl refl refl refl) (extent_law t (extent_of t) refl refl refl refl)
    (common_law (extent_of s) (extent_of t) (common_of (extent_of s) (extent_of t)) refl refl refl refl) a b

square_meets : PairsMeet (sides_of square)
unfolding extent_of common_of
square_meets = (
  (
    inl (there _ _ (one_point _ _ refl refl) (one_point _ _ refl refl)),
    (
      inl (there _ _ (empty_y _ _ (omega (arith, ints))) (empty_y _ _ (omega (arith, ints)))),
      (inr (there _ _ (one_point _ _ refl refl) (one_point _ _ refl refl)), tt),
    ),
  ),
  (
    (
      inl (there _ _ (one_point _ _ refl refl) (one_point _ _ refl refl)),
      (inl (there _ _ (empty_x _ _ (omega (arith, ints))) (empty_x _ _ (omega (arith, ints)))), tt),
    ),
    ((inl (there _ _ (one_point _ _ refl refl) (one_point _ _ refl refl)), tt), (tt, tt)),
  ),
)

pub square_is_simple : IsSimple square
square_is_simple = record {
  four = omega arith;
  straight = (inr (refl, λ e. absurd (omega (arith, ints))), (inl (refl, λ e. absurd (omega (arith, ints))), (inr (refl, λ e. absurd (omega (arith, ints))), (inl (refl, λ e. absurd (omega (arith, ints))), tt))));
  meet = square_meets;
}
