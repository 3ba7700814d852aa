-- Of the corners of a ring no more are dropped.
use Rattle.std.proofs.Common.{◌≡◌, ◌⊎◌, inl, inr, List, [], ◌∷◌, map, ℤ, ◌≤ℤ◌, ◌<ℤ◌, Bool, true, false, cond, ◌&&◌, refl, sym, ap, subst, ◌∙◌, arith, int_lt}
use Rattle.std.proofs.lemmas.Int.{ints}
use Rattle.std.proofs.lemmas.Bool.Decides.{Decides-int_eq}
use Rattle.std.proofs.lemmas.Bool.{and_right, and_from, and_parts}
use Rattle.std.specs.Ordering.{int_eq}
use Rattle.or_geom.specs.declared.shape.Point.{Point}
use Rattle.rectilinear.specs.declared.ring.RingSide.{RingSide}
use Rattle.rectilinear.specs.Ring.{sides_on, sides_of, side}
use Rattle.rectilinear.specs.Corners.{is_zero, is_up, is_down, is_right, is_left, is_run, steps, turns_after, last_of, turns, corners_of}
use Rattle.rectilinear.specs.Simple.{IsStraight, AllStraight}

-- both go the same way along an axis, or neither goes along one
pub record SameWay (s t : RingSide) : Type 0 where
  pub up : is_up s ≡ is_up t
  pub down : is_down s ≡ is_down t
  pub right : is_right s ≡ is_right t
  pub left : is_left s ≡ is_left t

pub same_way : (s : RingSide) → SameWay s s
same_way s = record { up = refl; down = refl; right = refl; left = refl }

back : (s t : RingSide) → SameWay s t → SameWay t s
back s t w = record { up = sym w.up; down = sym w.down; right = sym w.right; left = sym w.left }

on : (s t u : RingSide) → SameWay s t → SameWay t u → SameWay s u
on s t u v w = record { up = v.up ∙ w.up; down = v.down ∙ w.down; right = v.right ∙ w.right; left = v.left ∙ w.left }

same_run : (s t u v : RingSide) → SameWay s u → SameWay t v → is_run s t ≡ is_run u v
same_run s t u v a b = λ i. cond (a.up i) (b.up i)
    (cond (a.down i) (b.down i) (cond (a.right i) (b.right i) (cond (a.left i) (b.left i) false)))

-- the tests of a side
below : (a b : ℤ) → int_lt a b ≡ true → a <ℤ b
below a b is = grind (arith, ints)

is_less : (a b : ℤ) → a <ℤ b → int_lt a b ≡ true
is_less a b h = grind (arith, ints)

not_less : (a b : ℤ) → b ≤ℤ a → int_lt a b ≡ false
not_less a b h = grind (arith, ints)

-- at equal x and rising y
record Rises (x y z w : ℤ) : Type 0 where
  level : x ≡ y
  less : z <ℤ w

rises : (x y z w : ℤ) → (int_eq x y && int_lt z w) ≡ true → Rises x y z w
rises x y z w is =
    let tests = and_parts (int_eq x y) (int_lt z w) is in
    record { level = (Decides-int_eq x y).0 tests.0; less = below z w tests.1 }

is_rising : (x y z w : ℤ) → Rises x y z w → (int_eq x y && int_lt z w) ≡ true
is_rising x y z w r = and_from (int_eq x y) (int_lt z w) ((Decides-int_eq x y).1 r.level) (is_less z w r.less)

rise_on : (x y z a b c : ℤ) → Rises x y a b → Rises y z b c → Rises x z a c
rise_on x y z a b c r s = record { level = r.level ∙ s.level; less = omega (arith, ints, r.less, s.less) }

not_back : (x y z w : ℤ) → Rises x y z w → (int_eq x y && int_lt w z) ≡ false
not_back x y z w r = and_right (int_eq x y) (int_lt w z) (not_less w z (omega (arith, ints, r.less)))

level : (b : Bool) (x y : ℤ) → x ≡ y → (b && int_lt x y) ≡ false
level b x y is = and_right b (int_lt x y) (not_less x y (omega (arith, ints, is)))

-- a side that goes along an axis goes one way
pub record IsWay (u d r l : Bool) (s : RingSide) : Type 0 where
  pub up : is_up s ≡ u
  pub down : is_down s ≡ d
  pub right : is_right s ≡ r
  pub left : is_left s ≡ l

pub up_way : (s : RingSide) → is_up s ≡ true → IsWay true false false false s
up_way s is =
    let r = rises s.a.x s.b.x s.a.y s.b.y is in
    record {
      up = is;
      down = not_back s.a.x s.b.x s.a.y s.b.y r;
      right = level _ s.a.x s.b.x r.level;
      left = level _ s.b.x s.a.x (sym r.level);
    }

pub down_way : (s : RingSide) → is_down s ≡ true → IsWay false true false false s
down_way s is =
    let r = rises s.a.x s.b.x s.b.y s.a.y is in
    record {
      up = not_back s.a.x s.b.x s.b.y s.a.y r;
      down = is;
      right = level _ s.a.x s.b.x r.level;
      left = level _ s.b.x s.a.x (sym r.level);
    }

pub right_way : (s : RingSide) → is_right s ≡ true → IsWay false false true false s
right_way s is =
    let r = rises s.a.y s.b.y s.a.x s.b.x is in
    record {
      up = level _ s.a.y s.b.y r.level;
      down = level _ s.b.y s.a.y (sym r.level);
      right = is;
      left = not_back s.a.y s.b.y s.a.x s.b.x r;
    }

pub left_way : (s : RingSide) → is_left s ≡ true → IsWay false false false true s
left_way s is =
    let r = rises s.a.y s.b.y s.b.x s.a.x is in
    record {
      up = level _ s.a.y s.b.y r.level;
      down = level _ s.b.y s.a.y (sym r.level);
      right = not_back s.a.y s.b.y s.b.x s.a.x r;
      left = is;
    }

one_way : (u d r l : Bool) (s t : RingSide) → IsWay u d r l s → IsWay u d r l t → SameWay s t
one_way u d r l s t v w = record
    { up = v.up ∙ sym w.up; down = v.down ∙ sym w.down; right = v.right ∙ sym w.right; left = v.left ∙ sym w.left }

-- the four ways of a run
abbrev pub Both : Bool → Bool → Type 0
Both a b = (a ≡ true) × (b ≡ true)

in_a_way : (a b c d e f g h : Bool) → cond a b (cond c d (cond e f (cond g h false))) ≡ true
    → Both a b ⊎ (Both c d ⊎ (Both e f ⊎ Both g h))
in_a_way true b c d e f g h is = inl (refl, is)
in_a_way false b true d e f g h is = inr (inl (refl, is))
in_a_way false b false d true f g h is = inr (inr (inl (refl, is)))
in_a_way false b false d false f true h is = inr (inr (inr (refl, is)))
in_a_way false b false d false f false h is = absurd cc

pub ways : (s t : RingSide) → is_run s t ≡ true
    → Both (is_up s) (is_up t) ⊎ (Both (is_down s) (is_down t)
    ⊎ (Both (is_right s) (is_right t) ⊎ Both (is_left s) (is_left t)))
ways s t is = in_a_way (is_up s) (is_up t) (is_down s) (is_down t) (is_right s) (is_right t) (is_left s) (is_left t) is

run_is_one_way : (s t : RingSide) → is_run s t ≡ true → SameWay s t
run_is_one_way s t is = elim (ways s t is) [
  | inl h ↦ one_way true false false false s t (up_way s h.0) (up_way t h.1)
  | inr (inl h) ↦ one_way false true false false s t (down_way s h.0) (down_way t h.1)
  | inr (inr (inl h)) ↦ one_way false false true false s t (right_way s h.0) (right_way t h.1)
  | inr (inr (inr h)) ↦ one_way false false false true s t (left_way s h.0) (left_way t h.1)
]

up_on : (p q r : Point) → is_up (side p q) ≡ true → is_up (side q r) ≡ true → is_up (side p r) ≡ true
up_on p q r h k = is_rising p.x r.x p.y r.y
    (rise_on p.x q.x r.x p.y q.y r.y (rises p.x q.x p.y q.y h) (rises q.x r.x q.y r.y k))

fall_on : (x y z a b c : ℤ) → Rises x y b a → Rises y z c b → Rises x z c a
fall_on x y z a b c r s = record { level = r.level ∙ s.level; less = omega (arith, ints, r.less, s.less) }

down_on : (p q r : Point) → is_down (side p q) ≡ true → is_down (side q r) ≡ true → is_down (side p r) ≡ true
down_on p q r h k = is_rising p.x r.x r.y p.y
    (fall_on p.x q.x r.x p.y q.y r.y (rises p.x q.x q.y p.y h) (rises q.x r.x r.y q.y k))

right_on : (p q r : Point) → is_right (side p q) ≡ true → is_right (side q r) ≡ true → is_right (side p r) ≡ true
right_on p q r h k = is_rising p.y r.y p.x r.x
    (rise_on p.y q.y r.y p.x q.x r.x (rises p.y q.y p.x q.x h) (rises q.y r.y q.x r.x k))

left_on : (p q r : Point) → is_left (side p q) ≡ true → is_left (side q r) ≡ true → is_left (side p r) ≡ true
left_on p q r h k = is_rising p.y r.y r.x p.x
    (fall_on p.y q.y r.y p.x q.x r.x (rises p.y q.y q.x p.x h) (rises q.y r.y r.x q.x k))

-- from the end of the side to a point it goes on as the side does, or they are one
abbrev Extends : RingSide → Point → Type 0
Extends s z = (s.b ≡ z) ⊎ (is_run s (side s.b z) ≡ true)

joined : (s : RingSide) (c z : Point) → SameWay s (side c s.b) → Extends s z → SameWay s (side c z)
joined s c z w (inl e) = subst (λ q. SameWay s (side c q)) e w
joined s c z w (inr run) = elim (ways s (side s.b z) run) [
  | inl h ↦ one_way true false false false s (side c z) (up_way s h.0)
      (up_way (side c z) (up_on c s.b z (sym w.up ∙ h.0) h.1))
  | inr (inl h) ↦ one_way false true false false s (side c z) (down_way s h.0)
      (down_way (side c z) (down_on c s.b z (sym w.down ∙ h.0) h.1))
  | inr (inr (inl h)) ↦ one_way false false true false s (side c z) (right_way s h.0)
      (right_way (side c z) (right_on c s.b z (sym w.right ∙ h.0) h.1))
  | inr (inr (inr h)) ↦ one_way false false false true s (side c z) (left_way s h.0)
      (left_way (side c z) (left_on c s.b z (sym w.left ∙ h.0) h.1))
]

-- each begins where the one before it ends
abbrev Chain : RingSide → List RingSide → Type 0
Chain s [] = Unit {0}
Chain s (t ∷ ts) = (s.b ≡ t.a) × Chain t ts

run_extends : (s t : RingSide) → s.b ≡ t.a → is_run s t ≡ true → Extends s t.b
run_extends s t e is = inr (subst (λ q. is_run s (side q t.b) ≡ true) (sym e) is)

extends_more : (s t : RingSide) (z : Point) → s.b ≡ t.a → is_run s t ≡ true → Extends t z → Extends s z
extends_more s t z e is more =
    let on_t = joined t t.a z (same_way t) more in
    inr (subst (λ q. is_run s (side q z) ≡ true) (sym e)
    (same_run s (side t.a z) s t (same_way s) (back t (side t.a z) on_t) ∙ is))

-- no side goes on as the one before it
abbrev pub Turning : RingSide → List RingSide → Type 0
Turning s [] = Unit {0}
Turning s (t ∷ ts) = (is_run s t ≡ false) × Turning t ts

-- sides that turn, of which the first goes the way of s and the last the way of w
record Turns (s w : RingSide) (sides : List RingSide) : Type 0 where
  first : RingSide
  others : List RingSide
  parts : sides ≡ first ∷ others
  begins : SameWay s first
  turning : Turning first others
  ends : SameWay w (last_of first others)

-- the sides between the corners of a chain
turn_on : (s t : RingSide) (ts : List RingSide) (c z : Point) (run : Bool) → is_run s t ≡ run → s.b ≡ t.a
    → SameWay s (side c s.b)
    → ((d : Point) → SameWay t (side d t.b) → Turns t (last_of t ts) (sides_on d (turns_after t ts) z))
    → Turns s (last_of t ts) (sides_on c (cond run (turns_after t ts) (t.a ∷ turns_after t ts)) z)
turn_on s t ts c z true is e w f =
    let one = run_is_one_way s t is in
    let r = f c (on t s (side c t.b) (back s t one) (joined s c t.b w (run_extends s t e is))) in
    record {
      first = r.first;
      others = r.others;
      parts = r.parts;
      begins = on s t r.first one r.begins;
      turning = r.turning;
      ends = r.ends;
    }
turn_on s t ts c z false is e w f =
    let r = f t.a (same_way t) in
    let here = subst (λ q. SameWay s (side c q)) e w in
    record {
      first = side c t.a;
      others = r.first ∷ r.others;
      parts = ap (λ l. side c t.a ∷ l) r.parts;
      begins = here;
      turning = (
        same_run (side c t.a) r.first s t (back s (side c t.a) here) (back t r.first r.begins)
            ∙ is,
        r.turning,
      );
      ends = r.ends;
    }

sides_turn : (s : RingSide) (ss : List RingSide) (c z : Point) → Chain s ss → SameWay s (side c s.b)
    → Extends (last_of s ss) z → Turns s (last_of s ss) (sides_on c (turns_after s ss) z)
sides_turn s [] c z chain w e =
    record {
      first = side c z;
      others = [];
      parts = refl;
      begins = joined s c z w e;
      turning = tt;
      ends = joined s c z w e;
    }
sides_turn s (t ∷ ts) c z chain w e =
    turn_on s t ts c z (is_run s t) refl chain.0 w (λ d v. sides_turn t ts d z chain.1 v e)

-- the first corner of a chain
record FirstTurn (s : RingSide) (ss : List RingSide) (corners : List Point) : Type 0 where
  before : RingSide
  next : RingSide
  others : List RingSide
  parts : corners ≡ next.a ∷ turns_after next others
  begins : SameWay s before
  turn : is_run before next ≡ false
  chain : Chain next others
  last : last_of s ss ≡ last_of next others
  extends : Extends s next.a

found_at : (s t : RingSide) (ts : List RingSide) (run : Bool) → is_run s t ≡ run → s.b ≡ t.a → Chain t ts
    → (turns_after t ts ≡ []) ⊎ FirstTurn t ts (turns_after t ts)
    → (cond run (turns_after t ts) (t.a ∷ turns_after t ts) ≡ [])
    ⊎ FirstTurn s (t ∷ ts) (cond run (turns_after t ts) (t.a ∷ turns_after t ts))
found_at s t ts true is e chain (inl none) = inl none
found_at s t ts true is e chain (inr f) =
    inr (record {
      before = f.before;
      next = f.next;
      others = f.others;
      parts = f.parts;
      begins = on s t f.before (run_is_one_way s t is) f.begins;
      turn = f.turn;
      chain = f.chain;
      last = f.last;
      extends = extends_more s t f.next.a e is f.extends;
    })
found_at s t ts false is e chain f =
    inr (record {
      before = s;
      next = t;
      others = ts;
      parts = refl;
      begins = same_way s;
      turn = is;
      chain = chain;
      last = refl;
      extends = inl e;
    })

first_turn : (s : RingSide) (ss : List RingSide) → Chain s ss → (turns_after s ss ≡ []) ⊎ FirstTurn s ss (turns_after s ss)
first_turn s [] chain = inl refl
first_turn s (t ∷ ts) chain = found_at s t ts (is_run s t) refl chain.0 chain.1 (first_turn t ts chain.1)

-- the sides of a ring, from each point to the next
abbrev From : Point → List RingSide → Point → Type 0
From p [] q = p ≡ q
From p (s ∷ ss) q = (p ≡ s.a) × From s.b ss q

from_sides : (p : Point) (ps : List Point) (last : Point) → From p (sides_on p ps last) last
from_sides p [] last = (refl, refl)
from_sides p (q ∷ qs) last = (refl, from_sides q qs last)

zero_ends : (s : RingSide) → is_zero s ≡ true → s.a ≡ s.b
zero_ends s is =
    let tests = and_parts (int_eq s.a.x s.b.x) (int_eq s.a.y s.b.y) is in
    let x = (Decides-int_eq s.a.x s.b.x).0 tests.0 in
    let y = (Decides-int_eq s.a.y s.b.y).0 tests.1 in
    λ i. record { x = x i; y = y i }

step_at : (p q : Point) (s : RingSide) (ss : List RingSide) (zero : Bool) → is_zero s ≡ zero → p ≡ s.a → From s.b ss q
    → From p (cond zero ss (s ∷ ss)) q
step_at p q s ss true is e h = subst (λ r. From r ss q) (sym (e ∙ zero_ends s is)) h
step_at p q s ss false is e h = (e, h)

from_steps : (ss : List RingSide) (p q : Point) → From p ss q → From p (steps ss) q
from_steps [] p q h = h
from_steps (s ∷ ss) p q h = step_at p q s (steps ss) (is_zero s) refl h.0 (from_steps ss s.b q h.1)

chain_from : (s : RingSide) (ss : List RingSide) (q : Point) → From s.b ss q → Chain s ss × ((last_of s ss).b ≡ q)
chain_from s [] q h = (tt, h)
chain_from s (t ∷ ts) q h = let r = chain_from t ts q h.1 in ((h.0, r.0), r.1)

-- sides of which no run is left
abbrev pub AreTurning : List RingSide → Type 0
AreTurning [] = Unit {0}
AreTurning (s ∷ ss) = Turning (last_of s ss) (s ∷ ss)

turn_at : (w : RingSide) (ss : List RingSide) (corners : List Point) → last_of w ss ≡ w
    → (corners ≡ []) ⊎ FirstTurn w ss corners → AreTurning (sides_of corners)
turn_at w ss corners around (inl none) = subst (λ (l : List Point). AreTurning (sides_of l)) (sym none) tt
turn_at w ss corners around (inr f) =
    let last : w ≡ last_of f.next f.others = sym around ∙ f.last in
    let r = sides_turn f.next f.others f.next.a f.next.a f.chain (same_way f.next)
    (subst (λ s. Extends s f.next.a) last f.extends) in
    let end = on (last_of f.next f.others) w f.before (subst (λ s. SameWay s w) last (same_way w)) f.begins in
    let turn : is_run (last_of r.first r.others) r.first ≡ false =
    same_run (last_of r.first r.others) r.first f.before f.next
    (on (last_of r.first r.others) (last_of f.next f.others) f.before
    (back (last_of f.next f.others) (last_of r.first r.others) r.ends) end) (back f.next r.first r.begins) ∙ f.turn in
    subst (λ (l : List Point). AreTurning (sides_of l)) (sym f.parts) (subst AreTurning (sym r.parts) (turn, r.turning))

turns_turn : (ss : List RingSide) (p : Point) → From p ss p → AreTurning (sides_of (turns ss))
turns_turn [] p h = tt
turns_turn (s ∷ ss) p h =
    let c = chain_from s ss p h.1 in
    turn_at (last_of s ss) (s ∷ ss) (turns (s ∷ ss)) refl (first_turn (last_of s ss) (s ∷ ss) (c.1 ∙ h.0, c.0))

pub corners_turn : (points : List Point) → AreTurning (sides_of (corners_of points))
corners_turn [] = tt
corners_turn (p ∷ ps) = turns_turn (steps (sides_on p ps p)) p (from_steps (sides_on p ps p) p p (from_sides p ps p))

-- sides that turn are kept, and so are their beginnings
kept_all : (s : RingSide) (ss : List RingSide) → Turning s ss → turns_after s ss ≡ map (λ (t : RingSide). t.a) ss
kept_all s [] h = refl
kept_all s (t ∷ ts) h = rw h.0 (ap (λ (l : List Point). t.a ∷ l) (kept_all t ts h.1))

starts : (p : Point) (ps : List Point) (last : Point) → map (λ (t : RingSide). t.a) (sides_on p ps last) ≡ p ∷ ps
starts p [] last = refl
starts p (q ∷ qs) last = ap (λ (l : List Point). p ∷ l) (starts q qs last)

moves : (s : RingSide) → IsStraight s → is_zero s ≡ false
moves s straight = elim (is_zero s) as (λ b. is_zero s ≡ b → b ≡ false) [
  | true ↦ λ is. (let e = zero_ends s is in elim straight [
    | inl h ↦ absurd (h.1 (ap (λ (p : Point). p.y) e))
    | inr h ↦ absurd (h.1 (ap (λ (p : Point). p.x) e))
  ])
  | false ↦ λ is. refl
] refl

all_move : (ss : List RingSide) → AllStraight ss → steps ss ≡ ss
all_move [] h = refl
all_move (s ∷ ss) h = rw (moves s h.0) (ap (λ (l : List RingSide). s ∷ l) (all_move ss h.1))

turned : (ss : List RingSide) → AreTurning ss → turns ss ≡ map (λ (t : RingSide). t.a) ss
turned [] h = refl
turned (s ∷ ss) h = kept_all (last_of s ss) (s ∷ ss) h

all_starts : (corners : List Point) → map (λ (t : RingSide). t.a) (sides_of corners) ≡ corners
all_starts [] = refl
all_starts (p ∷ ps) = starts p ps p

-- corners at which straight sides turn are all kept
pub nothing_dropped : (corners : List Point) → AllStraight (sides_of corners) → AreTurning (sides_of corners)
    → corners_of corners ≡ corners
nothing_dropped corners straight turning = ap turns (all_move (sides_of corners) straight)
    ∙ turned (sides_of corners) turning ∙ all_starts corners
