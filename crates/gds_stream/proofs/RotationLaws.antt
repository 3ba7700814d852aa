-- Rings that begin at another corner, or go round the other way.
use Rattle.std.proofs.Common.{◌≡◌, inl, inr, ℕ, List, [], ◌∷◌, ◌++◌, length, take, drop, map, ℤ, Bool, true, false, cond, ◌&&◌, refl, sym, ap, subst, ◌∙◌, arith, append_assoc, int_lt}
use Rattle.std.specs.Prelude.{reverse}
use Rattle.std.proofs.lemmas.Int.{ints}
use Rattle.std.proofs.lemmas.List.{append-nil, length-append, take-append-drop, reverse-append, length-reverse}
use Rattle.std.specs.List.{AllByRecursion}
use Rattle.std.specs.Ordering.{int_eq}
use Rattle.or_geom.specs.declared.shape.Point.{Point}
use Rattle.rectilinear.specs.declared.ring.RingSide.{RingSide}
use Rattle.rectilinear.specs.Ring.{sides_on, sides_of, side}
use Rattle.rectilinear.specs.Corners.{is_up, is_down, is_right, is_left, is_run, last_of}
use Rattle.rectilinear.specs.Simple.{LiesBetween, LiesOnSide, IsStraight, MeetAtMostThere, MeetAsNeighbours, AllMeet, PairsMeet, AllStraight}
use Rattle.gds_records.specs.Values.{IsShort}
use Rattle.gds_library.specs.Writable.{IsWritableRing}
use Rattle.gds_stream.specs.Turned.{begun_at, from_lowest, lowest_index, goes_right, other_way, turned_ring}
use Rattle.gds_library.proofs.TurnLaws.{Turning, AreTurning, corners_turn, nothing_dropped, ways, down_way, right_way, left_way}

-- the first item put last
abbrev pub shifted : {X : Type 0} → List X → List X
shifted [] = []
shifted (x ∷ xs) = xs ++ x ∷ []

-- what stays where the first item is put last stays where any front is
pub swapped : {X : Type 0} (P : List X → Type 0) → ((l : List X) → P l → P (shifted l)) → (xs ys : List X)
    → P (xs ++ ys) → P (ys ++ xs)
swapped P step [] ys h = subst P (sym (append-nil ys)) h
swapped P step (x ∷ xs) ys h =
    let next = subst P (append_assoc xs ys (x ∷ [])) (step (x ∷ (xs ++ ys)) h) in
    subst P (append_assoc ys (x ∷ []) xs) (swapped P step xs (ys ++ x ∷ []) next)

pub begun_stays : {X : Type 0} (P : List X → Type 0) → ((l : List X) → P l → P (shifted l)) → (k : ℕ) (l : List X)
    → P l → P (drop k l ++ take k l)
begun_stays P step k l h = swapped P step (take k l) (drop k l) (subst P (sym (take-append-drop k l)) h)

-- the sides of a ring that begins one corner later

pub sides_more : (a : Point) (ps : List Point) (b c : Point) → sides_on a (ps ++ b ∷ []) c ≡ sides_on a ps b ++ side b c ∷ []
sides_more a [] b c = refl
sides_more a (p ∷ ps) b c = ap (λ (l : List RingSide). side a p ∷ l) (sides_more p ps b c)

pub sides_shifted : (ps : List Point) → sides_of (shifted ps) ≡ shifted (sides_of ps)
sides_shifted [] = refl
sides_shifted (p ∷ []) = refl
sides_shifted (p ∷ q ∷ qs) = sides_more q qs p q

-- the same side from its end to its beginning
abbrev pub flipped : RingSide → RingSide
flipped s = side s.b s.a

reverse-cons : {X : Type 0} (x : X) (xs : List X) → reverse (x ∷ xs) ≡ reverse xs ++ x ∷ []
reverse-cons x xs = reverse-append (x ∷ []) xs

sides_back : (a : Point) (ps : List Point) (b : Point) → sides_on a (reverse ps) b ≡ reverse (map flipped (sides_on b ps a))
sides_back a [] b = refl
sides_back a (p ∷ ps) b =
    ap (λ (l : List Point). sides_on a l b) (reverse-cons p ps)
    ∙ sides_more a (reverse ps) p b
    ∙ ap (λ (l : List RingSide). l ++ side p b ∷ []) (sides_back a ps p)
    ∙ sym (reverse-cons (flipped (side b p)) (map flipped (sides_on p ps a)))

pub sides_other_way : (ps : List Point) → sides_of (other_way ps) ≡ reverse (map flipped (sides_of ps))
sides_other_way [] = refl
sides_other_way (p ∷ ps) = sides_back p ps p

-- straight sides

straight_more : (ss : List RingSide) (s : RingSide) → AllStraight ss → IsStraight s → AllStraight (ss ++ s ∷ [])
straight_more [] s h f = (f, tt)
straight_more (t ∷ ts) s h f = (h.0, straight_more ts s h.1 f)

straight_shifted : (ss : List RingSide) → AllStraight ss → AllStraight (shifted ss)
straight_shifted [] h = tt
straight_shifted (s ∷ ss) h = straight_more ss s h.1 h.0

straight_flipped : (s : RingSide) → IsStraight s → IsStraight (flipped s)
straight_flipped s (inl h) = inl (sym h.0, λ e. h.1 (sym e))
straight_flipped s (inr h) = inr (sym h.0, λ e. h.1 (sym e))

straight_back : (ss : List RingSide) → AllStraight ss → AllStraight (reverse (map flipped ss))
straight_back [] h = tt
straight_back (s ∷ ss) h =
    subst AllStraight (sym (reverse-cons (flipped s) (map flipped ss)))
    (straight_more (reverse (map flipped ss)) (flipped s) (straight_back ss h.1) (straight_flipped s h.0))

-- sides that meet as neighbours

either_way : (s t : RingSide) → MeetAsNeighbours s t → MeetAsNeighbours t s
either_way s t (inl m) = inr m
either_way s t (inr m) = inl m

meet_more : (s : RingSide) (ts : List RingSide) (t : RingSide) → AllMeet s ts → MeetAsNeighbours s t → AllMeet s (ts ++ t ∷ [])
meet_more s [] t h m = (m, tt)
meet_more s (u ∷ us) t h m = (h.0, meet_more s us t h.1 m)

pairs_more : (ss : List RingSide) (s : RingSide) → PairsMeet ss → AllMeet s ss → PairsMeet (ss ++ s ∷ [])
pairs_more [] s h m = (tt, tt)
pairs_more (t ∷ ts) s h m = (meet_more t ts s h.0 (either_way s t m.0), pairs_more ts s h.1 m.1)

pairs_shifted : (ss : List RingSide) → PairsMeet ss → PairsMeet (shifted ss)
pairs_shifted [] h = tt
pairs_shifted (s ∷ ss) h = pairs_more ss s h.1 h.0

between_back : (a z b : ℤ) → LiesBetween b z a → LiesBetween a z b
between_back a z b (inl h) = inr h
between_back a z b (inr h) = inl h

on_flipped : (s : RingSide) (p : Point) → LiesOnSide (flipped s) p → LiesOnSide s p
on_flipped s p h = record { in_x = between_back s.a.x p.x s.b.x h.in_x; in_y = between_back s.a.y p.y s.b.y h.in_y }

there_flipped : (s t : RingSide) → MeetAtMostThere s t → MeetAtMostThere (flipped t) (flipped s)
there_flipped s t m p a b = let e = m p (on_flipped s p b) (on_flipped t p a) in (e.1, e.0)

meet_flipped : (s t : RingSide) → MeetAsNeighbours s t → MeetAsNeighbours (flipped s) (flipped t)
meet_flipped s t (inl m) = inr (there_flipped s t m)
meet_flipped s t (inr m) = inl (there_flipped t s m)

meet_back : (s : RingSide) (ts : List RingSide) → AllMeet s ts → AllMeet (flipped s) (reverse (map flipped ts))
meet_back s [] h = tt
meet_back s (t ∷ ts) h =
    subst (AllMeet (flipped s)) (sym (reverse-cons (flipped t) (map flipped ts)))
    (meet_more (flipped s) (reverse (map flipped ts)) (flipped t) (meet_back s ts h.1) (meet_flipped s t h.0))

pairs_back : (ss : List RingSide) → PairsMeet ss → PairsMeet (reverse (map flipped ss))
pairs_back [] h = tt
pairs_back (s ∷ ss) h =
    subst PairsMeet (sym (reverse-cons (flipped s) (map flipped ss)))
    (pairs_more (reverse (map flipped ss)) (flipped s) (pairs_back ss h.1) (meet_back s ss h.0))

-- sides that turn

turning_more : (s : RingSide) (ts : List RingSide) (u : RingSide) → Turning s ts → is_run (last_of s ts) u ≡ false
    → Turning s (ts ++ u ∷ [])
turning_more s [] u h e = (e, tt)
turning_more s (t ∷ ts) u h e = (h.0, turning_more t ts u h.1 e)

last_more : (s : RingSide) (ts : List RingSide) (u : RingSide) → last_of s (ts ++ u ∷ []) ≡ u
last_more s [] u = refl
last_more s (t ∷ ts) u = last_more t ts u

turning_shifted : (ss : List RingSide) → AreTurning ss → AreTurning (shifted ss)
turning_shifted [] h = tt
turning_shifted (s ∷ []) h = h
turning_shifted (s ∷ t ∷ ts) h =
    subst (λ (w : RingSide). Turning w (t ∷ (ts ++ s ∷ []))) (sym (last_more t ts s)) (turning_more s (t ∷ ts) s h.1 h.0)

same_eq : (a b : ℤ) → int_eq a b ≡ int_eq b a
same_eq a b = grind (arith, ints)

up_flipped : (s : RingSide) → is_up (flipped s) ≡ is_down s
up_flipped s = ap (λ (b : Bool). b && int_lt s.b.y s.a.y) (same_eq s.b.x s.a.x)

down_flipped : (s : RingSide) → is_down (flipped s) ≡ is_up s
down_flipped s = ap (λ (b : Bool). b && int_lt s.a.y s.b.y) (same_eq s.b.x s.a.x)

right_flipped : (s : RingSide) → is_right (flipped s) ≡ is_left s
right_flipped s = ap (λ (b : Bool). b && int_lt s.b.x s.a.x) (same_eq s.b.y s.a.y)

left_flipped : (s : RingSide) → is_left (flipped s) ≡ is_right s
left_flipped s = ap (λ (b : Bool). b && int_lt s.a.x s.b.x) (same_eq s.b.y s.a.y)

-- two sides that go one way are a run
run_up : (s t : RingSide) → is_up s ≡ true → is_up t ≡ true → is_run s t ≡ true
run_up s t e f = rw e f

run_down : (s t : RingSide) → is_down s ≡ true → is_down t ≡ true → is_run s t ≡ true
run_down s t e f = let w = down_way s e in rw (w.up, w.down) f

run_right : (s t : RingSide) → is_right s ≡ true → is_right t ≡ true → is_run s t ≡ true
run_right s t e f = let w = right_way s e in rw (w.up, w.down, w.right) f

run_left : (s t : RingSide) → is_left s ≡ true → is_left t ≡ true → is_run s t ≡ true
run_left s t e f = let w = left_way s e in rw (w.up, w.down, w.right, w.left) f

run_back : (s t : RingSide) → is_run (flipped t) (flipped s) ≡ true → is_run s t ≡ true
run_back s t is = elim (ways (flipped t) (flipped s) is) [
  | inl h ↦ run_down s t (sym (up_flipped s) ∙ h.1) (sym (up_flipped t) ∙ h.0)
  | inr (inl h) ↦ run_up s t (sym (down_flipped s) ∙ h.1) (sym (down_flipped t) ∙ h.0)
  | inr (inr (inl h)) ↦ run_left s t (sym (right_flipped s) ∙ h.1) (sym (right_flipped t) ∙ h.0)
  | inr (inr (inr h)) ↦ run_right s t (sym (left_flipped s) ∙ h.1) (sym (left_flipped t) ∙ h.0)
]

turn_back : (s t : RingSide) → is_run s t ≡ false → is_run (flipped t) (flipped s) ≡ false
turn_back s t e = elim (is_run (flipped t) (flipped s)) as (λ b. is_run (flipped t) (flipped s) ≡ b → b ≡ false) [
  | true ↦ λ is. (let both : true ≡ false = sym (run_back s t is) ∙ e in absurd cc)
  | false ↦ λ is. refl
] refl

-- a chain of sides that turn
abbrev Path : List RingSide → Type 0
Path [] = Unit {0}
Path (s ∷ ss) = Turning s ss

path_on : (s : RingSide) (ss : List RingSide) (v u : RingSide) → Turning s (ss ++ v ∷ []) → is_run v u ≡ false
    → Turning s ((ss ++ v ∷ []) ++ u ∷ [])
path_on s [] v u h e = (h.0, (e, tt))
path_on s (t ∷ ts) v u h e = (h.0, path_on t ts v u h.1 e)

path_more : (ss : List RingSide) (v u : RingSide) → Path (ss ++ v ∷ []) → is_run v u ≡ false → Path ((ss ++ v ∷ []) ++ u ∷ [])
path_more [] v u h e = (e, tt)
path_more (s ∷ ss) v u h e = path_on s ss v u h e

path_back : (w : RingSide) (ss : List RingSide) → Turning w ss → Path (reverse (map flipped ss) ++ flipped w ∷ [])
path_back w [] h = tt
path_back w (s ∷ ss) h =
    subst (λ (l : List RingSide). Path (l ++ flipped w ∷ [])) (sym (reverse-cons (flipped s) (map flipped ss)))
    (path_more (reverse (map flipped ss)) (flipped s) (flipped w) (path_back s ss h.1) (turn_back w s h.0))

split_path : (s : RingSide) (ts : List RingSide) (u : RingSide) → Turning s (ts ++ u ∷ [])
    → (is_run (last_of s ts) u ≡ false) × Turning s ts
split_path s [] u h = (h.0, tt)
split_path s (t ∷ ts) u h = let r = split_path t ts u h.1 in (r.0, (h.0, r.1))

first_back : (s : RingSide) (ss : List RingSide)
    → (others : List RingSide) × (reverse (map flipped (s ∷ ss)) ≡ flipped (last_of s ss) ∷ others)
first_back s [] = ([], refl)
first_back s (t ∷ ts) =
    let r = first_back t ts in (
      r.0 ++ flipped s ∷ [],
      reverse-cons (flipped s) (map flipped (t ∷ ts)) ∙ ap (λ (l : List RingSide). l ++ flipped s ∷ []) r.1,
    )

turning_back : (ss : List RingSide) → AreTurning ss → AreTurning (reverse (map flipped ss))
turning_back [] h = tt
turning_back (s ∷ ss) h =
    let first = flipped (last_of s ss) in
    let r = first_back s ss in
    let path : Turning first (r.0 ++ first ∷ []) =
    subst (λ (l : List RingSide). Path (l ++ first ∷ [])) r.1 (path_back (last_of s ss) (s ∷ ss) h) in
    subst AreTurning (sym r.1) (split_path first r.0 first path)

-- rings that can be written

pub all_more : {X : Type 0} (P : X → Type 0) (xs : List X) (x : X) → AllByRecursion P xs → P x → AllByRecursion P (xs ++ x ∷ [])
all_more P [] x h f = (f, tt)
all_more P (y ∷ ys) x h f = (h.0, all_more P ys x h.1 f)

all_shifted : {X : Type 0} (P : X → Type 0) (xs : List X) → AllByRecursion P xs → AllByRecursion P (shifted xs)
all_shifted P [] h = tt
all_shifted P (x ∷ xs) h = all_more P xs x h.1 h.0

all_reversed : {X : Type 0} (P : X → Type 0) (xs : List X) → AllByRecursion P xs → AllByRecursion P (reverse xs)
all_reversed P [] h = tt
all_reversed P (x ∷ xs) h =
    subst (AllByRecursion P) (sym (reverse-cons x xs)) (all_more P (reverse xs) x (all_reversed P xs h.1) h.0)

all_other_way : (P : Point → Type 0) (ps : List Point) → AllByRecursion P ps → AllByRecursion P (other_way ps)
all_other_way P [] h = tt
all_other_way P (p ∷ ps) h = (h.0, all_reversed P ps h.1)

length_shifted : {X : Type 0} (xs : List X) → length (shifted xs) ≡ length xs
length_shifted [] = refl
length_shifted (x ∷ xs) = omega (arith, length-append xs (x ∷ []))

length_other_way : (ps : List Point) → length (other_way ps) ≡ length ps
length_other_way [] = refl
length_other_way (p ∷ ps) = omega (arith, length-reverse ps)

-- the corners at which a ring turns
ring_turning : (corners : List Point) → IsWritableRing corners → AreTurning (sides_of corners)
ring_turning corners w = subst (λ (l : List Point). AreTurning (sides_of l)) w.turning (corners_turn corners)

pub ring_shifted : (corners : List Point) → IsWritableRing corners → IsWritableRing (shifted corners)
ring_shifted corners w =
    let sides = sides_shifted corners in
    let same = length_shifted corners in
    let four = w.simple.four in
    let few = w.few in
    let straight = subst AllStraight (sym sides) (straight_shifted (sides_of corners) w.simple.straight) in
    record {
      short = all_shifted IsShort corners w.short;
      few = omega (arith, same, few);
      simple = record {
        four = omega (arith, same, four);
        straight = straight;
        meet = subst PairsMeet (sym sides) (pairs_shifted (sides_of corners) w.simple.meet);
      };
      turning = nothing_dropped (shifted corners) straight
          (subst AreTurning (sym sides) (turning_shifted (sides_of corners) (ring_turning corners w)));
    }

pub ring_other_way : (corners : List Point) → IsWritableRing corners → IsWritableRing (other_way corners)
ring_other_way corners w =
    let sides = sides_other_way corners in
    let same = length_other_way corners in
    let four = w.simple.four in
    let few = w.few in
    let straight = subst AllStraight (sym sides) (straight_back (sides_of corners) w.simple.straight) in
    record {
      short = all_other_way IsShort corners w.short;
      few = omega (arith, same, few);
      simple = record {
        four = omega (arith, same, four);
        straight = straight;
        meet = subst PairsMeet (sym sides) (pairs_back (sides_of corners) w.simple.meet);
      };
      turning = nothing_dropped (other_way corners) straight
          (subst AreTurning (sym sides) (turning_back (sides_of corners) (ring_turning corners w)));
    }

pub ring_begun : (k : ℕ) (corners : List Point) → IsWritableRing corners → IsWritableRing (begun_at k corners)
ring_begun k corners w = begun_stays IsWritableRing ring_shifted k corners w

-- a ring that can be written can be written turned
pub ring_turned : (corners : List Point) → IsWritableRing corners → IsWritableRing (turned_ring corners)
ring_turned corners w =
    let begun = ring_begun (lowest_index corners) corners w in
    elim (goes_right (from_lowest corners)) as (λ b. IsWritableRing (cond b (from_lowest corners) (other_way (from_lowest corners)))) [
      | true ↦ begun
      | false ↦ ring_other_way (from_lowest corners) begun
    ]

-- a turned ring has as many corners
pub length_turned : (corners : List Point) → length (turned_ring corners) ≡ length corners
length_turned corners =
    let begun = begun_stays (λ (l : List Point). length l ≡ length corners) (λ l h. length_shifted l ∙ h) (lowest_index corners) corners refl in
    elim (goes_right (from_lowest corners)) as (λ b. length (cond b (from_lowest corners) (other_way (from_lowest corners))) ≡ length corners) [
      | true ↦ begun
      | false ↦ length_other_way (from_lowest corners) ∙ begun
    ]
