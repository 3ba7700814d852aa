-- Runs of points, their segments and the boxes round them; rings as runs that come back.
use Rattle.std.proofs.Common.{◌≡◌, inl, inr, ℕ, zero, suc, ◌+◌, ◌-◌, ◌<◌, ◌≤◌, List, [], ◌∷◌, ◌++◌, length, get_or, take, drop, ℤ, ◌≤ℤ◌, ◌↔◌, refl, sym, ap, subst, arith, add-one}
use Rattle.std.proofs.lemmas.Int.{ints, clamps}
use Rattle.std.specs.Int.{int_max, int_min}
use Rattle.std.proofs.lemmas.List.{take_more, take_rest}
use Rattle.std.specs.List.{AllByRecursion}
use Rattle.or_geom.specs.declared.shape.Point.{Point}
use Rattle.rectilinear.specs.declared.ring.RingSide.{RingSide}
use Rattle.rectilinear.specs.Ring.{side, sides_on, sides_of}
use Rattle.rectilinear.specs.Corners.{last_of, corners_of}
use Rattle.rectilinear.specs.Simple.{LiesBetween, LiesOnSide, IsStraight, MeetAsNeighbours, MeetAcross, PairsMeet, AllStraight, IsSimple}
use Rattle.rectilinear.specs.Extents.{HoldsSides}
use Rattle.rectilinear.proofs.HullLaws.{apart_sides, pairs_parts}
use Rattle.gds_library.specs.Values.{segments, segments_from, last_point}
use Rattle.gds_library.proofs.TurnLaws.{Turning, AreTurning, corners_turn, nothing_dropped}
use Rattle.gds_stream.specs.declared.bounds.Bounds.{Bounds}
use Rattle.gds_stream.specs.Bounds.{IsWithinBounds, AreCommonBounds, AreEmptyBounds, HoldsPoints, IsWidened}
use Rattle.gds_stream.proofs.RotationLaws.{all_more}

-- boxes

pub widened : (b : Bounds) (point : Point) (wider : Bounds) → wider.low.x ≡ int_min b.low.x point.x
    → wider.low.y ≡ int_min b.low.y point.y
    → wider.high.x ≡ int_max b.high.x point.x → wider.high.y ≡ int_max b.high.y point.y → IsWidened b point wider
widened b point wider lx ly hx hy = record {
  each = λ p w. record {
    left = omega (arith, ints, clamps, w.left, lx);
    right = omega (arith, ints, clamps, w.right, hx);
    low = omega (arith, ints, clamps, w.low, ly);
    high = omega (arith, ints, clamps, w.high, hy);
  };
  holds = record {
    left = omega (arith, ints, clamps, lx);
    right = omega (arith, ints, clamps, hx);
    low = omega (arith, ints, clamps, ly);
    high = omega (arith, ints, clamps, hy);
  };
}

all_wider : (b wider : Bounds) (point : Point) → IsWidened b point wider → (ps : List Point) → HoldsPoints b ps
    → HoldsPoints wider ps
all_wider b wider point w [] h = tt
all_wider b wider point w (p ∷ ps) h = (w.each p h.0, all_wider b wider point w ps h.1)

pub holds_more : (points : List Point) (d : Point) (k : ℕ) (b wider : Bounds) → k < length points
    → IsWidened b (get_or points k d) wider
    → HoldsPoints b (take k points) → HoldsPoints wider (take (k + 1) points)
holds_more points d k b wider lt w h =
    subst (HoldsPoints wider) (sym (take_more points k d lt))
    (all_more (IsWithinBounds wider) (take k points) (get_or points k d)
    (all_wider b wider (get_or points k d) w (take k points) h) w.holds)

between_within : (a z b low high : ℤ) → LiesBetween a z b → low ≤ℤ a → a ≤ℤ high → low ≤ℤ b → b ≤ℤ high
    → (low ≤ℤ z) × (z ≤ℤ high)
between_within a z b low high (inl h) la ah lb bh = (omega (arith, ints, h.0), omega (arith, ints, h.1))
between_within a z b low high (inr h) la ah lb bh = (omega (arith, ints, h.0), omega (arith, ints, h.1))

side_within : (e : Bounds) (a b : Point) → IsWithinBounds e a → IsWithinBounds e b → (p : Point) → LiesOnSide (side a b) p
    → IsWithinBounds e p
side_within e a b ha hb p on =
    let x = between_within a.x p.x b.x e.low.x e.high.x on.in_x ha.left ha.right hb.left hb.right in
    let y = between_within a.y p.y b.y e.low.y e.high.y on.in_y ha.low ha.high hb.low hb.high in
    record { left = x.0; right = x.1; low = y.0; high = y.1 }

holds_from : (e : Bounds) (p : Point) (ps : List Point) → IsWithinBounds e p → AllByRecursion (IsWithinBounds e) ps
    → HoldsSides (record { low = e.low; high = e.high }) (segments_from p ps)
holds_from e p [] h all = tt
holds_from e p (q ∷ qs) h all = (side_within e p q h all.0, holds_from e q qs all.0 all.1)

holds_segments : (e : Bounds) (points : List Point) → AllByRecursion (IsWithinBounds e) points
    → HoldsSides (record { low = e.low; high = e.high }) (segments points)
holds_segments e [] all = tt
holds_segments e (p ∷ ps) all = holds_from e p ps all.0 all.1

-- runs in boxes that have no point in common don't meet
pub apart_runs : (run other : List Point) (e f both : Bounds) → HoldsPoints e run → HoldsPoints f other
    → AreCommonBounds e f both → AreEmptyBounds both → MeetAcross (segments run) (segments other)
apart_runs run other e f both he hf c empty =
    apart_sides (segments run) (segments other) _ _ _ (holds_segments e run he) (holds_segments f other hf) c empty

-- halves

split_from : (p : Point) (ps : List Point) (m : ℕ) → m ≤ length ps
    → segments_from p ps ≡ segments_from p (take m ps) ++ segments (drop m (p ∷ ps))
split_from p ps zero le = refl
split_from p [] (suc m) le = absurd (omega (arith, le))
split_from p (q ∷ qs) (suc m) le = ap (λ (l : List RingSide). side p q ∷ l) (split_from q qs m (omega (arith, le)))

-- a run is cut at a point, which both parts have
split_run : (run : List Point) (m : ℕ) → m < length run
    → segments run ≡ segments (take (suc m) run) ++ segments (drop m run)
split_run [] m lt = absurd (omega (arith, lt))
split_run (p ∷ ps) m lt = split_from p ps m (omega (arith, lt))

pub half_run : (run : List Point) (m : ℕ) → m < length run
    → segments run ≡ segments (take (m + 1) run) ++ segments (take (length run - m) (drop m run))
half_run run m lt = rw (add-one, take_rest) (split_run run m lt)

-- short runs

pub no_segments : (run : List Point) → length run < 2 → segments run ≡ []
no_segments [] lt = refl
no_segments (p ∷ []) lt = refl
no_segments (p ∷ q ∷ ps) lt = absurd (omega (arith, lt))

pub few_segments : (run : List Point) → length run < 3 → PairsMeet (segments run)
few_segments [] lt = tt
few_segments (p ∷ []) lt = tt
few_segments (p ∷ q ∷ []) lt = (tt, tt)
few_segments (p ∷ q ∷ r ∷ ps) lt = absurd (omega (arith, lt))

pub one_segment : (run : List Point) (d : Point) → length run ≡ 2
    → segments run ≡ side (get_or run 0 d) (get_or run 1 d) ∷ []
one_segment [] d is = absurd (omega (arith, is))
one_segment (p ∷ []) d is = absurd (omega (arith, is))
one_segment (p ∷ q ∷ []) d is = refl
one_segment (p ∷ q ∷ r ∷ ps) d is = absurd (omega (arith, is))

pub one_across : (ss ts : List RingSide) (s t : RingSide) → ss ≡ s ∷ [] → ts ≡ t ∷ [] → MeetAcross ss ts ↔ MeetAsNeighbours s t
one_across ss ts s t is are =
    let both : MeetAcross (s ∷ []) (t ∷ []) ↔ MeetAsNeighbours s t = (λ m. m.0.0, λ m. ((m, tt), tt)) in
    subst (λ (xs : List RingSide). MeetAcross xs ts ↔ MeetAsNeighbours s t) (sym is)
    (subst (λ (xs : List RingSide). MeetAcross (s ∷ []) xs ↔ MeetAsNeighbours s t) (sym are) both)

-- rings

-- the sides of a ring are the segments of its corners, and the side back to the first of them
back_side : (p : Point) (ps : List Point) (end : Point)
    → sides_on p ps end ≡ segments_from p ps ++ side (last_point p ps) end ∷ []
back_side p [] end = refl
back_side p (q ∷ qs) end = ap (λ (l : List RingSide). side p q ∷ l) (back_side q qs end)

straight_parts : (ss : List RingSide) (s : RingSide) → AllStraight (ss ++ s ∷ []) ↔ (AllStraight ss × IsStraight s)
straight_parts [] s = (λ h. (tt, h.0), λ h. (h.1, tt))
straight_parts (t ∷ ts) s =
    let more = straight_parts ts s in (λ h. ((h.0, (more.0 h.1).0), (more.0 h.1).1), λ h. (h.0.0, more.1 (h.0.1, h.1)))

last_on : (p : Point) (ps : List Point) (end : Point) (s : RingSide)
    → last_of s (sides_on p ps end) ≡ side (last_point p ps) end
last_on p [] end s = refl
last_on p (q ∷ qs) end s = last_on q qs end (side p q)

last_in_ring : (s : RingSide) (ss : List RingSide) (w : RingSide) → last_of s ss ≡ w → Turning w (s ∷ ss) ↔ AreTurning (s ∷ ss)
last_in_ring s ss w is =
    (λ h. subst (λ (v : RingSide). Turning v (s ∷ ss)) (sym is) h, λ h. subst (λ (v : RingSide). Turning v (s ∷ ss)) is h)

ring_turns : (p : Point) (ps : List Point)
    → Turning (side (last_point p ps) p) (sides_on p ps p) ↔ AreTurning (sides_on p ps p)
ring_turns p [] = last_in_ring (side p p) [] (side p p) refl
ring_turns p (q ∷ qs) = last_in_ring (side p q) (sides_on q qs p) (side (last_point q qs) p) (last_on q qs p (side p q))

-- what the tests of a ring say together
pub record IsTestedRing (corners others : List Point) (last : RingSide) : Type 0 where
  pub four : 4 ≤ length corners
  pub straight : AllStraight (segments corners)
  pub last_straight : IsStraight last
  pub turning : Turning last (sides_on last.b others last.b)
  pub meet : PairsMeet (segments corners)
  pub last_meets : MeetAcross (segments corners) (last ∷ [])

tested : (p : Point) (ps : List Point)
    → (IsSimple (p ∷ ps) × (corners_of (p ∷ ps) ≡ p ∷ ps)) ↔ IsTestedRing (p ∷ ps) ps (side (last_point p ps) p)
tested p ps = (to, from)
  where
    end : RingSide
    end = side (last_point p ps) p

    all : sides_on p ps p ≡ segments_from p ps ++ end ∷ []
    all = back_side p ps p

    to : IsSimple (p ∷ ps) × (corners_of (p ∷ ps) ≡ p ∷ ps) → IsTestedRing (p ∷ ps) ps end
    to h =
        let straight = (straight_parts (segments_from p ps) end).0 (subst AllStraight all h.0.straight) in
        let pairs = (pairs_parts (segments_from p ps) (end ∷ [])).0 (subst PairsMeet all h.0.meet) in
        let turns = subst (λ (l : List Point). AreTurning (sides_of l)) h.1 (corners_turn (p ∷ ps)) in
        record {
          four = h.0.four;
          straight = straight.0;
          last_straight = straight.1;
          turning = (ring_turns p ps).1 turns;
          meet = pairs.0;
          last_meets = pairs.1.1;
        }

    from : IsTestedRing (p ∷ ps) ps end → IsSimple (p ∷ ps) × (corners_of (p ∷ ps) ≡ p ∷ ps)
    from t =
        let straight =
        subst AllStraight (sym all) ((straight_parts (segments_from p ps) end).1 (t.straight, t.last_straight)) in
        let meet =
        subst PairsMeet (sym all)
        ((pairs_parts (segments_from p ps) (end ∷ [])).1 (t.meet, ((tt, tt), t.last_meets))) in
        let simple : IsSimple (p ∷ ps) = record { four = t.four; straight = straight; meet = meet } in
        (simple, nothing_dropped (p ∷ ps) straight ((ring_turns p ps).0 t.turning))

pub simple_ring : (corners : List Point) (p : Point) (ps : List Point) (last : RingSide) → corners ≡ p ∷ ps
    → last ≡ side (last_point p ps) p
    → (IsSimple corners × (corners_of corners ≡ corners)) ↔ IsTestedRing corners ps last
simple_ring corners p ps last parts is =
    subst (λ (l : List Point). (IsSimple l × (corners_of l ≡ l)) ↔ IsTestedRing l ps last) (sym parts)
    (subst (λ (s : RingSide). (IsSimple (p ∷ ps) × (corners_of (p ∷ ps) ≡ p ∷ ps)) ↔ IsTestedRing (p ∷ ps) ps s) (sym is)
    (tested p ps))
