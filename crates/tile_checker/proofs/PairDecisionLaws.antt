-- Of two rectangles it is decided whether they are joined, and they have a least distance and a gap.
use Rattle.std.proofs.Common.{◌≡◌, ◌≢◌, ℤ, pos, ◌≤ℤ◌, ◌<ℤ◌, ◌+ℤ◌, ◌-ℤ◌, ◌*ℤ◌, inl, inr, refl, ap, arith}
use Rattle.std.specs.Int.{int_max, int_min}
use Rattle.std.proofs.lemmas.Int.{ints, clamps, by_lt_z}
use Rattle.or_geom.specs.declared.shape.Point.{Point}
use Rattle.or_geom.specs.declared.shape.Rect.{Rect}
use Rattle.or_geom.specs.declared.span.Span.{Span}
use Rattle.or_geom.specs.Joined.{AreJoined}
use Rattle.or_geom.specs.Distance.{IsLeastDist2, IsLeastDistance}
use Rattle.or_geom.specs.Gap.{IsGap, IsGapBox}
use Rattle.or_geom.specs.Span.{across, upward}
use Rattle.or_geom.proofs.DistanceLaws.{distance_before, distance_after, distance_none, least_dist2}
use Rattle.or_geom.proofs.PlaceLaws.{same_point}
use Rattle.tile_checker.proofs.DecisionLaws.{Decided}

abbrev point : ℤ → ℤ → Point
point x y = record { x = x; y = y }

-- both have these two points, which differ
joined_at : (a b : Rect) (x1 y1 x2 y2 : ℤ) → x1 ≡ int_max a.x1 b.x1 → y1 ≡ int_max a.y1 b.y1 → x2 ≡ int_min a.x2 b.x2 → y2 ≡ int_min a.y2 b.y2 → x1 ≤ℤ x2 → y1 ≤ℤ y2 → point x1 y1 ≢ point x2 y2 → AreJoined a b
joined_at a b x1 y1 x2 y2 left low right high across up differ =
    let wa : a.x1 <ℤ a.x2 = a.wide in
    let ta : a.y1 <ℤ a.y2 = a.tall in
    let wb : b.x1 <ℤ b.x2 = b.wide in
    let tb : b.y1 <ℤ b.y2 = b.tall in
    record {
      p = point x1 y1;
      q = point x2 y2;
      differ = differ;
      p_in_a = record { left = omega (arith, ints, clamps); right = omega (arith, ints, clamps); low = omega (arith, ints, clamps); high = omega (arith, ints, clamps) };
      p_in_b = record { left = omega (arith, ints, clamps); right = omega (arith, ints, clamps); low = omega (arith, ints, clamps); high = omega (arith, ints, clamps) };
      q_in_a = record { left = omega (arith, ints, clamps); right = omega (arith, ints, clamps); low = omega (arith, ints, clamps); high = omega (arith, ints, clamps) };
      q_in_b = record { left = omega (arith, ints, clamps); right = omega (arith, ints, clamps); low = omega (arith, ints, clamps); high = omega (arith, ints, clamps) };
    }

-- what joined rectangles share isn't empty, nor one point
shared : (a b : Rect) (x1 y1 x2 y2 : ℤ) → x1 ≡ int_max a.x1 b.x1 → y1 ≡ int_max a.y1 b.y1 → x2 ≡ int_min a.x2 b.x2 → y2 ≡ int_min a.y2 b.y2 → AreJoined a b → (x1 ≤ℤ x2) × (y1 ≤ℤ y2) × (x2 ≤ℤ x1 → y2 ≤ℤ y1 → ⊥)
shared a b x1 y1 x2 y2 left low right high j = (
  omega (arith, ints, clamps, j.p_in_a.left, j.p_in_a.right, j.p_in_b.left, j.p_in_b.right),
  omega (arith, ints, clamps, j.p_in_a.low, j.p_in_a.high, j.p_in_b.low, j.p_in_b.high),
  λ across up. j.differ (same_point j.p j.q
      (omega (arith, ints, clamps, j.p_in_a.left, j.p_in_a.right, j.p_in_b.left, j.p_in_b.right, j.q_in_a.left, j.q_in_a.right, j.q_in_b.left, j.q_in_b.right))
      (omega (arith, ints, clamps, j.p_in_a.low, j.p_in_a.high, j.p_in_b.low, j.p_in_b.high, j.q_in_a.low, j.q_in_a.high, j.q_in_b.low, j.q_in_b.high))),
)

pub decide_joined : (a b : Rect) → Decided (AreJoined a b)
decide_joined a b =
    let x1 = int_max a.x1 b.x1 in
    let y1 = int_max a.y1 b.y1 in
    let x2 = int_min a.x2 b.x2 in
    let y2 = int_min a.y2 b.y2 in
    let join = joined_at a b x1 y1 x2 y2 refl refl refl refl in
    let share = shared a b x1 y1 x2 y2 refl refl refl refl in
    by_lt_z x2 x1 (λ none. inr (λ j. let s = share j in let le = s.0 in omega (arith, ints))) (λ across.
    by_lt_z y2 y1 (λ none. inr (λ j. let s = share j in let le = s.1 in omega (arith, ints))) (λ up.
    by_lt_z x1 x2 (λ wide. inl (join across up (λ e. let x : x1 ≡ x2 = ap (λ (p : Point). p.x) e in omega (arith, ints)))) (λ thin.
    by_lt_z y1 y2 (λ tall. inl (join across up (λ e. let y : y1 ≡ y2 = ap (λ (p : Point). p.y) e in omega (arith, ints)))) (λ flat.
    inr (λ j. (share j).2 thin flat)))))

distance_there : (a b : Span) → (d : ℤ) × IsLeastDistance a b d
distance_there a b =
    by_lt_z a.high b.low (λ lt. (b.low -ℤ a.high, distance_before a b (b.low -ℤ a.high) lt refl)) (λ ge.
    by_lt_z b.high a.low (λ lt. (a.low -ℤ b.high, distance_after a b (a.low -ℤ b.high) lt refl)) (λ le. (pos 0, distance_none a b ge le)))

pub least_there : (a b : Rect) → (d : ℤ) × IsLeastDist2 a b d
least_there a b =
    let x = distance_there (across a) (across b) in
    let y = distance_there (upward a) (upward b) in
    ((x.0 *ℤ x.0) +ℤ (y.0 *ℤ y.0), least_dist2 a b x.0 y.0 ((x.0 *ℤ x.0) +ℤ (y.0 *ℤ y.0)) x.1 y.1 refl)

span : (low high : ℤ) → low <ℤ high → Span
span low high lt = record { low = low; high = high; ordered = lt }

gap_of : (a b : Span) → (g : Span) × IsGap a b g
unfolding span
gap_of a b =
    let wide : a.low <ℤ a.high = a.ordered in
    let other : b.low <ℤ b.high = b.ordered in
    by_lt_z a.high b.low
    (λ lt. (span a.high b.low lt, record { before = λ k. record { from = refl; to = refl }; after = λ k. absurd (omega (arith, ints)); touching_before = λ k. absurd (omega (arith, ints)); touching_after = λ k. absurd (omega (arith, ints)); shared = λ j k. absurd (omega (arith, ints)) }))
    (λ ge. by_lt_z b.high a.low
    (λ lt. (span b.high a.low lt, record { before = λ k. absurd (omega (arith, ints)); after = λ k. record { from = refl; to = refl }; touching_before = λ k. absurd (omega (arith, ints)); touching_after = λ k. absurd (omega (arith, ints)); shared = λ j k. absurd (omega (arith, ints)) }))
    (λ le. by_lt_z b.low a.high
    (λ over. by_lt_z a.low b.high
    (λ under. (
      span (int_max a.low b.low) (int_min a.high b.high) (omega (arith, ints, clamps)),
      record {
        before = λ k. absurd (omega (arith, ints));
        after = λ k. absurd (omega (arith, ints));
        touching_before = λ k. absurd (omega (arith, ints));
        touching_after = λ k. absurd (omega (arith, ints));
        shared = λ j k z. (
          λ w. let above = w.above in let below = w.below in (record { above = omega (arith, ints, clamps); below = omega (arith, ints, clamps) }, record { above = omega (arith, ints, clamps); below = omega (arith, ints, clamps) }),
          λ w. record { above = omega (arith, ints, clamps, w.0.above, w.1.above); below = omega (arith, ints, clamps, w.0.below, w.1.below) },
        );
      },
    ))
    (λ met. (span (b.high -ℤ pos 1) (b.high +ℤ pos 1) (omega (arith, ints)), record { before = λ k. absurd (omega (arith, ints)); after = λ k. absurd (omega (arith, ints)); touching_before = λ k. absurd (omega (arith, ints)); touching_after = λ k. record { from = refl; to = refl }; shared = λ j k. absurd (omega (arith, ints)) })))
    (λ met. (span (a.high -ℤ pos 1) (a.high +ℤ pos 1) (omega (arith, ints)), record { before = λ k. absurd (omega (arith, ints)); after = λ k. absurd (omega (arith, ints)); touching_before = λ k. record { from = refl; to = refl }; touching_after = λ k. absurd (omega (arith, ints)); shared = λ j k. absurd (omega (arith, ints)) }))))

pub gap_there : (a b : Rect) → (g : Rect) × IsGapBox a b g
gap_there a b =
    let x = gap_of (across a) (across b) in
    let y = gap_of (upward a) (upward b) in
    (record { x1 = x.0.low; y1 = y.0.low; x2 = x.0.high; y2 = y.0.high; wide = x.0.ordered; tall = y.0.ordered }, record { in_x = x.1; in_y = y.1 })
