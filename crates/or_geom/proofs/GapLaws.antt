-- The gap of two spans in each case.
use Rattle.std.proofs.Common.{◌≡◌, pos, ◌<ℤ◌, ◌+ℤ◌, ◌-ℤ◌, arith}
use Rattle.std.specs.Int.{int_max, int_min}
use Rattle.std.proofs.lemmas.Int.{ints, clamps}
use Rattle.or_geom.specs.declared.span.Span.{Span}
use Rattle.or_geom.specs.Gap.{IsGap}

pub gap_after : (a b g : Span) → b.high <ℤ a.low → g.low ≡ b.high → g.high ≡ a.low → IsGap a b g
gap_after a b g lt l h = record {
  before = λ k. absurd (omega (arith, ints));
  after = λ k. record { from = l; to = h };
  touching_before = λ k. absurd (omega (arith, ints));
  touching_after = λ k. absurd (omega (arith, ints));
  shared = λ j k. absurd (omega (arith, ints));
}

pub gap_touching_before : (a b g : Span) → a.high ≡ b.low → g.low ≡ a.high -ℤ pos 1 → g.high ≡ a.high +ℤ pos 1 → IsGap a b g
gap_touching_before a b g e l h = record {
  before = λ k. absurd (omega (arith, ints));
  after = λ k. absurd (omega (arith, ints));
  touching_before = λ k. record { from = l; to = h };
  touching_after = λ k. absurd (omega (arith, ints));
  shared = λ j k. absurd (omega (arith, ints));
}

pub gap_touching_after : (a b g : Span) → b.high ≡ a.low → g.low ≡ b.high -ℤ pos 1 → g.high ≡ b.high +ℤ pos 1 → IsGap a b g
gap_touching_after a b g e l h = record {
  before = λ k. absurd (omega (arith, ints));
  after = λ k. absurd (omega (arith, ints));
  touching_before = λ k. absurd (omega (arith, ints));
  touching_after = λ k. record { from = l; to = h };
  shared = λ j k. absurd (omega (arith, ints));
}

pub gap_shared : (a b g : Span) → a.low <ℤ b.high → b.low <ℤ a.high → g.low ≡ int_max a.low b.low → g.high ≡ int_min a.high b.high → IsGap a b g
gap_shared a b g p q l h = record {
  before = λ k. absurd (omega (arith, ints));
  after = λ k. absurd (omega (arith, ints));
  touching_before = λ k. absurd (omega (arith, ints));
  touching_after = λ k. absurd (omega (arith, ints));
  shared = λ j k z. (
    λ w. (record { above = omega (arith, ints, clamps); below = omega (arith, ints, clamps) }, record { above = omega (arith, ints, clamps); below = omega (arith, ints, clamps) }),
    λ w. record { above = omega (arith, ints, clamps, w.0.above, w.1.above); below = omega (arith, ints, clamps, w.0.below, w.1.below) },
  );
}
