-- The box between two rectangles.
use Rattle.std.specs.Prelude.{◌≡◌, ◌↔◌, ℤ, pos, ◌<ℤ◌, ◌+ℤ◌, ◌-ℤ◌}
use Rattle.or_geom.specs.declared.shape.Rect.{Rect}
use Rattle.or_geom.specs.declared.span.Span.{Span}
use Rattle.or_geom.specs.Distance.{IsInSpan}
use Rattle.or_geom.specs.Span.{across, upward}

-- the span from one number to another
pub record IsFromTo (low high : ℤ) (s : Span) : Type 0 where
  pub from : s.low ≡ low
  pub to : s.high ≡ high

-- The gap of two spans: what lies between them where they are apart, and what they share where they aren't. A single
-- number that they share counts one unit more on both sides.
pub record IsGap (a b gap : Span) : Type 0 where
  pub before : a.high <ℤ b.low → IsFromTo a.high b.low gap
  pub after : b.high <ℤ a.low → IsFromTo b.high a.low gap
  pub touching_before : a.high ≡ b.low → IsFromTo (a.high -ℤ pos 1) (a.high +ℤ pos 1) gap
  pub touching_after : b.high ≡ a.low → IsFromTo (b.high -ℤ pos 1) (b.high +ℤ pos 1) gap
  pub shared : a.low <ℤ b.high → b.low <ℤ a.high → (z : ℤ) → IsInSpan gap z ↔ (IsInSpan a z × IsInSpan b z)

-- the gap on each axis
pub record IsGapBox (a b gap : Rect) : Type 0 where
  pub in_x : IsGap (across a) (across b) (across gap)
  pub in_y : IsGap (upward a) (upward b) (upward gap)
