-- What wires are drawn with.
use Rattle.std.specs.Prelude.{◌≡◌, ℕ, ℤ, pos, ◌+ℤ◌, ◌≤ℤ◌, slice_index}
use Rattle.or_geom.specs.declared.shape.Shape.{Shape}
use Rattle.tech_rules.specs.declared.tech.Wire.{Wire}
use Rattle.tech_rules.specs.WireRules.{margin}

-- wires that begin at the coordinate have coordinates of 64 bits: it lies within 2^60
pub record LeavesRoom (z : ℤ) : Type 0 where
  pub above : pos 0 ≤ℤ (z +ℤ pos 1152921504606846976)
  pub below : z ≤ℤ pos 1152921504606846976

-- the distance from a wire's edge to the same edge of the next wire
abbrev pub pitch : Wire → ℤ
pitch wire = wire.width +ℤ wire.space

-- the shape is on the layer and has these corners
pub record IsBox (layer : ℕ) (x1 y1 x2 y2 : ℤ) (shape : Shape) : Type 0 where
  pub on : shape.layer ≡ layer
  pub left : shape.rect.x1 ≡ x1
  pub low : shape.rect.y1 ≡ y1
  pub right : shape.rect.x2 ≡ x2
  pub high : shape.rect.y2 ≡ y2

-- the shape is the cut at this place, in the middle of the square of a wire's width with its lower left corner at (x, y)
abbrev pub IsVia : Wire → ℕ → ℤ → ℤ → Shape → Type 0
IsVia wire cut x y =
    let x1 = x +ℤ margin wire in
    let y1 = y +ℤ margin wire in
    IsBox (slice_index wire.cuts cut) x1 y1 (x1 +ℤ wire.cut) (y1 +ℤ wire.cut)
