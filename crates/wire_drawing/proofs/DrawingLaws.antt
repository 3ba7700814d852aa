-- How a cut lies in the square of a wire's width.
use Rattle.std.proofs.Common.{◌≡◌, ℤ, pos, ◌+ℤ◌, ◌-ℤ◌, ◌*ℤ◌, arith, ℕ, sym, ◌∙◌}
use Rattle.std.specs.Prelude.{int_rem}
use Rattle.std.proofs.lemmas.Int.{ints, quot-rem}
use Rattle.or_geom.specs.declared.shape.Shape.{Shape}
use Rattle.or_geom.proofs.PlaceLaws.{same_rect}
use Rattle.tech_rules.specs.declared.tech.Wire.{Wire}
use Rattle.tech_rules.specs.Facts.{AreSizes}
use Rattle.wire_drawing.specs.Drawing.{IsBox}
use Rattle.tech_rules.specs.WireRules.{margin}

halves : (whole half rest : ℤ) → (half *ℤ pos 2) +ℤ rest ≡ whole → rest ≡ pos 0 → half +ℤ half ≡ whole
halves whole half rest is none = omega (arith, ints, is, none)

-- a cut stands as far from the lower edge of the wire as from the upper
pub twice_margin : (wire : Wire) → AreSizes wire → margin wire +ℤ margin wire ≡ wire.width -ℤ wire.cut
twice_margin wire sizes = halves (wire.width -ℤ wire.cut) (margin wire) (int_rem (wire.width -ℤ wire.cut) (pos 2)) (quot-rem (wire.width -ℤ wire.cut) (pos 2)) sizes.centred.even

shape_from : (s t : Shape) → s.layer ≡ t.layer → s.rect ≡ t.rect → s ≡ t
shape_from s t layer rect = λ i. record { layer = layer i; rect = rect i }

-- a layer and four corners are one shape's
pub same_box : (layer : ℕ) (x1 y1 x2 y2 : ℤ) (s t : Shape) → IsBox layer x1 y1 x2 y2 s → IsBox layer x1 y1 x2 y2 t → s ≡ t
same_box layer x1 y1 x2 y2 s t a b = shape_from s t (a.on ∙ sym b.on) (same_rect s.rect t.rect (a.left ∙ sym b.left) (a.low ∙ sym b.low) (a.right ∙ sym b.right) (a.high ∙ sym b.high))
