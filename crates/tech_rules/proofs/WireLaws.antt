-- What the wires of a technology are, for calls that draw them.
use Rattle.std.proofs.Common.{◌≡◌, ℤ, pos, ◌+ℤ◌, ◌-ℤ◌, ◌*ℤ◌, ◌<ℤ◌, ◌≤ℤ◌, Option, Some, IfSome, subst, arith, int_rem}
use Rattle.std.proofs.lemmas.Int.{ints, quot-rem}
use Rattle.tech_rules.specs.declared.tech.Tech.{Tech}
use Rattle.tech_rules.specs.declared.tech.Wire.{Wire}
use Rattle.tech_rules.specs.Facts.{AreSizes, IsWire, IsTech}
use Rattle.tech_rules.specs.WireRules.{margin}

-- the wires of a technology are such as a file may give
pub wire-IsWire : (tech : Tech) (wire : Wire) → IsTech tech → tech.wire ≡ Some wire → IsWire tech.layers wire
wire-IsWire tech wire good is = subst (λ (w : Option Wire). IfSome w (IsWire tech.layers)) is good.wire

pub wire-AreSizes : (tech : Tech) (wire : Wire) → IsTech tech → tech.wire ≡ Some wire → AreSizes wire
wire-AreSizes tech wire good is = (wire-IsWire tech wire good is).sizes

halves : (width cut half rest : ℤ) → half *ℤ pos 2 +ℤ rest ≡ width -ℤ cut → rest ≡ pos 0
    → width ≡ cut +ℤ (half +ℤ half)
halves width cut half rest parts even = omega (arith, ints)

-- a wire is as wide as its cut and a margin on each side
pub two_margins : (wire : Wire) → AreSizes wire → wire.width ≡ wire.cut +ℤ (margin wire +ℤ margin wire)
two_margins wire sizes =
    halves wire.width wire.cut (margin wire) (int_rem (wire.width -ℤ wire.cut) (pos 2)) (quot-rem (wire.width -ℤ wire.cut) (pos 2)) sizes.centred.even

positive_half : (width cut half : ℤ) → cut <ℤ width → width ≡ cut +ℤ (half +ℤ half) → pos 1 ≤ℤ half
positive_half width cut half narrow parts = omega (arith, ints)

-- a wire goes beyond its cuts
pub margin_positive : (wire : Wire) → AreSizes wire → pos 1 ≤ℤ margin wire
margin_positive wire sizes = positive_half wire.width wire.cut (margin wire) sizes.centred.narrow (two_margins wire sizes)
