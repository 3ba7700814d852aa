-- Where the rails of a leaf cell lie as the cell stands, upright or mirrored.
use Rattle.std.proofs.Common.{◌≡◌, ℕ, ℤ, pos, ◌<ℤ◌, ◌+ℤ◌, ◌-ℤ◌, arith}
use Rattle.std.proofs.lemmas.Int.{ints, clamps}
use Rattle.or_geom.specs.declared.shape.Rect.{Rect}
use Rattle.or_geom.specs.Place.{placed, IsImage}
use Rattle.leaf_shapes.specs.declared.demand.Metal.TheVariants.{M1}
use Rattle.leaf_shapes.specs.declared.fit.Fit.TheVariants.{LowerRail, UpperRail}
use Rattle.sram_netlist.specs.Instances.{LeafInstance}
use Rattle.sram_netlist.specs.Netlist.{role}
use Rattle.macro_layout.specs.Places.{upright, mirrored_at}
use Rattle.good_nets.proofs.CellLaws.{has_image}
use Rattle.kit_nets.specs.StatedParts.{Source}
use Rattle.kit_nets.specs.RolePins.{IsDrawnPin}
use Rattle.kit_nets.proofs.ArrayNetLaws.{pin_of, pin_at}

-- it lies from x on, so wide, between these heights
pub record IsRail (x : ℤ) (width : ℕ) (low high : ℤ) (r : Rect) : Type 0 where
  pub x1 : r.x1 ≡ x
  pub x2 : r.x2 ≡ x +ℤ pos width
  pub y1 : r.y1 ≡ low
  pub y2 : r.y2 ≡ high

upright_rail : (x y low high : ℤ) (width : ℕ) (box s : Rect) → box.x1 ≡ pos 0 → box.x2 ≡ pos width → box.y1 ≡ low → box.y2 ≡ high → IsImage (placed (upright x y)) box s → IsRail x width (y +ℤ low) (y +ℤ high) s
upright_rail x y low high width box s x1 x2 y1 y2 image =
    let wide : box.x1 <ℤ box.x2 = box.wide in
    let tall : box.y1 <ℤ box.y2 = box.tall in
    let a1 = image.x1 in
    let a2 = image.x2 in
    let a3 = image.y1 in
    let a4 = image.y2 in
    record { x1 = omega (arith, ints, clamps); x2 = omega (arith, ints, clamps); y1 = omega (arith, ints, clamps); y2 = omega (arith, ints, clamps) }

mirrored_rail : (x y low high : ℤ) (width : ℕ) (box s : Rect) → box.x1 ≡ pos 0 → box.x2 ≡ pos width → box.y1 ≡ low → box.y2 ≡ high → IsImage (placed (mirrored_at x y)) box s → IsRail x width (y -ℤ high) (y -ℤ low) s
mirrored_rail x y low high width box s x1 x2 y1 y2 image =
    let wide : box.x1 <ℤ box.x2 = box.wide in
    let tall : box.y1 <ℤ box.y2 = box.tall in
    let a1 = image.x1 in
    let a2 = image.x2 in
    let a3 = image.y1 in
    let a4 = image.y2 in
    record { x1 = omega (arith, ints, clamps); x2 = omega (arith, ints, clamps); y1 = omega (arith, ints, clamps); y2 = omega (arith, ints, clamps) }

module _ (s : Source) (leaf : LeafInstance) (port : ℕ) where
  abbrev width : ℕ
  width = s.kit.width (role s.plan leaf)

  abbrev height : ℕ
  height = s.kit.height (role s.plan leaf)

  -- Of an upright cell,
  pub lower_upright : (x y : ℤ) → IsDrawnPin s (role s.plan leaf) port M1 LowerRail → IsRail x (s.kit.width (role s.plan leaf)) (y +ℤ pos 0) (y +ℤ s.wire.width) (pin_at s leaf (upright x y) port 0).rect
  lower_upright x y drawn = upright_rail x y (pos 0) s.wire.width width (pin_of s leaf port 0).rect (pin_at s leaf (upright x y) port 0).rect drawn.fits.0.0 drawn.fits.0.1 drawn.fits.1 drawn.fits.2 (has_image (upright x y) (pin_of s leaf port 0)).1.image

  pub upper_upright : (x y : ℤ) → IsDrawnPin s (role s.plan leaf) port M1 UpperRail → IsRail x (s.kit.width (role s.plan leaf)) (y +ℤ (pos (s.kit.height (role s.plan leaf)) -ℤ s.wire.width)) (y +ℤ pos (s.kit.height (role s.plan leaf))) (pin_at s leaf (upright x y) port 0).rect
  upper_upright x y drawn = upright_rail x y (pos height -ℤ s.wire.width) (pos height) width (pin_of s leaf port 0).rect (pin_at s leaf (upright x y) port 0).rect drawn.fits.0.0 drawn.fits.0.1 drawn.fits.1 drawn.fits.2 (has_image (upright x y) (pin_of s leaf port 0)).1.image

  -- and of a mirrored one.
  pub lower_mirrored : (x y : ℤ) → IsDrawnPin s (role s.plan leaf) port M1 LowerRail → IsRail x (s.kit.width (role s.plan leaf)) (y -ℤ s.wire.width) (y -ℤ pos 0) (pin_at s leaf (mirrored_at x y) port 0).rect
  lower_mirrored x y drawn = mirrored_rail x y (pos 0) s.wire.width width (pin_of s leaf port 0).rect (pin_at s leaf (mirrored_at x y) port 0).rect drawn.fits.0.0 drawn.fits.0.1 drawn.fits.1 drawn.fits.2 (has_image (mirrored_at x y) (pin_of s leaf port 0)).1.image

  pub upper_mirrored : (x y : ℤ) → IsDrawnPin s (role s.plan leaf) port M1 UpperRail → IsRail x (s.kit.width (role s.plan leaf)) (y -ℤ pos (s.kit.height (role s.plan leaf))) (y -ℤ (pos (s.kit.height (role s.plan leaf)) -ℤ s.wire.width)) (pin_at s leaf (mirrored_at x y) port 0).rect
  upper_mirrored x y drawn = mirrored_rail x y (pos height -ℤ s.wire.width) (pos height) width (pin_of s leaf port 0).rect (pin_at s leaf (mirrored_at x y) port 0).rect drawn.fits.0.0 drawn.fits.0.1 drawn.fits.1 drawn.fits.2 (has_image (mirrored_at x y) (pin_of s leaf port 0)).1.image
