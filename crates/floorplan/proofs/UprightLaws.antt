-- Where the pins of a leaf instance that stands upright begin.
use Rattle.std.proofs.Common.{◌≡◌, ℕ, ℤ, ◌+ℤ◌, subst, ◌∙◌, Some, arith}
use Rattle.std.specs.Prelude.{slice_get}
use Rattle.std.proofs.lemmas.Int.{ints, clamps}
use Rattle.or_geom.specs.declared.shape.Rect.{Rect}
use Rattle.or_geom.specs.declared.place.Place.{Place}
use Rattle.or_geom.specs.Place.{placed, IsImage}
use Rattle.sram_netlist.specs.Organization.{Organization}
use Rattle.sram_netlist.specs.Nets.{Net}
use Rattle.sram_netlist.specs.Instances.{LeafInstance}
use Rattle.sram_netlist.specs.Netlist.{role, ports}
use Rattle.sram_netlist.specs.Membership.{HasLeafInstance}
use Rattle.macro_layout.specs.LayoutKit.{LayoutKit}
use Rattle.macro_layout.specs.Places.{Floorplan, upright, IsPlaceOf}
use Rattle.macro_layout.specs.Channels.{IsPinFrom}

abbrev moved : Rect → ℤ → ℤ → Rect
moved r u v = record {
  x1 = r.x1 +ℤ u;
  y1 = r.y1 +ℤ v;
  x2 = r.x2 +ℤ u;
  y2 = r.y2 +ℤ v;
  wide = (let wide = r.wide in omega (arith, ints, wide));
  tall = (let tall = r.tall in omega (arith, ints, tall));
}

moved_image : (u v : ℤ) (r : Rect) → IsImage (placed (upright u v)) r (moved r u v)
moved_image u v r =
    let wide = r.wide in
    let tall = r.tall in
    record {
      x1 = omega (arith, ints, clamps, wide);
      y1 = omega (arith, ints, clamps, tall);
      x2 = omega (arith, ints, clamps, wide);
      y2 = omega (arith, ints, clamps, tall);
    }

-- a port of a leaf instance begins so far right of the instance
pub begins_at : (plan : Organization) (kit : LayoutKit) (floorplan : Floorplan) (leaf : LeafInstance) (port metal : ℕ) (net : Net) (u v x : ℤ) → HasLeafInstance plan leaf → slice_get (ports plan leaf) port ≡ Some net → IsPlaceOf plan kit floorplan leaf (upright u v)
    → x ≡ (kit.pin (role plan leaf) port metal).x1 +ℤ u → IsPinFrom plan kit floorplan leaf port metal net x
begins_at plan kit floorplan leaf port metal net u v x has on stands at =
    record {
      rect = moved (kit.pin (role plan leaf) port metal) u v;
      is = record { has = has; on = on; place = upright u v; stands = stands; image = moved_image u v (kit.pin (role plan leaf) port metal) };
      begins = at;
    }

image_left : (u v : ℤ) (place : Place) (r s : Rect) → place ≡ upright u v → IsImage (placed place) r s → s.x1 ≡ r.x1 +ℤ u
image_left u v place r s at image =
    let wide = r.wide in
    let x1 = (subst (λ (p : Place). IsImage (placed p) r s) at image).x1 in
    x1 ∙ omega (arith, ints, clamps, wide)

-- and no other place
pub begins_only : (plan : Organization) (kit : LayoutKit) (floorplan : Floorplan) (leaf : LeafInstance) (port metal : ℕ) (net : Net) (u v x : ℤ) → (from : IsPinFrom plan kit floorplan leaf port metal net x) → from.is.place ≡ upright u v
    → x ≡ (kit.pin (role plan leaf) port metal).x1 +ℤ u
begins_only plan kit floorplan leaf port metal net u v x from at = from.begins ∙ image_left u v from.is.place (kit.pin (role plan leaf) port metal) from.rect at from.is.image
