-- A cell of a zone that the first metal covers in a window is covered in the memory.
use Rattle.std.proofs.Common.{◌≡◌, inl, inr, ◌∙◌, ℕ, ℤ, pos, ◌+ℤ◌, ◌≤ℤ◌, ◌<ℤ◌, List, refl, arith}
use Rattle.std.specs.Prelude.{Contains, slice_index}
use Rattle.std.proofs.lemmas.Int.{ints, clamps}
use Rattle.or_geom.specs.declared.shape.Rect.{Rect}
use Rattle.or_geom.specs.declared.shape.Shape.{Shape}
use Rattle.or_geom.specs.Covered.{HasCell, HasCellInSome}
use Rattle.or_geom.proofs.CoverLaws.{cell_among}
use Rattle.shape_bins.specs.Layers.{rects_on}
use Rattle.shape_bins.specs.Meets.{Overlap}
use Rattle.shape_bins.proofs.CoverLaws.{on_rects, shape_over, IsShapeOver}
use Rattle.tech_rules.specs.declared.tech.Wire.{Wire}
use Rattle.cell_builder.specs.Flat.{IsShapeTaken}
use Rattle.sram_netlist.specs.Organization.{Organization}
use Rattle.sram_netlist.specs.Netlist.{role}
use Rattle.sram_netlist.specs.BitCells.{BitCells}
use Rattle.macro_layout.specs.LayoutKit.{LayoutKit}
use Rattle.macro_layout.specs.Places.{Floorplan, leaf_cell}
use Rattle.macro_layout.specs.Floorplan.{Tracks}
use Rattle.macro_layout.specs.Layout.{IsOfLeaf}
use Rattle.good_places.specs.Leaves.{Zone, zone_of, LiesNear, AreNearZones, HasLeavesAndWires}
use Rattle.good_places.specs.Seen.{AreAlikeZones}
use Rattle.good_places.proofs.LookLaws.{shape_moves}
use Rattle.good_wires.specs.Drawn.{IsDrawnMemory, IsDrawnWire}
use Rattle.good_wires.specs.Kept.{AllDrawInside}
use Rattle.supply_bars.proofs.PairedLaws.{ArePaired, paired_back}
use Rattle.supply_bars.proofs.BarLaws.{wire_clipped}
use Rattle.bar_spaces.proofs.TwoBarLaws.{leaf_inside}

-- the cell lies in the zone
pub record IsCellOf (z : Zone) (x y : ℤ) : Type 0 where
  pub left : z.left ≤ℤ x
  pub right : x <ℤ z.right
  pub low : z.low ≤ℤ y
  pub high : y <ℤ z.high

-- the rectangle that is the cell
pub unit_rect : (x y : ℤ) → (r : Rect) × (r.x1 ≡ x) × (r.y1 ≡ y) × (r.x2 ≡ x +ℤ pos 1) × (r.y2 ≡ y +ℤ pos 1)
unit_rect x y = (record { x1 = x; y1 = y; x2 = x +ℤ pos 1; y2 = y +ℤ pos 1; wide = omega (arith, ints); tall = omega (arith, ints) }, refl, refl, refl, refl)

pub unit_near : (z : Zone) (x y : ℤ) → IsCellOf z x y → (r : Rect) → (r.x1 ≡ x) → (r.y1 ≡ y) → (r.x2 ≡ x +ℤ pos 1) → (r.y2 ≡ y +ℤ pos 1) → LiesNear (pos 0) z r
unit_near z x y c r a b d e = record {
  left = let p = c.left in omega (arith, ints, p, a);
  right = let p = c.right in omega (arith, ints, p, d);
  low = let p = c.low in omega (arith, ints, p, b);
  high = let p = c.high in omega (arith, ints, p, e);
}

pub unit_overlaps : (s r : Rect) (x y : ℤ) → HasCell s x y → (r.x1 ≡ x) → (r.y1 ≡ y) → (r.x2 ≡ x +ℤ pos 1) → (r.y2 ≡ y +ℤ pos 1) → Overlap s r
unit_overlaps s r x y has a b d e = record {
  left = let p = has.left in omega (arith, ints, p, d);
  right = let p = has.right in omega (arith, ints, p, a);
  low = let p = has.low in omega (arith, ints, p, e);
  high = let p = has.high in omega (arith, ints, p, b);
}

module _ (Flat : List ℕ → Shape → Type 0) (plan other : Organization) (kit : LayoutKit) (bits : BitCells) (wire : Wire) (tracks many : Tracks) (f g : Floorplan) (m : IsDrawnMemory plan kit wire tracks f) (n : IsDrawnMemory other kit wire many g) (insides : AllDrawInside wire Flat other kit bits) (listed : Contains wire.metals (slice_index wire.metals 0))
    (from to : List Shape) (has_from : HasLeavesAndWires (slice_index wire.metals 0) Flat other kit bits g (IsDrawnWire other kit wire many g) from) (has_to : HasLeavesAndWires (slice_index wire.metals 0) Flat plan kit bits f (IsDrawnWire plan kit wire tracks f) to)
    (reach : ℤ) (some : pos 1 ≤ℤ reach) (here there : Zone) (z : AreAlikeZones reach plan other kit bits f g here there) (pair : ArePaired plan other kit wire f g reach z.left z.down here there) where
  abbrev metal : ℕ
  metal = slice_index wire.metals 0

  turned : (x y : ℤ) → x +ℤ y ≡ pos 0 → y +ℤ x ≡ pos 0
  turned x y e = omega (arith, ints, e)

  wire_covers : (u v : ℤ) → IsCellOf there u v → (s : Shape) → s.layer ≡ metal → IsDrawnWire other kit wire many g s → HasCell s.rect u v → HasCellInSome (rects_on metal to) (u +ℤ z.right) (v +ℤ z.up)
  wire_covers u v inside s on wired has =
      let r = unit_rect u v in
      let h = wire_clipped other plan kit wire many tracks g f n m reach z.right z.up there here (paired_back plan other kit wire f g reach z.left z.down z.right z.up here there (turned z.right z.left z.back_x) (turned z.up z.down z.back_y) pair) (pos 0) r.0
      (above wire.space m.laid.sizes.space.from) (above reach some) (unit_near there u v inside r.0 r.1 r.2 r.3 r.4) s wired on (unit_overlaps s.rect r.0 u v has r.1 r.2 r.3 r.4) in
      cell_among (rects_on metal to) h.image.rect (u +ℤ z.right) (v +ℤ z.up) (on_rects metal to h.image ((has_to h.image (h.layer ∙ on)).1 (inl h.drawn)) (h.layer ∙ on)) (record {
        left = let e = h.left in let p = r.1 in let q = has.left in omega (arith, ints, clamps, e, p, q);
        right = let e = h.right in let p = r.3 in let q = has.right in omega (arith, ints, clamps, e, p, q);
        low = let e = h.low in let q = has.low in omega (arith, ints, e, q);
        high = let e = h.high in let q = has.high in omega (arith, ints, e, q);
      })
    where
      above : (s : ℤ) → pos 1 ≤ℤ s → pos 0 ≤ℤ s
      above s one = omega (arith, ints, one)

  -- the zone of a shape that has the cell is near
  near_zone : (u v : ℤ) → IsCellOf there u v → (zone : Zone) (r : Rect) → LiesNear (pos 0) zone r → HasCell r u v → AreNearZones reach zone there
  near_zone u v c zone r l has = record {
    left = let p = l.left in let q = has.left in let d = c.right in omega (arith, ints, p, q, d, some);
    right = let p = l.right in let q = has.right in let d = c.left in omega (arith, ints, p, q, d, some);
    low = let p = l.low in let q = has.low in let d = c.high in omega (arith, ints, p, q, d, some);
    high = let p = l.high in let q = has.high in let d = c.low in omega (arith, ints, p, q, d, some);
  }

  leaf_covers : (u v : ℤ) → IsCellOf there u v → (s : Shape) → s.layer ≡ metal → (o : IsOfLeaf other kit bits g IsShapeTaken Flat s) → HasCell s.rect u v → HasCellInSome (rects_on metal to) (u +ℤ z.right) (v +ℤ z.up)
  leaf_covers u v inside s on o has =
      let lies = leaf_inside Flat other kit bits wire many g n insides metal (inl listed) s on o in
      let stands = z.to o.leaf o.place o.has o.stands (near_zone u v inside (zone_of other kit g o.leaf o.place) s.rect lies has) in
      let h = shape_moves Flat plan kit bits f z.right z.up (role other o.leaf) (leaf_cell other kit bits o.leaf) o.place o.taken.inner s stands o.taken.has o.taken.moved in
      let t = h.moved.0 in
      let at = h.moved.2 in
      cell_among (rects_on metal to) t.rect (u +ℤ z.right) (v +ℤ z.up) (on_rects metal to t ((has_to t (h.moved.1 ∙ on)).1 (inr h.of)) (h.moved.1 ∙ on)) (record {
        left = let e = at.x1 in let q = has.left in omega (arith, ints, e, q);
        right = let e = at.x2 in let q = has.right in omega (arith, ints, e, q);
        low = let e = at.y1 in let q = has.low in omega (arith, ints, e, q);
        high = let e = at.y2 in let q = has.high in omega (arith, ints, e, q);
      })

  pub cell_covers : (u v : ℤ) → IsCellOf there u v → HasCellInSome (rects_on metal from) u v → HasCellInSome (rects_on metal to) (u +ℤ z.right) (v +ℤ z.up)
  cell_covers u v inside has = by (shape_over metal from u v has) where
    by : IsShapeOver metal from u v → HasCellInSome (rects_on metal to) (u +ℤ z.right) (v +ℤ z.up)
    by s = elim ((has_from s.shape s.on).0 s.there) [
      | inl wired ↦ wire_covers u v inside s.shape s.on wired s.holds
      | inr o ↦ leaf_covers u v inside s.shape s.on o s.holds
    ]
