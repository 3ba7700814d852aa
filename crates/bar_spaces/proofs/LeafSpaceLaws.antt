-- What the space rule of the first metal sees of a leaf instance's shape, it sees in a window too.
use Rattle.std.proofs.Common.{◌≡◌, inl, inr, ◌∙◌, ℕ, ℤ, pos, ◌+ℤ◌, ◌≤ℤ◌, List, refl, sym, ap, subst, arith}
use Rattle.std.specs.Prelude.{Contains, slice_index}
use Rattle.std.specs.Int.{int_max, int_min}
use Rattle.std.proofs.lemmas.Int.{ints, clamps}
use Rattle.or_geom.specs.declared.shape.Rect.{Rect}
use Rattle.or_geom.specs.declared.shape.Shape.{Shape}
use Rattle.shape_bins.specs.Meets.{Overlap}
use Rattle.tech_rules.specs.declared.tech.Rule.{Rule}
use Rattle.tech_rules.specs.declared.tech.Wire.{Wire}
use Rattle.tile_checker.specs.Breaks.{IsGrown, AreNear}
use Rattle.cell_builder.specs.Flat.{IsShapeTaken}
use Rattle.sram_netlist.specs.Organization.{Organization}
use Rattle.sram_netlist.specs.BitCells.{Alike}
use Rattle.macro_layout.specs.LayoutKit.{LayoutKit}
use Rattle.macro_layout.specs.Places.{Floorplan}
use Rattle.macro_layout.specs.Floorplan.{Tracks}
use Rattle.macro_layout.specs.Layout.{IsOfLeaf}
use Rattle.local_report.specs.Moved.{IsMovedBy, OverlapsMoved}
use Rattle.local_report.specs.Seen.{HasPartner}
use Rattle.local_report.specs.Alike.{HasImage}
use Rattle.local_report.specs.Local.{IsSpaceSeen}
use Rattle.local_report.proofs.SpaceLaws.{grown_rect}
use Rattle.good_places.specs.Beside.{HaveOneLeftPart}
use Rattle.good_places.specs.Leaves.{Zone, zone_of, ReachesNeighboursOnly, LiesNear}
use Rattle.good_places.specs.Seen.{AreCompared, IsMovedZone}
use Rattle.good_places.specs.Windows.{IsWindowOf, IsWrittenPlan}
use Rattle.leaf_shapes.specs.Outline.{IsWireLayer}
use Rattle.good_places.proofs.LaidLaws.{in_zone}
use Rattle.good_places.proofs.SeenLaws.{space_seen_with}
use Rattle.good_places.proofs.WindowLaws.{leaves_have_windows}
use Rattle.good_wires.specs.Drawn.{IsDrawnWire}
use Rattle.good_wires.specs.Kept.{HasDrawnShapes, IsCleanDrawing}
use Rattle.supply_bars.proofs.PairedLaws.{ArePaired, paired_back, zone_back}
use Rattle.supply_bars.proofs.KindLaws.{kinds_are_paired}
use Rattle.supply_bars.proofs.BarLaws.{HasClipped, wire_clipped}

-- a window has the memory's rows, words in a row and banks
pub one_left : (plan other : Organization) → IsWindowOf plan other → HaveOneLeftPart plan other
one_left plan other (inl (k, some, few, e)) = subst (HaveOneLeftPart plan) (sym e) (record { groups = refl; col_bits = refl; bank_bits = refl })
one_left plan other (inr e) = subst (HaveOneLeftPart plan) (sym e) (record { groups = refl; col_bits = refl; bank_bits = refl })

-- frames around a shape and its image
pub record AreFrames (dx dy : ℤ) (there frame : Rect) : Type 0 where
  pub left : frame.x1 ≡ there.x1 +ℤ dx
  pub low : frame.y1 ≡ there.y1 +ℤ dy
  pub right : frame.x2 ≡ there.x2 +ℤ dx
  pub high : frame.y2 ≡ there.y2 +ℤ dy

pub frames : (min dx dy : ℤ) (a image frame there : Rect) → IsMovedBy dx dy image a → IsGrown min a frame → IsGrown min image there → AreFrames dx dy there frame
frames min dx dy a image frame there at g h = record {
  left = let e = at.x1 in let p = g.left in let q = h.left in omega (arith, ints, e, p, q);
  low = let e = at.y1 in let p = g.low in let q = h.low in omega (arith, ints, e, p, q);
  right = let e = at.x2 in let p = g.right in let q = h.right in omega (arith, ints, e, p, q);
  high = let e = at.y2 in let p = g.high in let q = h.high in omega (arith, ints, e, p, q);
}

pub overlaps_there : (dx dy : ℤ) (frame there b : Rect) → AreFrames dx dy there frame → OverlapsMoved frame dx dy b → Overlap b there
overlaps_there dx dy frame there b at over = record {
  left = let o = over.right in let e = at.right in omega (arith, ints, o, e);
  right = let o = over.left in let e = at.left in omega (arith, ints, o, e);
  low = let o = over.high in let e = at.high in omega (arith, ints, o, e);
  high = let o = over.low in let e = at.low in omega (arith, ints, o, e);
}

-- a frame around what lies in a zone passes it by the minimum at most, and so does the other frame
near_frame : (min : ℤ) (z : Zone) (a frame : Rect) → LiesNear (pos 0) z a → IsGrown min a frame → LiesNear min z frame
near_frame min z a frame l g = record {
  left = let p = l.left in let q = g.left in omega (arith, ints, p, q);
  right = let p = l.right in let q = g.right in omega (arith, ints, p, q);
  low = let p = l.low in let q = g.low in omega (arith, ints, p, q);
  high = let p = l.high in let q = g.high in omega (arith, ints, p, q);
}

near_there : (min dx dy : ℤ) (here there : Zone) (frame other : Rect) → IsMovedZone dx dy there here → AreFrames dx dy other frame → LiesNear min here frame → LiesNear min there other
near_there min dx dy here there frame other s at l = record {
  left = let p = l.left in let q = s.left in let e = at.left in omega (arith, ints, p, q, e);
  right = let p = l.right in let q = s.right in let e = at.right in omega (arith, ints, p, q, e);
  low = let p = l.low in let q = s.low in let e = at.low in omega (arith, ints, p, q, e);
  high = let p = l.high in let q = s.high in let e = at.high in omega (arith, ints, p, q, e);
}

-- an image or a partner of a wire, as far as the frame goes
image_of : (dx dy : ℤ) (IsWire : Shape → Type 0) (to : List Shape) (there frame : Rect) (d : Shape) → HasClipped dx dy there IsWire d → AreFrames dx dy there frame → ((s : Shape) → IsWire s → s.layer ≡ d.layer → Contains to s) → HasImage frame dx dy to d
image_of dx dy IsWire to there frame d h at has = record {
  image = h.image;
  there = has h.image h.drawn h.layer;
  layer = h.layer;
  alike = record {
    left = subst (λ (q : ℤ). int_max (d.rect.x1 +ℤ dx) q ≡ int_max h.image.rect.x1 q) (sym at.left) h.left;
    low = ap (λ (z : ℤ). int_max z frame.y1) (sym h.low);
    right = subst (λ (q : ℤ). int_min (d.rect.x2 +ℤ dx) q ≡ int_min h.image.rect.x2 q) (sym at.right) h.right;
    high = ap (λ (z : ℤ). int_min z frame.y2) (sym h.high);
  };
}

partner_of : (dx dy ex ey : ℤ) (IsWire : Shape → Type 0) (from : List Shape) (frame : Rect) (d : Shape) → dx +ℤ ex ≡ pos 0 → dy +ℤ ey ≡ pos 0 → HasClipped ex ey frame IsWire d → ((s : Shape) → IsWire s → s.layer ≡ d.layer → Contains from s) → HasPartner frame dx dy from d
partner_of dx dy ex ey IsWire from frame d zx zy h has = record {
  partner = h.image;
  there = has h.image h.drawn h.layer;
  layer = h.layer;
  alike = record {
    left = left_back h.image.rect.x1 d.rect.x1 frame.x1 dx ex zx h.left;
    low = ap (λ (z : ℤ). int_max z frame.y1) (back h.image.rect.y1 d.rect.y1 dy ey zy h.low);
    right = right_back h.image.rect.x2 d.rect.x2 frame.x2 dx ex zx h.right;
    high = ap (λ (z : ℤ). int_min z frame.y2) (back h.image.rect.y2 d.rect.y2 dy ey zy h.high);
  };
} where
  back : (p q d e : ℤ) → d +ℤ e ≡ pos 0 → p ≡ q +ℤ e → p +ℤ d ≡ q
  back p q d e z is = omega (arith, ints, z, is)

  left_back : (p q f d e : ℤ) → d +ℤ e ≡ pos 0 → int_max (q +ℤ e) (f +ℤ e) ≡ int_max p (f +ℤ e) → int_max (p +ℤ d) f ≡ int_max q f
  left_back p q f d e z is = omega (arith, ints, clamps, z, is)

  right_back : (p q f d e : ℤ) → d +ℤ e ≡ pos 0 → int_min (q +ℤ e) (f +ℤ e) ≡ int_min p (f +ℤ e) → int_min (p +ℤ d) f ≡ int_min q f
  right_back p q f d e z is = omega (arith, ints, clamps, z, is)

module _ (Flat : List ℕ → Shape → Type 0) (rules : List Rule) (plan : Organization) (kit : LayoutKit) (bit : List ℕ) (wire : Wire) (tracks : Tracks) (f : Floorplan) (by reach : ℤ) (to : List Shape) (p : IsWrittenPlan plan) (short : ReachesNeighboursOnly kit wire reach) (over : pos 0 ≤ℤ by)
    (flat : HasDrawnShapes Flat plan kit (Alike bit) wire tracks f by to) (listed : Contains wire.metals (slice_index wire.metals 0)) (windows : (other : Organization) → IsWindowOf plan other → IsCleanDrawing Flat rules other kit (Alike bit) wire by)
    (min : ℤ) (some : pos 1 ≤ℤ min) (small : min ≤ℤ wire.space) (near : (min +ℤ (by +ℤ by)) ≤ℤ reach) where
  abbrev metal : ℕ
  metal = slice_index wire.metals 0

  of_wires : IsWireLayer wire metal
  of_wires = inl listed

  min_short : min ≤ℤ reach
  min_short = omega (arith, ints, near, over)

  inside : (a : Shape) → a.layer ≡ metal → (o : IsOfLeaf plan kit (Alike bit) f IsShapeTaken Flat a) → LiesNear (pos 0) (zone_of plan kit f o.leaf o.place) a.rect
  inside a on o = in_zone plan kit wire f (pos 0) flat.drawn.laid o.leaf o.place o.taken.inner a o.has o.stands (flat.inside o.leaf o.taken.inner o.has o.taken.has (subst (IsWireLayer wire) (sym on ∙ o.taken.moved.layer) of_wires)) o.taken.moved

  pub leaf_seen : (a b : Shape) → a.layer ≡ metal → b.layer ≡ metal → IsOfLeaf plan kit (Alike bit) f IsShapeTaken Flat a → Contains to b → AreNear min a.rect b.rect → IsSpaceSeen rules min to a b
  leaf_seen a b on at o shape close =
      let w = leaves_have_windows plan kit bit wire f reach p flat.drawn.laid short o.leaf o.place o.has o.stands in
      let c = windows w.other w.is in
      let z = w.there c.floorplan c.flat.drawn.laid in
      let here = zone_of plan kit f o.leaf o.place in
      let own : IsWireLayer wire a.layer = subst (IsWireLayer wire) (sym on) of_wires in
      let compared : AreCompared Flat rules plan w.other kit (Alike bit) f c.floorplan wire by reach here z.0 c.shapes =
      record { laid = flat.drawn.laid; laid_there = c.flat.drawn.laid; clean = c.clean; alike = z.1; passes = flat.passes; passes_there = c.flat.passes } in
      let pair : ArePaired plan w.other kit wire f c.floorplan reach z.1.left z.1.down here z.0 =
      kinds_are_paired plan w.other kit wire tracks c.tracks f c.floorplan flat.drawn c.flat.drawn reach short (one_left plan w.other w.is) z.1.left z.1.down here z.0 (zone_back z.1.right z.1.up z.1.left z.1.down z.0 here z.1.back_x z.1.back_y z.1.same) z.2 in
      let pair_back = paired_back plan w.other kit wire f c.floorplan reach z.1.left z.1.down z.1.right z.1.up here z.0 (turned z.1.right z.1.left z.1.back_x) (turned z.1.up z.1.down z.1.back_y) pair in
      space_seen_with Flat rules plan w.other kit (Alike bit) f c.floorplan wire by reach here z.0 c.shapes to compared (IsDrawnWire w.other kit wire c.tracks c.floorplan) (IsDrawnWire plan kit wire tracks f) min a b some near (at ∙ sym on)
      (c.flat.has a.layer own) (flat.has a.layer own)
      (λ h moved frame grown.
      let there = grown_rect min h.moved.0.rect some in
      let framed = frames min z.1.right z.1.up a.rect h.moved.0.rect frame there.0 moved grown there.1 in
      let lies = near_frame min here a.rect frame (inside a on o) grown in
      record {
        onto = λ d wired layer reaches.
            image_of z.1.right z.1.up (IsDrawnWire plan kit wire tracks f) to there.0 frame d
            (wire_clipped w.other plan kit wire c.tracks tracks c.floorplan f c.flat.drawn flat.drawn reach z.1.right z.1.up z.0 here pair_back min there.0 small min_short (near_there min z.1.right z.1.up here z.0 frame there.0 z.1.same framed lies) d wired (layer ∙ on)
            (overlaps_there z.1.right z.1.up frame there.0 d.rect framed reaches))
            framed (λ s is same. (flat.has a.layer own s (same ∙ layer)).1 (inl is));
        off = λ d wired layer reaches.
            partner_of z.1.right z.1.up z.1.left z.1.down (IsDrawnWire w.other kit wire c.tracks c.floorplan) c.shapes frame d z.1.back_x z.1.back_y
            (wire_clipped plan w.other kit wire tracks c.tracks f c.floorplan flat.drawn c.flat.drawn reach z.1.left z.1.down here z.0 pair min frame small min_short lies d wired (layer ∙ on) reaches)
            (λ s is same. (c.flat.has a.layer own s (same ∙ layer)).1 (inl is));
      })
      (record { of = o; zone = refl }) shape close
    where
      turned : (x y : ℤ) → x +ℤ y ≡ pos 0 → y +ℤ x ≡ pos 0
      turned x y e = omega (arith, ints, e)
