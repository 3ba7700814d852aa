-- The space rule of the third metal is kept where the small memories keep it.
use Rattle.std.proofs.Common.{◌≡◌, ◌⊎◌, inl, inr, ◌∙◌, ℕ, ℤ, pos, ◌+ℤ◌, ◌≤ℤ◌, List, refl, sym, ap, subst, arith}
use Rattle.std.specs.Prelude.{Contains, slice_index}
use Rattle.std.specs.Int.{int_max, int_min}
use Rattle.std.proofs.lemmas.Int.{ints, clamps}
use Rattle.or_geom.specs.declared.shape.Rect.{Rect}
use Rattle.or_geom.specs.declared.shape.Shape.{Shape}
use Rattle.shape_bins.specs.Meets.{Overlap}
use Rattle.cell_roles.specs.declared.role.Role.TheVariants.{Bitcell}
use Rattle.tech_rules.specs.declared.tech.Rule.{Rule}
use Rattle.tech_rules.specs.declared.tech.Rule.TheVariants.{Space}
use Rattle.tech_rules.specs.declared.tech.Wire.{Wire}
use Rattle.tile_checker.specs.Breaks.{IsGrown, AreNear}
use Rattle.cell_hierarchy.specs.FlatSet.{IsFlatShape}
use Rattle.cell_builder.specs.Flat.{IsShapeTaken}
use Rattle.sram_netlist.specs.Organization.{Organization}
use Rattle.sram_netlist.specs.BitCells.{Alike}
use Rattle.macro_layout.specs.LayoutKit.{LayoutKit}
use Rattle.macro_layout.specs.Places.{Floorplan}
use Rattle.macro_layout.specs.Floorplan.{Tracks}
use Rattle.macro_layout.specs.Layout.{IsOfLeaf}
use Rattle.local_report.specs.Moved.{IsMovedBy, OverlapsMoved}
use Rattle.local_report.specs.Seen.{HasPartner}
use Rattle.local_report.specs.Alike.{HasImage}
use Rattle.local_report.specs.Local.{KeepsRule, IsSpaceSeen}
use Rattle.local_report.proofs.CleanLaws.{space_back}
use Rattle.local_report.proofs.SpaceLaws.{grown_rect}
use Rattle.good_places.specs.Leaves.{Zone, zone_of, ReachesNeighboursOnly, LiesNear}
use Rattle.good_places.specs.Seen.{AreCompared, IsMovedZone}
use Rattle.good_places.specs.Windows.{with_bits, IsWindowOf, IsWrittenPlan}
use Rattle.leaf_shapes.specs.Outline.{IsWireLayer}
use Rattle.good_places.proofs.LaidLaws.{in_zone}
use Rattle.good_places.proofs.SeenLaws.{space_seen_with}
use Rattle.good_wires.specs.Drawn.{IsDrawnWire}
use Rattle.good_wires.specs.Kept.{HasDrawnShapes, IsCleanDrawing}
use Rattle.good_wires.proofs.SpacedLaws.{spaced_not_near}
use Rattle.good_wires.proofs.ThirdLaws.{third_metal_is_spaced}
use Rattle.tap_spaces.specs.Kept.{ThirdSpaceIsKept}
use Rattle.tap_spaces.proofs.TapWindowLaws.{zones_back, tap_window}
use Rattle.tap_spaces.proofs.TapPutLaws.{HasTapImage}
use Rattle.tap_spaces.proofs.TapNearLaws.{wire_moves}

-- the frame around a shape, and the one around its image: so much further right and up
record AreFrames (dx dy : ℤ) (there frame : Rect) : Type 0 where
  pub left : frame.x1 ≡ there.x1 +ℤ dx
  pub right : frame.x2 ≡ there.x2 +ℤ dx
  pub low : frame.y1 ≡ there.y1 +ℤ dy
  pub high : frame.y2 ≡ there.y2 +ℤ dy

-- an image or a partner of a wire, as far as the frame goes
image_of : (dx dy : ℤ) (IsWire : Shape → Type 0) (to : List Shape) (there frame : Rect) (d : Shape) → HasTapImage dx dy there IsWire d → AreFrames dx dy there frame → ((s : Shape) → IsWire s → s.layer ≡ d.layer → Contains to s) → HasImage frame dx dy to d
image_of dx dy IsWire to there frame d h e has = record {
  image = h.image;
  there = has h.image h.drawn h.layer;
  layer = h.layer;
  alike = record {
    left = begin d.rect.x1 h.image.rect.x1 there.x1 frame.x1 h.left h.left_there e.left;
    low = ap (λ (z : ℤ). int_max z frame.y1) (sym h.low);
    right = subst (λ (q : ℤ). int_min (d.rect.x2 +ℤ dx) q ≡ int_min h.image.rect.x2 q) (sym e.right) h.right;
    high = ap (λ (z : ℤ). int_min z frame.y2) (sym h.high);
  };
} where
  begin : (p q t f : ℤ) → p ≤ℤ t → q ≤ℤ (t +ℤ dx) → f ≡ t +ℤ dx → int_max (p +ℤ dx) f ≡ int_max q f
  begin p q t f a b e = omega (arith, ints, clamps, a, b, e)

partner_of : (dx dy ex ey : ℤ) (IsWire : Shape → Type 0) (from : List Shape) (frame : Rect) (d : Shape) → dx +ℤ ex ≡ pos 0 → dy +ℤ ey ≡ pos 0 → HasTapImage ex ey frame IsWire d → ((s : Shape) → IsWire s → s.layer ≡ d.layer → Contains from s) → HasPartner frame dx dy from d
partner_of dx dy ex ey IsWire from frame d zx zy h has = record {
  partner = h.image;
  there = has h.image h.drawn h.layer;
  layer = h.layer;
  alike = record {
    left = begin h.image.rect.x1 d.rect.x1 frame.x1 h.left_there h.left;
    low = ap (λ (z : ℤ). int_max z frame.y1) (back h.image.rect.y1 d.rect.y1 h.low);
    right = end h.image.rect.x2 d.rect.x2 frame.x2 h.right;
    high = ap (λ (z : ℤ). int_min z frame.y2) (back h.image.rect.y2 d.rect.y2 h.high);
  };
} where
  begin : (p q f : ℤ) → p ≤ℤ (f +ℤ ex) → q ≤ℤ f → int_max (p +ℤ dx) f ≡ int_max q f
  begin p q f a b = omega (arith, ints, clamps, a, b, zx)

  back : (p q : ℤ) → p ≡ q +ℤ ey → p +ℤ dy ≡ q
  back p q is = omega (arith, ints, zy, is)

  end : (p q f : ℤ) → int_min (q +ℤ ex) (f +ℤ ex) ≡ int_min p (f +ℤ ex) → int_min (p +ℤ dx) f ≡ int_min q f
  end p q f is = omega (arith, ints, clamps, zx, is)

module _ (Flat : List ℕ → Shape → Type 0) (rules : List Rule) (plan : Organization) (kit : LayoutKit) (bit : List ℕ) (wire : Wire) (tracks : Tracks) (f : Floorplan) (by reach : ℤ) (to : List Shape) (p : IsWrittenPlan plan) (short : ReachesNeighboursOnly kit wire reach) (over : pos 0 ≤ℤ by)
    (flat : HasDrawnShapes Flat plan kit (Alike bit) wire tracks f by to) (listed : Contains wire.metals (slice_index wire.metals 2)) (windows : (other : Organization) → IsWindowOf plan other → IsCleanDrawing Flat rules other kit (Alike bit) wire by)
    (min : ℤ) (some : pos 1 ≤ℤ min) (small : min ≤ℤ wire.space) (near : (min +ℤ (by +ℤ by)) ≤ℤ reach) where
  abbrev metal : ℕ
  metal = slice_index wire.metals 2

  of_wires : IsWireLayer wire metal
  of_wires = inl listed

  narrow : min ≤ℤ pos (kit.width Bitcell)
  narrow = let r = short.bitcell in omega (arith, ints, near, over, r)

  inside : (other : Organization) (many : Tracks) (g : Floorplan) (shapes : List Shape) (h : HasDrawnShapes Flat other kit (Alike bit) wire many g by shapes) (a : Shape) → a.layer ≡ metal → (o : IsOfLeaf other kit (Alike bit) g IsShapeTaken Flat a) → LiesNear (pos 0) (zone_of other kit g o.leaf o.place) a.rect
  inside other many g shapes h a on o =
      in_zone other kit wire g (pos 0) h.drawn.laid o.leaf o.place o.taken.inner a o.has o.stands (h.inside o.leaf o.taken.inner o.has o.taken.has (subst (IsWireLayer wire) (sym on ∙ o.taken.moved.layer) of_wires)) o.taken.moved

  -- a shape in a zone, grown, lies around the zone
  frame_lies : (z : Zone) (r frame : Rect) → LiesNear (pos 0) z r → IsGrown min r frame → LiesNear min z frame
  frame_lies z r frame i g = record {
    left = let a = i.left in let e = g.left in omega (arith, ints, a, e);
    right = let a = i.right in let e = g.right in omega (arith, ints, a, e);
    low = let a = i.low in let e = g.low in omega (arith, ints, a, e);
    high = let a = i.high in let e = g.high in omega (arith, ints, a, e);
  }

  overlaps_there : (dx dy : ℤ) (there frame b : Rect) → AreFrames dx dy there frame → OverlapsMoved frame dx dy b → Overlap b there
  overlaps_there dx dy there frame b e over = record {
    left = let o = over.right in let h = e.right in omega (arith, ints, o, h);
    right = let o = over.left in let h = e.left in omega (arith, ints, o, h);
    low = let o = over.high in let h = e.high in omega (arith, ints, o, h);
    high = let o = over.low in let h = e.low in omega (arith, ints, o, h);
  }

  frames : (dx dy : ℤ) (a image frame there : Rect) → IsMovedBy dx dy image a → IsGrown min a frame → IsGrown min image there → AreFrames dx dy there frame
  frames dx dy a image frame there at g h = record {
    left = let e = at.x1 in let p = g.left in let q = h.left in omega (arith, ints, e, p, q);
    right = let e = at.x2 in let p = g.right in let q = h.right in omega (arith, ints, e, p, q);
    low = let e = at.y1 in let p = g.low in let q = h.low in omega (arith, ints, e, p, q);
    high = let e = at.y2 in let p = g.high in let q = h.high in omega (arith, ints, e, p, q);
  }

  lies_moved : (dx dy : ℤ) (here there : Zone) (a image : Rect) → IsMovedZone dx dy there here → IsMovedBy dx dy image a → LiesNear (pos 0) here a → LiesNear (pos 0) there image
  lies_moved dx dy here there a image s at i = record {
    left = let e = at.x1 in let p = i.left in let q = s.left in omega (arith, ints, e, p, q);
    right = let e = at.x2 in let p = i.right in let q = s.right in omega (arith, ints, e, p, q);
    low = let e = at.y1 in let p = i.low in let q = s.low in omega (arith, ints, e, p, q);
    high = let e = at.y2 in let p = i.high in let q = s.high in omega (arith, ints, e, p, q);
  }

  same_back : (dx dy ex ey : ℤ) (here there : Zone) → dx +ℤ ex ≡ pos 0 → dy +ℤ ey ≡ pos 0 → IsMovedZone dx dy there here → IsMovedZone ex ey here there
  same_back dx dy ex ey here there zx zy s = record {
    left = let q = s.left in omega (arith, ints, zx, q);
    right = let q = s.right in omega (arith, ints, zx, q);
    low = let q = s.low in omega (arith, ints, zy, q);
    high = let q = s.high in omega (arith, ints, zy, q);
  }

  seen : (a b : Shape) → a.layer ≡ metal → b.layer ≡ metal → IsOfLeaf plan kit (Alike bit) f IsShapeTaken Flat a → Contains to b → AreNear min a.rect b.rect → IsSpaceSeen rules min to a b
  seen a b on at o shape close =
      let w = tap_window plan kit bit wire f reach p flat.drawn.laid short o.leaf o.place o.has o.stands in
      let other = with_bits plan w.word w.write w.masks in
      let c = windows other w.is in
      let z = w.there c.floorplan c.flat.drawn.laid in
      let here = zone_of plan kit f o.leaf o.place in
      let own : IsWireLayer wire a.layer = subst (IsWireLayer wire) (sym on) of_wires in
      let lies = inside plan tracks f to flat a on o in
      let compared : AreCompared Flat rules plan other kit (Alike bit) f c.floorplan wire by reach here z.0 c.shapes =
      record { laid = flat.drawn.laid; laid_there = c.flat.drawn.laid; clean = c.clean; alike = z.1; passes = flat.passes; passes_there = c.flat.passes } in
      space_seen_with Flat rules plan other kit (Alike bit) f c.floorplan wire by reach here z.0 c.shapes to compared (IsDrawnWire other kit wire c.tracks c.floorplan) (IsDrawnWire plan kit wire tracks f) min a b some near (at ∙ sym on)
      (c.flat.has a.layer own) (flat.has a.layer own)
      (λ h moved frame grown.
      let there = grown_rect min h.moved.0.rect some in
      let both = frames z.1.right z.1.up a.rect h.moved.0.rect frame there.0 moved grown there.1 in
      record {
        onto = λ d wired layer reaches.
            image_of z.1.right z.1.up (IsDrawnWire plan kit wire tracks f) to there.0 frame d
            (wire_moves plan kit wire w.word w.write w.masks plan.word_size plan.write_size plan.masks c.tracks tracks c.floorplan f c.flat.drawn flat.drawn min z.1.right z.1.up some small narrow z.0 here z.1.same there.0
            (frame_lies z.0 h.moved.0.rect there.0 (lies_moved z.1.right z.1.up here z.0 a.rect h.moved.0.rect z.1.same moved lies) there.1)
            d wired (layer ∙ on) (overlaps_there z.1.right z.1.up there.0 frame d.rect both reaches) (zones_back plan w.word w.write w.masks kit f c.floorplan here z.0 z.2))
            both (λ s is same. (flat.has a.layer own s (same ∙ layer)).1 (inl is));
        off = λ d wired layer reaches.
            partner_of z.1.right z.1.up z.1.left z.1.down (IsDrawnWire other kit wire c.tracks c.floorplan) c.shapes frame d z.1.back_x z.1.back_y
            (wire_moves plan kit wire plan.word_size plan.write_size plan.masks w.word w.write w.masks tracks c.tracks f c.floorplan flat.drawn c.flat.drawn min z.1.left z.1.down some small narrow here z.0 (same_back z.1.right z.1.up z.1.left z.1.down here z.0 z.1.back_x z.1.back_y z.1.same) frame
            (frame_lies here a.rect frame lies grown) d wired (layer ∙ on) reaches z.2)
            (λ s is same. (c.flat.has a.layer own s (same ∙ layer)).1 (inl is));
      })
      (record { of = o; zone = refl }) shape close

  both_on : (m n : ℕ) → ((m ≡ metal) × (n ≡ metal)) ⊎ ((m ≡ metal) × (n ≡ metal)) → (m ≡ metal) × (n ≡ metal)
  both_on m n (inl e) = e
  both_on m n (inr e) = e

  pub kept : KeepsRule rules to (Space metal metal min)
  kept a b here there broken =
      let on = both_on a.layer b.layer broken.on in
      elim ((flat.has metal of_wires a on.0).0 here) [
        | inr leaf ↦ inl (seen a b on.0 on.1 leaf there broken.near)
        | inl wired ↦ elim ((flat.has metal of_wires b on.1).0 there) [
          | inr leaf ↦ inr (seen b a on.1 on.0 leaf here (space_back metal metal min to a b broken).near)
          | inl other ↦ absurd (spaced_not_near min wire.space a.rect b.rect some small (third_metal_is_spaced plan kit wire tracks f flat.drawn a b wired other on.0 on.1) broken.near)
        ]
      ]

pub third_space_is_kept : ThirdSpaceIsKept
third_space_is_kept layers structs rules plan kit bit wire tracks f by reach to p short over flat listed windows min some small near = kept (IsFlatShape layers structs) rules plan kit bit wire tracks f by reach to p short over flat listed windows min some small near
