-- Space rules of cuts are kept where the small memories keep them.
use Rattle.std.proofs.Common.{◌≡◌, ◌⊎◌, inl, inr, ◌∙◌, ℕ, ℤ, pos, ◌+ℤ◌, ◌≤ℤ◌, List, refl, sym, subst, arith}
use Rattle.std.specs.Prelude.{Contains, slice_index}
use Rattle.std.proofs.lemmas.Int.{ints}
use Rattle.or_geom.specs.declared.shape.Rect.{Rect}
use Rattle.or_geom.specs.declared.shape.Shape.{Shape}
use Rattle.shape_bins.specs.Meets.{Overlap}
use Rattle.tech_rules.specs.declared.tech.Rule.{Rule}
use Rattle.tech_rules.specs.declared.tech.Rule.TheVariants.{Space}
use Rattle.tech_rules.specs.declared.tech.Wire.{Wire}
use Rattle.tile_checker.specs.Breaks.{IsGrown, AreNear}
use Rattle.cell_hierarchy.specs.FlatSet.{IsFlatShape}
use Rattle.cell_builder.specs.Flat.{IsShapeTaken}
use Rattle.sram_netlist.specs.Organization.{Organization}
use Rattle.sram_netlist.specs.BitCells.{Alike}
use Rattle.macro_layout.specs.LayoutKit.{LayoutKit}
use Rattle.macro_layout.specs.Places.{Floorplan}
use Rattle.macro_layout.specs.Floorplan.{Tracks}
use Rattle.macro_layout.specs.Layout.{IsOfLeaf}
use Rattle.local_report.specs.Moved.{IsMovedBy, OverlapsMoved}
use Rattle.local_report.specs.Local.{KeepsRule, IsSpaceSeen}
use Rattle.local_report.proofs.CleanLaws.{space_back}
use Rattle.local_report.proofs.SpaceLaws.{grown_rect}
use Rattle.good_places.specs.Leaves.{Zone, zone_of, ReachesNeighboursOnly, LiesNear}
use Rattle.good_places.specs.Seen.{AreCompared}
use Rattle.good_places.specs.Windows.{IsWindowOf, IsWrittenPlan}
use Rattle.leaf_shapes.specs.Outline.{IsWireLayer}
use Rattle.good_places.proofs.LaidLaws.{in_zone}
use Rattle.good_places.proofs.SeenLaws.{space_seen_with}
use Rattle.good_places.proofs.WindowLaws.{leaves_have_windows}
use Rattle.good_wires.specs.Drawn.{IsDrawnWire}
use Rattle.good_wires.specs.Kept.{HasDrawnShapes, IsCleanDrawing, CutSpacesAreKept}
use Rattle.good_wires.proofs.SpacedLaws.{spaced_not_near}
use Rattle.good_wires.proofs.CutLaws.{cuts_are_spaced, few_of, some_of}
use Rattle.good_wires.proofs.ClearLaws.{zone_kind, cut_clear}

module _ (Flat : List ℕ → Shape → Type 0) (rules : List Rule) (plan : Organization) (kit : LayoutKit) (bit : List ℕ) (wire : Wire) (tracks : Tracks) (f : Floorplan) (by reach : ℤ) (to : List Shape) (p : IsWrittenPlan plan) (short : ReachesNeighboursOnly kit wire reach)
    (flat : HasDrawnShapes Flat plan kit (Alike bit) wire tracks f by to) (windows : (other : Organization) → IsWindowOf plan other → IsCleanDrawing Flat rules other kit (Alike bit) wire by)
    (k : ℕ) (min : ℤ) (which : (k ≡ 1) ⊎ (k ≡ 2)) (some : pos 1 ≤ℤ min) (small : min ≤ℤ wire.space) (near : (min +ℤ (by +ℤ by)) ≤ℤ reach) where
  abbrev cut : ℕ
  cut = slice_index wire.cuts k

  of_wires : IsWireLayer wire cut
  of_wires = inr (flat.drawn.three k (few_of k which))

  -- a leaf shape on the cut, grown, lies around its zone
  frame_lies : (z : Zone) (r frame : Rect) → LiesNear (pos 0) z r → IsGrown min r frame → LiesNear wire.space z frame
  frame_lies z r frame i g =
      let a = i.left in
      let b = i.right in
      let c = i.low in
      let d = i.high in
      record {
        left = let e = g.left in omega (arith, ints, a, e, small);
        right = let e = g.right in omega (arith, ints, b, e, small);
        low = let e = g.low in omega (arith, ints, c, e, small);
        high = let e = g.high in omega (arith, ints, d, e, small);
      }

  inside : (other : Organization) (many : Tracks) (g : Floorplan) (shapes : List Shape) (h : HasDrawnShapes Flat other kit (Alike bit) wire many g by shapes) (a : Shape) → a.layer ≡ cut → (o : IsOfLeaf other kit (Alike bit) g IsShapeTaken Flat a) → LiesNear (pos 0) (zone_of other kit g o.leaf o.place) a.rect
  inside other many g shapes h a on o =
      in_zone other kit wire g (pos 0) h.drawn.laid o.leaf o.place o.taken.inner a o.has o.stands (h.inside o.leaf o.taken.inner o.has o.taken.has (subst (IsWireLayer wire) (sym on ∙ o.taken.moved.layer) of_wires)) o.taken.moved

  -- no wire reaches into the shape, grown
  clear : (other : Organization) (many : Tracks) (g : Floorplan) (shapes : List Shape) (h : HasDrawnShapes Flat other kit (Alike bit) wire many g by shapes) (a b : Shape) (frame : Rect) → a.layer ≡ cut → (o : IsOfLeaf other kit (Alike bit) g IsShapeTaken Flat a) → IsGrown min a.rect frame → b.layer ≡ cut → IsDrawnWire other kit wire many g b
      → Overlap b.rect frame → ⊥
  clear other many g shapes h a b frame on o grown at is over =
      cut_clear other kit wire many g h.drawn k (few_of k which) (some_of k which) (zone_of other kit g o.leaf o.place) frame (zone_kind other kit wire many g h.drawn o.leaf o.place o.has o.stands)
      (frame_lies (zone_of other kit g o.leaf o.place) a.rect frame (inside other many g shapes h a on o) grown) b at is over

  overlaps_there : (dx dy : ℤ) (a image frame there b : Rect) → IsMovedBy dx dy image a → IsGrown min a frame → IsGrown min image there → OverlapsMoved frame dx dy b → Overlap b there
  overlaps_there dx dy a image frame there b at g h over = record {
    left = let o = over.right in let e = at.x2 in let p = g.right in let q = h.right in omega (arith, ints, o, e, p, q);
    right = let o = over.left in let e = at.x1 in let p = g.left in let q = h.left in omega (arith, ints, o, e, p, q);
    low = let o = over.high in let e = at.y2 in let p = g.high in let q = h.high in omega (arith, ints, o, e, p, q);
    high = let o = over.low in let e = at.y1 in let p = g.low in let q = h.low in omega (arith, ints, o, e, p, q);
  }

  -- a leaf shape's distance from a shape near it is seen in its window
  seen : (a b : Shape) → a.layer ≡ cut → b.layer ≡ cut → IsOfLeaf plan kit (Alike bit) f IsShapeTaken Flat a → Contains to b → AreNear min a.rect b.rect → IsSpaceSeen rules min to a b
  seen a b on at o listed close =
      let w = leaves_have_windows plan kit bit wire f reach p flat.drawn.laid short o.leaf o.place o.has o.stands in
      let c = windows w.other w.is in
      let z = w.there c.floorplan c.flat.drawn.laid in
      let compared : AreCompared Flat rules plan w.other kit (Alike bit) f c.floorplan wire by reach (zone_of plan kit f o.leaf o.place) z.0 c.shapes =
      record { laid = flat.drawn.laid; laid_there = c.flat.drawn.laid; clean = c.clean; alike = z.1; passes = flat.passes; passes_there = c.flat.passes } in
      space_seen_with Flat rules plan w.other kit (Alike bit) f c.floorplan wire by reach (zone_of plan kit f o.leaf o.place) z.0 c.shapes to compared (IsDrawnWire w.other kit wire c.tracks c.floorplan) (IsDrawnWire plan kit wire tracks f) min a b some near (at ∙ sym on)
      (c.flat.has a.layer (subst (IsWireLayer wire) (sym on) of_wires)) (flat.has a.layer (subst (IsWireLayer wire) (sym on) of_wires))
      (λ h moved frame grown.
      let there = grown_rect min h.moved.0.rect some in
      record {
        onto = λ d wired layer over. absurd (clear w.other c.tracks c.floorplan c.shapes c.flat h.moved.0 d there.0 (h.moved.1 ∙ on) h.of there.1 (layer ∙ on) wired (overlaps_there z.1.right z.1.up a.rect h.moved.0.rect frame there.0 d.rect moved grown there.1 over));
        off = λ d wired layer over. absurd (clear plan tracks f to flat a d frame on o grown (layer ∙ on) wired over);
      })
      (record { of = o; zone = refl }) listed close

  both : (m n : ℕ) → ((m ≡ cut) × (n ≡ cut)) ⊎ ((m ≡ cut) × (n ≡ cut)) → (m ≡ cut) × (n ≡ cut)
  both m n (inl e) = e
  both m n (inr e) = e

  pub kept : KeepsRule rules to (Space cut cut min)
  kept a b here there broken =
      let on = both a.layer b.layer broken.on in
      elim ((flat.has cut of_wires a on.0).0 here) [
        | inr leaf ↦ inl (seen a b on.0 on.1 leaf there broken.near)
        | inl wired ↦ elim ((flat.has cut of_wires b on.1).0 there) [
          | inr leaf ↦ inr (seen b a on.1 on.0 leaf here (space_back cut cut min to a b broken).near)
          | inl other ↦ absurd (spaced_not_near min wire.space a.rect b.rect some small (cuts_are_spaced plan kit wire tracks f flat.drawn k which a b wired other on.0 on.1) broken.near)
        ]
      ]

pub cut_spaces_are_kept : CutSpacesAreKept
cut_spaces_are_kept layers structs rules plan kit bit wire tracks f by reach to p short flat windows k min which some small near = kept (IsFlatShape layers structs) rules plan kit bit wire tracks f by reach to p short flat windows k min which some small near
