-- The space rule of the cuts between the first and the second metal is kept where the small memories keep it.
use Rattle.std.proofs.Common.{◌≡◌, ◌⊎◌, inl, inr, ◌∙◌, ℕ, ℤ, pos, ◌+ℤ◌, ◌≤ℤ◌, List, refl, sym, subst, arith}
use Rattle.std.specs.Prelude.{Contains, slice_index}
use Rattle.std.proofs.lemmas.Int.{ints}
use Rattle.or_geom.specs.declared.shape.Rect.{Rect}
use Rattle.or_geom.specs.declared.shape.Shape.{Shape}
use Rattle.shape_bins.specs.Meets.{Overlap}
use Rattle.tech_rules.specs.declared.tech.Rule.{Rule}
use Rattle.tech_rules.specs.declared.tech.Rule.TheVariants.{Space}
use Rattle.tech_rules.specs.declared.tech.Wire.{Wire}
use Rattle.tech_rules.proofs.WireLaws.{margin_positive}
use Rattle.tile_checker.specs.Breaks.{IsGrown, AreNear, BreaksSpace}
use Rattle.cell_hierarchy.specs.FlatSet.{IsFlatShape}
use Rattle.cell_builder.specs.Flat.{IsShapeTaken}
use Rattle.sram_netlist.specs.Organization.{Organization}
use Rattle.sram_netlist.specs.BitCells.{Alike}
use Rattle.macro_layout.specs.LayoutKit.{LayoutKit}
use Rattle.macro_layout.specs.Places.{Floorplan}
use Rattle.macro_layout.specs.Floorplan.{Tracks}
use Rattle.macro_layout.specs.Layout.{IsOfLeaf}
use Rattle.local_report.specs.Local.{KeepsRule, IsSpaceSeen}
use Rattle.local_report.proofs.CleanLaws.{space_back}
use Rattle.local_report.proofs.SpaceLaws.{grown_rect}
use Rattle.good_places.specs.Leaves.{zone_of, ReachesNeighboursOnly}
use Rattle.good_places.specs.Seen.{AreCompared}
use Rattle.good_places.specs.Windows.{IsWindowOf, IsWrittenPlan}
use Rattle.leaf_shapes.specs.Outline.{IsWireLayer}
use Rattle.good_places.proofs.SeenLaws.{space_seen_with}
use Rattle.good_places.proofs.WindowLaws.{leaves_have_windows}
use Rattle.good_wires.specs.Drawn.{IsDrawnWire}
use Rattle.good_wires.specs.Kept.{HasDrawnShapes, IsCleanDrawing}
use Rattle.good_wires.proofs.SpacedLaws.{spaced_not_near}
use Rattle.bar_spaces.specs.Kept.{FirstCutSpaceIsKept}
use Rattle.supply_bars.specs.Heights.{is_power, IsCutAlong, Height, part_of}
use Rattle.supply_bars.proofs.HeightLaws.{on_cut, a_cut}
use Rattle.supply_bars.proofs.PartLaws.{same_bars, trunks}
use Rattle.bar_spaces.proofs.OverLaws.{stacked_kept}
use Rattle.bar_spaces.proofs.LeafSpaceLaws.{frames, overlaps_there}
use Rattle.bar_spaces.proofs.TwoBarLaws.{leaf_ends}
use Rattle.bar_spaces.proofs.ZoneAtLaws.{window, window_is, one_left}
use Rattle.bar_spaces.proofs.TwoCutLaws.{cuts_or_apart, cuts_stacked, cuts_fill}

module _ (Flat : List ℕ → Shape → Type 0) (rules : List Rule) (plan : Organization) (kit : LayoutKit) (bit : List ℕ) (wire : Wire) (tracks : Tracks) (f : Floorplan) (by reach : ℤ) (to : List Shape) (p : IsWrittenPlan plan) (short : ReachesNeighboursOnly kit wire reach)
    (flat : HasDrawnShapes Flat plan kit (Alike bit) wire tracks f by to) (windows : (other : Organization) → IsWindowOf plan other → IsCleanDrawing Flat rules other kit (Alike bit) wire by)
    (min : ℤ) (some : pos 1 ≤ℤ min) (small : min ≤ℤ wire.space) (near : (min +ℤ (by +ℤ by)) ≤ℤ reach) (rule : Contains rules (Space (slice_index wire.cuts 0) (slice_index wire.cuts 0) min)) where
  abbrev cut : ℕ
  cut = slice_index wire.cuts 0

  of_wires : IsWireLayer wire cut
  of_wires = inr (flat.drawn.three 0 (omega arith))

  -- no cut of wires reaches into a leaf shape, grown
  clear : (other : Organization) (many : Tracks) (g : Floorplan) (shapes : List Shape) (h : HasDrawnShapes Flat other kit (Alike bit) wire many g by shapes) (a b : Shape) (frame : Rect) → a.layer ≡ cut → (o : IsOfLeaf other kit (Alike bit) g IsShapeTaken Flat a) → IsGrown min a.rect frame → b.layer ≡ cut → IsDrawnWire other kit wire many g b
      → Overlap b.rect frame → ⊥
  clear other many g shapes h a b frame on o grown at is over =
      let q = on_cut other kit wire many g h.drawn b at is in
      let e = leaf_ends Flat other kit (Alike bit) wire many g h.drawn h.inside cut of_wires a on o in
      let t = trunks other kit wire many g h.drawn (is_power q.0) in
      let one = margin_positive wire h.drawn.laid.sizes in
      let l = q.1.via.left in
      let r = grown.right in
      let i = over.left in
      omega (arith, ints, e, t, one, l, r, i, small)

  leaf_seen : (a b : Shape) → a.layer ≡ cut → b.layer ≡ cut → IsOfLeaf plan kit (Alike bit) f IsShapeTaken Flat a → Contains to b → AreNear min a.rect b.rect → IsSpaceSeen rules min to a b
  leaf_seen a b on at o listed close =
      let w = leaves_have_windows plan kit bit wire f reach p flat.drawn.laid short o.leaf o.place o.has o.stands in
      let c = windows w.other w.is in
      let z = w.there c.floorplan c.flat.drawn.laid in
      let own : IsWireLayer wire a.layer = subst (IsWireLayer wire) (sym on) of_wires in
      let compared : AreCompared Flat rules plan w.other kit (Alike bit) f c.floorplan wire by reach (zone_of plan kit f o.leaf o.place) z.0 c.shapes =
      record { laid = flat.drawn.laid; laid_there = c.flat.drawn.laid; clean = c.clean; alike = z.1; passes = flat.passes; passes_there = c.flat.passes } in
      space_seen_with Flat rules plan w.other kit (Alike bit) f c.floorplan wire by reach (zone_of plan kit f o.leaf o.place) z.0 c.shapes to compared (IsDrawnWire w.other kit wire c.tracks c.floorplan) (IsDrawnWire plan kit wire tracks f) min a b some near (at ∙ sym on)
      (c.flat.has a.layer own) (flat.has a.layer own)
      (λ h moved frame grown.
      let there = grown_rect min h.moved.0.rect some in
      let framed = frames min z.1.right z.1.up a.rect h.moved.0.rect frame there.0 moved grown there.1 in
      record {
        onto = λ d wired layer reaches. absurd (clear w.other c.tracks c.floorplan c.shapes c.flat h.moved.0 d there.0 (h.moved.1 ∙ on) h.of there.1 (layer ∙ on) wired (overlaps_there z.1.right z.1.up frame there.0 d.rect framed reaches));
        off = λ d wired layer reaches. absurd (clear plan tracks f to flat a d frame on o grown (layer ∙ on) wired reaches);
      })
      (record { of = o; zone = refl }) listed close

  -- two cuts of wires keep the rule
  cuts_kept : (a b : Shape) → a.layer ≡ cut → b.layer ≡ cut → (h k : Height) → IsCutAlong plan kit wire f h a → IsCutAlong plan kit wire f k b → BreaksSpace cut cut min to a b → ⊥
  cuts_kept a b on_a on_b h k cut_a cut_b broken = elim (cuts_or_apart plan kit wire tracks f flat.drawn h k a b cut_a cut_b) [
    | inr spaced ↦ spaced_not_near min wire.space a.rect b.rect some small spaced broken.near
    | inl one ↦ stand one.0 one.1
  ] where
    stand : part_of h ≡ part_of k → is_power h ≡ is_power k → ⊥
    stand part trunk =
        let other = window plan kit bit wire f reach p flat.drawn.laid short in
        let c = windows other (window_is plan kit bit wire f reach p flat.drawn.laid short) in
        let same = one_left plan kit bit wire f reach p flat.drawn.laid short in
        let e = a_cut other kit wire c.tracks c.floorplan c.flat.drawn h (same_bars plan other h same cut_a.has) in
        let d = a_cut other kit wire c.tracks c.floorplan c.flat.drawn k (same_bars plan other k same cut_b.has) in
        stacked_kept rules cut min c.shapes to c.clean rule a b e.0 d.0 ((c.flat.has cut of_wires e.0 e.2).1 (inl e.1)) ((c.flat.has cut of_wires d.0 d.2).1 (inl d.1)) on_a on_b e.2 d.2
        (cuts_stacked Flat plan other kit (Alike bit) wire tracks c.tracks f c.floorplan flat.drawn c.flat.drawn same c.flat.inside c.shapes to (c.flat.has cut of_wires) (flat.has cut of_wires) h k a b e.0 d.0 cut_a cut_b e.3 d.3 part trunk)
        (cuts_fill Flat plan other kit (Alike bit) wire tracks c.tracks f c.floorplan flat.drawn c.flat.drawn same c.flat.inside c.shapes to (c.flat.has cut of_wires) (flat.has cut of_wires) h k a b e.0 d.0 cut_a cut_b e.3 d.3 part trunk)
        (cuts_fill Flat plan other kit (Alike bit) wire tracks c.tracks f c.floorplan flat.drawn c.flat.drawn same c.flat.inside c.shapes to (c.flat.has cut of_wires) (flat.has cut of_wires) k h b a d.0 e.0 cut_b cut_a d.3 e.3 (sym part) (sym trunk)) broken

  both_on : (m n : ℕ) → ((m ≡ cut) × (n ≡ cut)) ⊎ ((m ≡ cut) × (n ≡ cut)) → (m ≡ cut) × (n ≡ cut)
  both_on m n (inl e) = e
  both_on m n (inr e) = e

  pub kept : KeepsRule rules to (Space cut cut min)
  kept a b here there broken =
      let on = both_on a.layer b.layer broken.on in
      elim ((flat.has cut of_wires a on.0).0 here) [
        | inr leaf ↦ inl (leaf_seen a b on.0 on.1 leaf there broken.near)
        | inl wired ↦ elim ((flat.has cut of_wires b on.1).0 there) [
          | inr leaf ↦ inr (leaf_seen b a on.1 on.0 leaf here (space_back cut cut min to a b broken).near)
          | inl other_wired ↦ let h = on_cut plan kit wire tracks f flat.drawn a on.0 wired in let k = on_cut plan kit wire tracks f flat.drawn b on.1 other_wired in absurd (cuts_kept a b on.0 on.1 h.0 k.0 h.1 k.1 broken)
        ]
      ]

pub first_cut_space_is_kept : FirstCutSpaceIsKept
first_cut_space_is_kept layers structs rules plan kit bit wire tracks f by reach to p short flat windows min some small near rule = kept (IsFlatShape layers structs) rules plan kit bit wire tracks f by reach to p short flat windows min some small near rule
