-- The space rule of the second metal is kept where the small memories keep it.
use Rattle.std.proofs.Common.{◌≡◌, ◌⊎◌, inl, inr, ◌∙◌, ℕ, ℤ, pos, ◌+ℤ◌, ◌≤ℤ◌, List, refl, sym, ap, subst, arith}
use Rattle.std.specs.Prelude.{Contains, slice_index}
use Rattle.std.specs.Int.{int_max, int_min}
use Rattle.std.proofs.lemmas.Int.{ints, clamps}
use Rattle.or_geom.specs.declared.shape.Rect.{Rect}
use Rattle.or_geom.specs.declared.shape.Shape.{Shape}
use Rattle.shape_bins.specs.Meets.{Overlap}
use Rattle.tech_rules.specs.declared.tech.Rule.{Rule}
use Rattle.tech_rules.specs.declared.tech.Rule.TheVariants.{Space}
use Rattle.tech_rules.specs.declared.tech.Wire.{Wire}
use Rattle.tile_checker.specs.Breaks.{IsGrown, AreNear}
use Rattle.cell_hierarchy.specs.FlatSet.{IsFlatShape}
use Rattle.cell_builder.specs.Flat.{IsShapeTaken}
use Rattle.sram_netlist.specs.Organization.{Organization}
use Rattle.sram_netlist.specs.BitCells.{Alike}
use Rattle.macro_layout.specs.LayoutKit.{LayoutKit}
use Rattle.macro_layout.specs.Places.{Floorplan}
use Rattle.macro_layout.specs.Floorplan.{Tracks}
use Rattle.macro_layout.specs.Layout.{IsOfLeaf}
use Rattle.local_report.specs.Moved.{IsMovedBy, OverlapsMoved}
use Rattle.local_report.specs.Seen.{HasPartner}
use Rattle.local_report.specs.Alike.{HasImage}
use Rattle.local_report.specs.Local.{KeepsRule, IsSpaceSeen}
use Rattle.local_report.proofs.CleanLaws.{space_back}
use Rattle.local_report.proofs.SpaceLaws.{grown_rect}
use Rattle.good_places.specs.Leaves.{Zone, zone_of, ReachesNeighboursOnly, LiesNear}
use Rattle.good_places.specs.Seen.{AreCompared, IsMovedZone}
use Rattle.good_places.specs.Windows.{IsWindowOf, IsWrittenPlan}
use Rattle.leaf_shapes.specs.Outline.{IsWireLayer}
use Rattle.good_places.proofs.LaidLaws.{in_zone}
use Rattle.good_places.proofs.SeenLaws.{space_seen_with}
use Rattle.good_places.proofs.WindowLaws.{leaves_have_windows}
use Rattle.good_wires.specs.Drawn.{IsDrawnWire}
use Rattle.cell_roles.specs.declared.role.Role.{Role}
use Rattle.good_wires.specs.Branches.{HasBottomBranches}
use Rattle.good_wires.specs.Kept.{HasDrawnShapes, IsCleanBranched, IsAmong, SecondSpaceIsKept}
use Rattle.good_wires.proofs.SpacedLaws.{spaced_not_near}
use Rattle.good_wires.proofs.SecondLaws.{second_metal_is_spaced}
use Rattle.good_wires.proofs.BranchLaws.{HasBranch, wire_moves}
use Rattle.good_wires.proofs.ClearLaws.{zone_kind}

-- an image or a partner of a branch, as far as the frame goes
image_of : (dx dy : ℤ) (wire : Wire) (IsWire : Shape → Type 0) (to : List Shape) (there frame : Rect) (d : Shape) → HasBranch dx dy there wire IsWire d → frame.y2 ≡ there.y2 +ℤ dy → ((s : Shape) → IsWire s → s.layer ≡ d.layer → Contains to s) → HasImage frame dx dy to d
image_of dx dy wire IsWire to there frame d h e has = record {
  image = h.image;
  there = has h.image h.drawn h.layer;
  layer = h.layer;
  alike = record {
    left = ap (λ (z : ℤ). int_max z frame.x1) (sym h.left);
    low = ap (λ (z : ℤ). int_max z frame.y1) (sym h.low);
    right = ap (λ (z : ℤ). int_min z frame.x2) (sym h.right);
    high = beyond d.rect.y2 h.image.rect.y2 there.y2 frame.y2 dy h.high h.high_there e;
  };
} where
  beyond : (y z t f d : ℤ) → t ≤ℤ y → (t +ℤ d) ≤ℤ z → f ≡ t +ℤ d → int_min (y +ℤ d) f ≡ int_min z f
  beyond y z t f d a b e = omega (arith, ints, clamps, a, b, e)

partner_of : (dx dy ex ey : ℤ) (wire : Wire) (IsWire : Shape → Type 0) (from : List Shape) (frame : Rect) (d : Shape) → dx +ℤ ex ≡ pos 0 → dy +ℤ ey ≡ pos 0 → HasBranch ex ey frame wire IsWire d → ((s : Shape) → IsWire s → s.layer ≡ d.layer → Contains from s) → HasPartner frame dx dy from d
partner_of dx dy ex ey wire IsWire from frame d zx zy h has = record {
  partner = h.image;
  there = has h.image h.drawn h.layer;
  layer = h.layer;
  alike = record {
    left = ap (λ (z : ℤ). int_max z frame.x1) (back h.image.rect.x1 d.rect.x1 dx ex zx h.left);
    low = ap (λ (z : ℤ). int_max z frame.y1) (back h.image.rect.y1 d.rect.y1 dy ey zy h.low);
    right = ap (λ (z : ℤ). int_min z frame.x2) (back h.image.rect.x2 d.rect.x2 dx ex zx h.right);
    high = beyond d.rect.y2 h.image.rect.y2 frame.y2 dy ey h.high h.high_there zy;
  };
} where
  back : (p q d e : ℤ) → d +ℤ e ≡ pos 0 → p ≡ q +ℤ e → p +ℤ d ≡ q
  back p q d e z is = omega (arith, ints, z, is)

  beyond : (y z f d e : ℤ) → f ≤ℤ y → (f +ℤ e) ≤ℤ z → d +ℤ e ≡ pos 0 → int_min (z +ℤ d) f ≡ int_min y f
  beyond y z f d e a b s = omega (arith, ints, clamps, a, b, s)

module _ (Met : Role → ℕ → Type 0) (Flat : List ℕ → Shape → Type 0) (rules : List Rule) (plan : Organization) (kit : LayoutKit) (bit : List ℕ) (wire : Wire) (tracks : Tracks) (f : Floorplan) (by reach : ℤ) (to : List Shape) (p : IsWrittenPlan plan) (short : ReachesNeighboursOnly kit wire reach) (over : pos 0 ≤ℤ by)
    (flat : HasDrawnShapes Flat plan kit (Alike bit) wire tracks f by to) (branches : HasBottomBranches Met plan kit wire tracks f) (listed : Contains wire.metals (slice_index wire.metals 1)) (windows : (other : Organization) → IsWindowOf plan other → IsCleanBranched Met Flat rules other kit (Alike bit) wire by)
    (min : ℤ) (some : pos 1 ≤ℤ min) (small : min ≤ℤ wire.space) (near : (min +ℤ (by +ℤ by)) ≤ℤ reach) where
  abbrev metal : ℕ
  metal = slice_index wire.metals 1

  of_wires : IsWireLayer wire metal
  of_wires = inl listed

  min_short : min ≤ℤ reach
  min_short = omega (arith, ints, near, over)

  inside : (other : Organization) (many : Tracks) (g : Floorplan) (shapes : List Shape) (h : HasDrawnShapes Flat other kit (Alike bit) wire many g by shapes) (a : Shape) → a.layer ≡ metal → (o : IsOfLeaf other kit (Alike bit) g IsShapeTaken Flat a) → LiesNear (pos 0) (zone_of other kit g o.leaf o.place) a.rect
  inside other many g shapes h a on o =
      in_zone other kit wire g (pos 0) h.drawn.laid o.leaf o.place o.taken.inner a o.has o.stands (h.inside o.leaf o.taken.inner o.has o.taken.has (subst (IsWireLayer wire) (sym on ∙ o.taken.moved.layer) of_wires)) o.taken.moved

  overlaps_there : (dx dy : ℤ) (a image frame there b : Rect) → IsMovedBy dx dy image a → IsGrown min a frame → IsGrown min image there → OverlapsMoved frame dx dy b → Overlap b there
  overlaps_there dx dy a image frame there b at g h over = record {
    left = let o = over.right in let e = at.x2 in let p = g.right in let q = h.right in omega (arith, ints, o, e, p, q);
    right = let o = over.left in let e = at.x1 in let p = g.left in let q = h.left in omega (arith, ints, o, e, p, q);
    low = let o = over.high in let e = at.y2 in let p = g.high in let q = h.high in omega (arith, ints, o, e, p, q);
    high = let o = over.low in let e = at.y1 in let p = g.low in let q = h.low in omega (arith, ints, o, e, p, q);
  }

  frame_top : (dx dy : ℤ) (a image frame there : Rect) → IsMovedBy dx dy image a → IsGrown min a frame → IsGrown min image there → frame.y2 ≡ there.y2 +ℤ dy
  frame_top dx dy a image frame there at g h = let e = at.y2 in let p = g.high in let q = h.high in omega (arith, ints, e, p, q)

  lies_moved : (dx dy : ℤ) (here there : Zone) (a image : Rect) → IsMovedZone dx dy there here → IsMovedBy dx dy image a → LiesNear (pos 0) here a → LiesNear (pos 0) there image
  lies_moved dx dy here there a image s at i = record {
    left = let e = at.x1 in let p = i.left in let q = s.left in omega (arith, ints, e, p, q);
    right = let e = at.x2 in let p = i.right in let q = s.right in omega (arith, ints, e, p, q);
    low = let e = at.y1 in let p = i.low in let q = s.low in omega (arith, ints, e, p, q);
    high = let e = at.y2 in let p = i.high in let q = s.high in omega (arith, ints, e, p, q);
  }

  seen : (a b : Shape) → a.layer ≡ metal → b.layer ≡ metal → IsOfLeaf plan kit (Alike bit) f IsShapeTaken Flat a → Contains to b → AreNear min a.rect b.rect → IsSpaceSeen rules min to a b
  seen a b on at o shape close =
      let w = leaves_have_windows plan kit bit wire f reach p flat.drawn.laid short o.leaf o.place o.has o.stands in
      let both = windows w.other w.is in
      let c = both.drawing in
      let z = w.there c.floorplan c.flat.drawn.laid in
      let own : IsWireLayer wire a.layer = subst (IsWireLayer wire) (sym on) of_wires in
      let lies = inside plan tracks f to flat a on o in
      let compared : AreCompared Flat rules plan w.other kit (Alike bit) f c.floorplan wire by reach (zone_of plan kit f o.leaf o.place) z.0 c.shapes =
      record { laid = flat.drawn.laid; laid_there = c.flat.drawn.laid; clean = c.clean; alike = z.1; passes = flat.passes; passes_there = c.flat.passes } in
      space_seen_with Flat rules plan w.other kit (Alike bit) f c.floorplan wire by reach (zone_of plan kit f o.leaf o.place) z.0 c.shapes to compared (IsDrawnWire w.other kit wire c.tracks c.floorplan) (IsDrawnWire plan kit wire tracks f) min a b some near (at ∙ sym on)
      (c.flat.has a.layer own) (flat.has a.layer own)
      (λ h moved frame grown.
      let there = grown_rect min h.moved.0.rect some in
      record {
        onto = λ d wired layer reaches.
            image_of z.1.right z.1.up wire (IsDrawnWire plan kit wire tracks f) to there.0 frame d
            (wire_moves Met w.other plan kit (Alike bit) wire c.tracks tracks c.floorplan f c.flat.drawn both.branches branches reach min z.1.right z.1.up z.0 (zone_of w.other kit c.floorplan h.of.leaf h.of.place) h.moved.0.rect there.0 z.1.to some small min_short
            (lies_moved z.1.right z.1.up (zone_of plan kit f o.leaf o.place) z.0 a.rect h.moved.0.rect z.1.same moved lies) (inside w.other c.tracks c.floorplan c.shapes c.flat h.moved.0 (h.moved.1 ∙ on) h.of)
            (zone_kind w.other kit wire c.tracks c.floorplan c.flat.drawn h.of.leaf h.of.place h.of.has h.of.stands) there.1 d wired (layer ∙ on) both.branches.wide (overlaps_there z.1.right z.1.up a.rect h.moved.0.rect frame there.0 d.rect moved grown there.1 reaches))
            (frame_top z.1.right z.1.up a.rect h.moved.0.rect frame there.0 moved grown there.1) (λ s is same. (flat.has a.layer own s (same ∙ layer)).1 (inl is));
        off = λ d wired layer reaches.
            partner_of z.1.right z.1.up z.1.left z.1.down wire (IsDrawnWire w.other kit wire c.tracks c.floorplan) c.shapes frame d z.1.back_x z.1.back_y
            (wire_moves Met plan w.other kit (Alike bit) wire tracks c.tracks f c.floorplan flat.drawn branches both.branches reach min z.1.left z.1.down (zone_of plan kit f o.leaf o.place) (zone_of plan kit f o.leaf o.place) a.rect frame z.1.from some small min_short lies lies
            (zone_kind plan kit wire tracks f flat.drawn o.leaf o.place o.has o.stands) grown d wired (layer ∙ on) branches.wide reaches)
            (λ s is same. (c.flat.has a.layer own s (same ∙ layer)).1 (inl is));
      })
      (record { of = o; zone = refl }) shape close

  both_on : (m n : ℕ) → ((m ≡ metal) × (n ≡ metal)) ⊎ ((m ≡ metal) × (n ≡ metal)) → (m ≡ metal) × (n ≡ metal)
  both_on m n (inl e) = e
  both_on m n (inr e) = e

  pub kept : KeepsRule rules to (Space metal metal min)
  kept a b here there broken =
      let on = both_on a.layer b.layer broken.on in
      elim ((flat.has metal of_wires a on.0).0 here) [
        | inr leaf ↦ inl (seen a b on.0 on.1 leaf there broken.near)
        | inl wired ↦ elim ((flat.has metal of_wires b on.1).0 there) [
          | inr leaf ↦ inr (seen b a on.1 on.0 leaf here (space_back metal metal min to a b broken).near)
          | inl other ↦ absurd (spaced_not_near min wire.space a.rect b.rect some small (second_metal_is_spaced plan kit wire tracks f flat.drawn a b wired other on.0 on.1) broken.near)
        ]
      ]

pub second_space_is_kept : SecondSpaceIsKept
second_space_is_kept ports layers structs rules plan kit bit wire tracks f by reach to p short over flat branches listed windows min some small near = kept (IsAmong ports) (IsFlatShape layers structs) rules plan kit bit wire tracks f by reach to p short over flat branches listed windows min some small near
