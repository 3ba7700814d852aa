-- A branch on the second metal near a shape of a leaf instance stands in another memory too.
use Rattle.std.proofs.Common.{◌≡◌, inl, inr, ◌∙◌, ℕ, ℤ, pos, ◌+ℤ◌, ◌*ℤ◌, ◌≤ℤ◌, ◌<ℤ◌, refl, sym, subst, arith}
use Rattle.std.specs.Prelude.{slice_index}
use Rattle.std.specs.Int.{int_max}
use Rattle.std.proofs.lemmas.Int.{ints, clamps}
use Rattle.or_geom.specs.declared.shape.Rect.{Rect}
use Rattle.or_geom.specs.declared.shape.Shape.{Shape}
use Rattle.or_geom.specs.Place.{placed, IsImage}
use Rattle.shape_bins.specs.Meets.{Overlap}
use Rattle.cell_roles.specs.declared.role.Role.{Role}
use Rattle.tech_rules.specs.declared.tech.Wire.{Wire}
use Rattle.wire_drawing.specs.Drawing.{IsBox}
use Rattle.tile_checker.specs.Breaks.{IsGrown}
use Rattle.sram_netlist.specs.Organization.{Organization, banks_of}
use Rattle.sram_netlist.specs.Instances.{LeafInstance}
use Rattle.sram_netlist.specs.Netlist.{role}
use Rattle.sram_netlist.specs.BitCells.{BitCells}
use Rattle.macro_layout.specs.LayoutKit.{LayoutKit}
use Rattle.macro_layout.specs.Places.{Floorplan, leaf_cell}
use Rattle.macro_layout.specs.Floorplan.{Tracks}
use Rattle.macro_layout.specs.Wires.{trunk_x}
use Rattle.local_report.specs.Moved as moved
use Rattle.local_report.proofs.MovedLaws.{moved_rect}
use Rattle.good_places.specs.Leaves.{Zone, zone_of, LiesNear, AreNearZones}
use Rattle.good_places.specs.Zones.{MovesNear}
use Rattle.good_places.specs.Beside.{moved_place, StandsMoved}
use Rattle.good_places.proofs.MoveLaws.{moved_image}
use Rattle.good_places.proofs.LaidLaws.{in_zone}
use Rattle.good_wires.specs.Drawn.{IsDrawnMemory, IsDrawnWire}
use Rattle.good_wires.specs.Branches.{IsPlacedPin, IsBottomBranch, HasBottomBranches}
use Rattle.good_wires.proofs.LevelLaws.{Levels, levels}
use Rattle.good_wires.proofs.TapLaws.{pin_passes}
use Rattle.good_wires.proofs.ClearLaws.{ZoneKind, IsBankZone, write_high, column_high, banks_left}

-- what stands in the other memory for a branch: as far as the frame goes the same, moved
pub record HasBranch (dx dy : ℤ) (frame : Rect) (wire : Wire) (IsWire : Shape → Type 0) (b : Shape) : Type 0 where
  pub image : Shape
  pub drawn : IsWire image
  pub layer : image.layer ≡ b.layer
  pub left : image.rect.x1 ≡ b.rect.x1 +ℤ dx
  pub right : image.rect.x2 ≡ b.rect.x2 +ℤ dx
  pub low : image.rect.y1 ≡ b.rect.y1 +ℤ dy
  pub high : frame.y2 ≤ℤ b.rect.y2
  pub high_there : (frame.y2 +ℤ dy) ≤ℤ image.rect.y2

no_room : (x fx ax zr q nq all lx sp mn : ℤ) → (int_max all lx +ℤ sp) ≤ℤ x → x <ℤ fx → fx ≡ ax +ℤ mn → ax ≤ℤ (zr +ℤ pos 0) → mn ≤ℤ sp → zr ≤ℤ (q +ℤ nq) → (nq +ℤ q) ≤ℤ all → ⊥
no_room x fx ax zr q nq all lx sp mn le o gr s small r e = omega (arith, ints, clamps, le, o, gr, s, small, r, e)

pub at_moved : (image there rect b d : ℤ) → image ≡ there → there ≡ rect +ℤ d → b ≡ rect → image ≡ b +ℤ d
at_moved image there rect b d p q r = omega (arith, ints, p, q, r)

pub end_moved : (image there rect b w d : ℤ) → image ≡ there +ℤ w → there ≡ rect +ℤ d → b ≡ rect +ℤ w → image ≡ b +ℤ d
end_moved image there rect b w d p q r = omega (arith, ints, p, q, r)

far_up : (frame top low y sp w mn : ℤ) → frame ≡ top +ℤ mn → top ≤ℤ low → (low +ℤ (sp +ℤ w)) ≤ℤ y → mn ≤ℤ sp → pos 1 ≤ℤ w → frame ≤ℤ y
far_up frame top low y sp w mn e a b c d = omega (arith, ints, e, a, b, c, d)

far_up_moved : (frame top low there y sp w mn d : ℤ) → frame ≡ top +ℤ mn → top ≤ℤ low → there ≡ low +ℤ d → (there +ℤ (sp +ℤ w)) ≤ℤ y → mn ≤ℤ sp → pos 1 ≤ℤ w → (frame +ℤ d) ≤ℤ y
far_up_moved frame top low there y sp w mn d e a m b c o = omega (arith, ints, e, a, m, b, c, o)

module _ (Met : Role → ℕ → Type 0) (plan other : Organization) (kit : LayoutKit) (bits : BitCells) (wire : Wire) (tracks many : Tracks) (f g : Floorplan) (m : IsDrawnMemory plan kit wire tracks f) (branches : HasBottomBranches Met plan kit wire tracks f) (others : HasBottomBranches Met other kit wire many g) (reach min dx dy : ℤ)
    (near z : Zone) (a frame : Rect) (moves : MovesNear reach plan f near other g kit bits dx dy) (some : pos 1 ≤ℤ min) (small : min ≤ℤ wire.space) (short : min ≤ℤ reach) (lies : LiesNear (pos 0) near a) (stands : LiesNear (pos 0) z a) (kind : ZoneKind plan kit wire tracks f m z) (grown : IsGrown min a frame) where
  l : Levels plan kit wire f
  l = levels plan kit wire tracks f m.laid.sizes m.stands

  -- trunks of the supplies are further away
  no_trunk : (b : Shape) → trunk_x plan kit wire f ≤ℤ b.rect.x1 → Overlap b.rect frame → ⊥
  no_trunk b le over =
      let o = over.left in
      let gr = grown.right in
      let s = stands.right in
      elim kind [
        | inl upper ↦ bank upper.0 upper.1
        | inr rest ↦ elim rest [
          | inl slices ↦ bank slices.0 slices.1
          | inr logic ↦ let r = logic.2 in omega (arith, ints, le, o, gr, s, small, r)
        ]
      ]
    where
      bank : (n : ℕ) → IsBankZone plan kit wire tracks f m n z → ⊥
      bank n i =
          let o = over.left in
          let gr = grown.right in
          let s = stands.right in
          let r = i.right in
          let e = banks_left plan kit wire tracks f m n (banks_of plan) i.below in
          no_room b.rect.x1 frame.x2 a.x2 z.right f.bank_width (pos n *ℤ f.bank_width) (pos (banks_of plan) *ℤ f.bank_width) _ wire.space min le o gr s small r e

  -- the shape doesn't stand above the channel that the branch leads into
  not_above : (b : Shape) (c : IsBottomBranch Met plan kit wire f b) → Overlap b.rect frame → a.y2 ≤ℤ c.rect.y2
  not_above b c over =
      let o = over.high in
      let gl = grown.low in
      let sl = stands.low in
      let sh = stands.high in
      let bh = c.drawn.high in
      let w = write_high plan kit wire tracks f m in
      let h = column_high plan kit wire tracks f m in
      let ls = l.sense in
      let lc = l.channel in
      let sp = m.laid.sizes.space.from in
      elim c.kind [
        | inl logic ↦
            let e = logic.0 in
            let y = logic.1 in
            elim kind [
              | inl upper ↦ let p = upper.2 in absurd (omega (arith, ints, o, gl, sl, bh, y, p, h, small))
              | inr rest ↦ elim rest [
                | inl slices ↦ let p = slices.2 in absurd (omega (arith, ints, o, gl, sl, bh, y, p, small))
                | inr row ↦ let p = row.1 in omega (arith, ints, sh, p, e)
              ]
            ]
        | inr slice ↦
            let e = slice.0 in
            let y = slice.1 in
            elim kind [
              | inl upper ↦ let p = upper.2 in absurd (omega (arith, ints, o, gl, sl, bh, y, p, small))
              | inr rest ↦ elim rest [
                | inl slices ↦ let p = slices.3 in omega (arith, ints, sh, p, e)
                | inr row ↦ let p = row.1 in omega (arith, ints, sh, p, e, w, ls, lc, sp)
              ]
            ]
      ]

  pin_near : (leaf : LeafInstance) (rect : Rect) (p : IsPlacedPin Met 1 plan kit f leaf rect) → LiesNear (pos 0) (zone_of plan kit f leaf p.place) rect
  pin_near leaf rect p = in_zone plan kit wire f (pos 0) m.laid leaf p.place (record { layer = 0; rect = kit.pin (role plan leaf) p.port 1 }) (record { layer = 0; rect = rect }) p.has p.stands (pin_passes kit wire plan leaf p.port 1 m.pins) (record { layer = refl; image = p.image })

  felt : (b : Shape) (c : IsBottomBranch Met plan kit wire f b) → c.rect.x2 ≡ c.rect.x1 +ℤ wire.width → Overlap b.rect frame → AreNearZones reach (zone_of plan kit f c.leaf c.pin.place) near
  felt b c wide over =
      let n = pin_near c.leaf c.rect c.pin in
      let top = not_above b c over in
      near_by (zone_of plan kit f c.leaf c.pin.place) c.rect b.rect n top wide c.drawn.left c.drawn.right c.drawn.low over
    where
      near_by : (zone : Zone) (rect box : Rect) → LiesNear (pos 0) zone rect → a.y2 ≤ℤ rect.y2 → rect.x2 ≡ rect.x1 +ℤ wire.width → box.x1 ≡ rect.x1 → box.x2 ≡ rect.x1 +ℤ wire.width → box.y1 ≡ rect.y2 → Overlap box frame → AreNearZones reach zone near
      near_by zone rect box n top wide dl dr db over =
          let tall = a.tall in
          let rtall = rect.tall in
          record {
            left = let nl = n.left in let ol = over.left in let gr = grown.right in let ir = lies.right in omega (arith, ints, nl, dl, ol, gr, ir, short);
            right = let nr = n.right in let or = over.right in let gl = grown.left in let il = lies.left in omega (arith, ints, nr, dr, or, gl, il, short, wide);
            low = let nb = n.low in let ob = over.low in let gh = grown.high in let it = lies.high in omega (arith, ints, nb, rtall, db, ob, gh, it, short);
            high = let ib = lies.low in let nt = n.high in omega (arith, ints, ib, tall, top, nt, short, some);
          }

  -- the pin where the instance stands in the other memory
  moved_pin : (leaf : LeafInstance) (rect : Rect) (p : IsPlacedPin Met 1 plan kit f leaf rect) (s : StandsMoved other kit bits g dx dy (role plan leaf) (leaf_cell plan kit bits leaf) p.place) (r : Rect) → moved.IsMovedBy dx dy rect r → IsPlacedPin Met 1 other kit g s.leaf r
  moved_pin leaf rect p s r at = record {
    port = p.port;
    met = subst (λ (q : Role). Met q p.port) (sym s.same_role) p.met;
    place = moved_place dx dy p.place;
    has = s.has;
    stands = s.stands;
    image = subst (λ (q : Role). IsImage (placed (moved_place dx dy p.place)) (kit.pin q p.port 1) r) (sym s.same_role) (moved_image dx dy p.place (kit.pin (role plan leaf) p.port 1) rect r p.image at);
  }

  put : (b : Shape) (c : IsBottomBranch Met plan kit wire f b) → a.y2 ≤ℤ c.rect.y2 → (r : Rect) → moved.IsMovedBy dx dy c.rect r → (t : Shape) → IsDrawnWire other kit wire many g t → (y : ℤ) → IsBox (slice_index wire.metals 1) r.x1 r.y2 (r.x1 +ℤ wire.width) y t → (r.y2 +ℤ (wire.space +ℤ wire.width)) ≤ℤ y
      → HasBranch dx dy frame wire (IsDrawnWire other kit wire many g) b
  put b c top r at t is y e long = record {
    image = t;
    drawn = is;
    layer = e.on ∙ sym c.drawn.on;
    left = at_moved t.rect.x1 r.x1 c.rect.x1 b.rect.x1 dx e.left at.x1 c.drawn.left;
    right = end_moved t.rect.x2 r.x1 c.rect.x1 b.rect.x2 wire.width dx e.right at.x1 c.drawn.right;
    low = at_moved t.rect.y1 r.y2 c.rect.y2 b.rect.y1 dy e.low at.y2 c.drawn.low;
    high = subst (λ (q : ℤ). frame.y2 ≤ℤ q) (sym c.drawn.high) (far_up frame.y2 a.y2 c.rect.y2 c.y wire.space wire.width min grown.high top c.long small m.laid.sizes.width.from);
    high_there = subst (λ (q : ℤ). (frame.y2 +ℤ dy) ≤ℤ q) (sym e.high) (far_up_moved frame.y2 a.y2 c.rect.y2 r.y2 y wire.space wire.width min dy grown.high top at.y2 long small m.laid.sizes.width.from);
  }

  branch_moves : (b : Shape) (c : IsBottomBranch Met plan kit wire f b) → c.rect.x2 ≡ c.rect.x1 +ℤ wire.width → Overlap b.rect frame → HasBranch dx dy frame wire (IsDrawnWire other kit wire many g) b
  branch_moves b c wide over =
      let s = moves c.leaf c.pin.place c.pin.has c.pin.stands (felt b c wide over) in
      let r = moved_rect dx dy c.rect in
      let t = others.from s.leaf r.0 (moved_pin c.leaf c.rect c.pin s r.0 r.1) in
      put b c (not_above b c over) r.0 r.1 t.0 t.1 t.2 t.3 t.4

  pub wire_moves : (b : Shape) → IsDrawnWire plan kit wire tracks f b → b.layer ≡ slice_index wire.metals 1 → ((leaf : LeafInstance) (rect : Rect) → IsPlacedPin Met 1 plan kit f leaf rect → rect.x2 ≡ rect.x1 +ℤ wire.width) → Overlap b.rect frame → HasBranch dx dy frame wire (IsDrawnWire other kit wire many g) b
  wire_moves b is on wide over = elim (branches.to b is on) [
    | inl trunk ↦ absurd (no_trunk b trunk over)
    | inr c ↦ branch_moves b c (wide c.leaf c.rect c.pin) over
  ]
