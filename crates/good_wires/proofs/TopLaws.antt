-- A wire on the fourth metal near a shape of a leaf instance stands in another memory too.
use Rattle.std.proofs.Common.{◌≡◌, inl, inr, ◌∙◌, ℕ, ◌≤◌, ℤ, pos, ◌+ℤ◌, ◌-ℤ◌, ◌*ℤ◌, ◌≤ℤ◌, ◌<ℤ◌, refl, sym, ap, subst, arith}
use Rattle.std.specs.Prelude.{slice_index}
use Rattle.std.specs.Int.{int_max, int_min}
use Rattle.std.proofs.lemmas.Bool.{cases_lt}
use Rattle.std.proofs.lemmas.Int.{ints, clamps}
use Rattle.or_geom.specs.declared.shape.Rect.{Rect}
use Rattle.or_geom.specs.declared.shape.Shape.{Shape}
use Rattle.or_geom.specs.Place.{placed, IsImage}
use Rattle.shape_bins.specs.Meets.{Overlap}
use Rattle.cell_roles.specs.declared.role.Role.{Role}
use Rattle.tech_rules.specs.declared.tech.Wire.{Wire}
use Rattle.wire_drawing.specs.Drawing.{IsBox}
use Rattle.tile_checker.specs.Breaks.{IsGrown}
use Rattle.sram_netlist.specs.Organization.{Organization}
use Rattle.sram_netlist.specs.Instances.{LeafInstance}
use Rattle.sram_netlist.specs.Netlist.{role}
use Rattle.sram_netlist.specs.BitCells.{BitCells}
use Rattle.macro_layout.specs.LayoutKit.{LayoutKit}
use Rattle.macro_layout.specs.Places.{Floorplan, leaf_cell}
use Rattle.macro_layout.specs.Floorplan.{Tracks}
use Rattle.local_report.specs.Moved as moved
use Rattle.local_report.proofs.MovedLaws.{moved_rect}
use Rattle.good_places.specs.Leaves.{Zone, zone_of, LiesNear, AreNearZones}
use Rattle.good_places.specs.Zones.{MovesNear}
use Rattle.good_places.specs.Beside.{moved_place, StandsMoved}
use Rattle.good_places.proofs.MoveLaws.{moved_image}
use Rattle.good_places.proofs.LaidLaws.{in_zone}
use Rattle.good_wires.specs.Drawn.{IsDrawnMemory, IsDrawnWire}
use Rattle.good_wires.specs.Branches.{IsPlacedPin}
use Rattle.good_wires.specs.Tops.{IsRailWireAt, IsTopBranch, IsOutputAt, HasTopWires}
use Rattle.good_wires.proofs.LevelLaws.{Levels, levels, Sides, sides}
use Rattle.good_wires.proofs.TapLaws.{pin_passes}
use Rattle.good_wires.proofs.ClearLaws.{ZoneKind, IsBankZone, write_high, column_high, banks_left}
use Rattle.good_wires.proofs.BranchLaws.{at_moved, end_moved}

-- what stands in the other memory for a wire: as far as the frame goes the same, moved
pub record HasCut (dx dy : ℤ) (frame : Rect) (IsWire : Shape → Type 0) (b : Shape) : Type 0 where
  pub image : Shape
  pub drawn : IsWire image
  pub layer : image.layer ≡ b.layer
  pub left : image.rect.x1 ≡ b.rect.x1 +ℤ dx
  pub right : image.rect.x2 ≡ b.rect.x2 +ℤ dx
  pub low : int_max (b.rect.y1 +ℤ dy) (frame.y1 +ℤ dy) ≡ int_max image.rect.y1 (frame.y1 +ℤ dy)
  pub high : int_min (b.rect.y2 +ℤ dy) (frame.y2 +ℤ dy) ≡ int_min image.rect.y2 (frame.y2 +ℤ dy)

edge_moved : (image there rect b e f d : ℤ) (n m : ℕ) → image ≡ f → there ≡ f +ℤ pos m → there ≡ rect +ℤ d → rect ≡ e +ℤ pos n → n ≡ m → b ≡ e → image ≡ b +ℤ d
edge_moved image there rect b e f d n m p q r s t u = omega (arith, ints, p, q, r, s, t, u)

-- both begin below the frame
far_down : (b image f y e a t v sp w mn d : ℤ) → b ≡ y → image ≡ t → f ≡ a -ℤ mn → e ≤ℤ a → (y +ℤ (sp +ℤ w)) ≤ℤ e → (t +ℤ (sp +ℤ w)) ≤ℤ v → v ≡ e +ℤ d → mn ≤ℤ sp → pos 1 ≤ℤ w → int_max (b +ℤ d) (f +ℤ d) ≡ int_max image (f +ℤ d)
far_down b image f y e a t v sp w mn d p q g le long far same small one = omega (arith, ints, clamps, p, q, g, le, long, far, same, small, one)

same_end : (image b f d : ℤ) → image ≡ b +ℤ d → int_min (b +ℤ d) (f +ℤ d) ≡ int_min image (f +ℤ d)
same_end image b f d e = ap (λ (z : ℤ). int_min z (f +ℤ d)) (sym e)

same_begin : (image b f d : ℤ) → image ≡ b +ℤ d → int_max (b +ℤ d) (f +ℤ d) ≡ int_max image (f +ℤ d)
same_begin image b f d e = ap (λ (z : ℤ). int_max z (f +ℤ d)) (sym e)

module _ (Met Out : Role → ℕ → Type 0) (drop : Role → ℕ) (plan other : Organization) (kit : LayoutKit) (bits : BitCells) (wire : Wire) (tracks many : Tracks) (f g : Floorplan) (m : IsDrawnMemory plan kit wire tracks f) (tops : HasTopWires Met Out drop plan kit wire tracks f) (others : HasTopWires Met Out drop other kit wire many g)
    (reach min dx dy : ℤ) (near z : Zone) (a frame : Rect) (moves : MovesNear reach plan f near other g kit bits dx dy) (some : pos 1 ≤ℤ min) (small : min ≤ℤ wire.space) (short : min ≤ℤ reach) (lies : LiesNear (pos 0) near a) (stands : LiesNear (pos 0) z a) (kind : ZoneKind plan kit wire tracks f m z) (grown : IsGrown min a frame) where
  l : Levels plan kit wire f
  l = levels plan kit wire tracks f m.laid.sizes m.stands

  s_of : Sides plan kit wire f
  s_of = sides plan kit wire tracks f m.laid.sizes m.stands

  -- rails are further away
  rail_beside : (n : ℕ) → IsBankZone plan kit wire tracks f m n z → (b : Shape) → IsRailWireAt plan kit wire f b → Overlap b.rect frame → ⊥
  rail_beside n i b r over =
      let ol = over.left in
      let or = over.right in
      let gl = grown.left in
      let gr = grown.right in
      let sl = stands.left in
      let sr = stands.right in
      let from = r.from in
      let to = r.to in
      let zl = i.left in
      let zr = i.right in
      let w = m.laid.sizes.width.from in
      elim (cases_lt n r.bank) [
        | inl lt ↦ let e = banks_left plan kit wire tracks f m n r.bank lt in omega (arith, ints, ol, gr, sr, from, zr, e, small, w)
        | inr ge ↦ let e = up r.bank n ge in omega (arith, ints, or, gl, sl, to, zl, e, small)
      ]
    where
      up : (b c : ℕ) → b ≤ c → (pos b *ℤ f.bank_width) ≤ℤ (pos c *ℤ f.bank_width)
      up b c le = elim (cases_lt b c) [
        | inl lt ↦ let e = banks_left plan kit wire tracks f m b c lt in let w = s_of.wide in omega (arith, ints, e, w)
        | inr ge ↦ let e : (pos b *ℤ f.bank_width) ≡ (pos c *ℤ f.bank_width) = ap (λ (j : ℕ). pos j *ℤ f.bank_width) (omega (arith, le, ge)) in omega (arith, ints, e)
      ]

  no_rail : (b : Shape) → IsRailWireAt plan kit wire f b → Overlap b.rect frame → ⊥
  no_rail b r over = elim kind [
    | inl upper ↦ rail_beside upper.0 upper.1 b r over
    | inr rest ↦ elim rest [
      | inl slices ↦ rail_beside slices.0 slices.1 b r over
      | inr row ↦
          let o = over.low in
          let gh = grown.high in
          let sh = stands.high in
          let p = row.1 in
          let low = r.low in
          omega (arith, ints, o, gh, sh, p, low, small)
    ]
  ]

  -- the shape doesn't stand below the channel that the branch leads into
  not_below : (b : Shape) (c : IsTopBranch Met drop plan kit wire f b) → Overlap b.rect frame → c.edge ≤ℤ a.y1
  not_below b c over =
      let o = over.low in
      let gh = grown.high in
      let sh = stands.high in
      let sl = stands.low in
      let bl = c.drawn.low in
      let h = column_high plan kit wire tracks f m in
      let w = write_high plan kit wire tracks f m in
      let ls = l.sense in
      let lc = l.channel in
      let sp = m.laid.sizes.space.from in
      elim c.kind [
        | inl write ↦
            let e = write.0 in
            let y = write.1 in
            elim kind [
              | inl upper ↦ let p = upper.2 in omega (arith, ints, sl, p, e, h)
              | inr rest ↦ elim rest [
                | inl slices ↦ let p = slices.2 in omega (arith, ints, sl, p, e)
                | inr row ↦ let p = row.1 in absurd (omega (arith, ints, o, gh, sh, bl, y, p, small))
              ]
            ]
        | inr column ↦
            let e = column.0 in
            let y = column.1 in
            elim kind [
              | inl upper ↦ let p = upper.2 in omega (arith, ints, sl, p, e)
              | inr rest ↦ elim rest [
                | inl slices ↦ let p = slices.3 in absurd (omega (arith, ints, o, gh, sh, bl, y, p, small))
                | inr row ↦ let p = row.1 in absurd (omega (arith, ints, o, gh, sh, bl, y, p, small, w, ls, lc, sp))
              ]
            ]
      ]

  pin_near : (M : Role → ℕ → Type 0) (leaf : LeafInstance) (rect : Rect) (p : IsPlacedPin M 3 plan kit f leaf rect) → LiesNear (pos 0) (zone_of plan kit f leaf p.place) rect
  pin_near M leaf rect p = in_zone plan kit wire f (pos 0) m.laid leaf p.place (record { layer = 0; rect = kit.pin (role plan leaf) p.port 3 }) (record { layer = 0; rect = rect }) p.has p.stands (pin_passes kit wire plan leaf p.port 3 m.pins) (record { layer = refl; image = p.image })

  -- so the pin's instance is near
  near_by : (zone : Zone) (rect box : Rect) (edge : ℤ) → LiesNear (pos 0) zone rect → zone.low ≤ℤ edge → edge ≤ℤ rect.y1 → edge ≤ℤ a.y2 → box.y2 ≤ℤ rect.y1 → rect.x2 ≡ rect.x1 +ℤ wire.width → box.x1 ≡ rect.x1 → box.x2 ≡ rect.x1 +ℤ wire.width → Overlap box frame → AreNearZones reach zone near
  near_by zone rect box edge n low under top high wide dl dr over =
      let tall = a.tall in
      let rtall = rect.tall in
      record {
        left = let nl = n.left in let ol = over.left in let gr = grown.right in let ir = lies.right in omega (arith, ints, nl, dl, ol, gr, ir, short);
        right = let nr = n.right in let or = over.right in let gl = grown.left in let il = lies.left in omega (arith, ints, nr, dr, or, gl, il, short, wide);
        low = let it = lies.high in omega (arith, ints, low, top, it, short, some);
        high = let ib = lies.low in let nt = n.high in let oh = over.high in let gl = grown.low in omega (arith, ints, ib, nt, oh, gl, high, rtall, short);
      }

  moved_pin : (M : Role → ℕ → Type 0) (leaf : LeafInstance) (rect : Rect) (p : IsPlacedPin M 3 plan kit f leaf rect) (s : StandsMoved other kit bits g dx dy (role plan leaf) (leaf_cell plan kit bits leaf) p.place) (r : Rect) → moved.IsMovedBy dx dy rect r → IsPlacedPin M 3 other kit g s.leaf r
  moved_pin M leaf rect p s r at = record {
    port = p.port;
    met = subst (λ (q : Role). M q p.port) (sym s.same_role) p.met;
    place = moved_place dx dy p.place;
    has = s.has;
    stands = s.stands;
    image = subst (λ (q : Role). IsImage (placed (moved_place dx dy p.place)) (kit.pin q p.port 3) r) (sym s.same_role) (moved_image dx dy p.place (kit.pin (role plan leaf) p.port 3) rect r p.image at);
  }

  under_pin : (y e : ℤ) (n : ℕ) → y ≡ e +ℤ pos n → e ≤ℤ y
  under_pin y e n is = omega (arith, ints, is)

  put : (b : Shape) (c : IsTopBranch Met drop plan kit wire f b) → c.edge ≤ℤ a.y1 → (leaf : LeafInstance) → role other leaf ≡ role plan c.leaf → (r : Rect) → moved.IsMovedBy dx dy c.rect r → (t : Shape) → IsDrawnWire other kit wire many g t → (y edge : ℤ) → r.y1 ≡ edge +ℤ pos (drop (role other leaf))
      → IsBox (slice_index wire.metals 3) r.x1 y (r.x1 +ℤ wire.width) edge t → (y +ℤ (wire.space +ℤ wire.width)) ≤ℤ edge → HasCut dx dy frame (IsDrawnWire other kit wire many g) b
  put b c low leaf same r at t is y edge on e long =
      let top : t.rect.y2 ≡ b.rect.y2 +ℤ dy = edge_moved t.rect.y2 r.y1 c.rect.y1 b.rect.y2 c.edge edge dy (drop (role plan c.leaf)) (drop (role other leaf)) e.high on at.y1 c.at (ap drop (sym same)) c.drawn.high in
      record {
        image = t;
        drawn = is;
        layer = e.on ∙ sym c.drawn.on;
        left = at_moved t.rect.x1 r.x1 c.rect.x1 b.rect.x1 dx e.left at.x1 c.drawn.left;
        right = end_moved t.rect.x2 r.x1 c.rect.x1 b.rect.x2 wire.width dx e.right at.x1 c.drawn.right;
        low = far_down b.rect.y1 t.rect.y1 frame.y1 c.y c.edge a.y1 y edge wire.space wire.width min dy c.drawn.low e.low grown.low low c.long long (sym e.high ∙ top ∙ ap (λ (q : ℤ). q +ℤ dy) c.drawn.high) small m.laid.sizes.width.from;
        high = same_end t.rect.y2 b.rect.y2 frame.y2 dy top;
      }

  put_out : (b : Shape) (c : IsOutputAt Out drop plan kit wire f b) → (leaf : LeafInstance) → role other leaf ≡ role plan c.leaf → (r : Rect) → moved.IsMovedBy dx dy c.rect r → (t : Shape) → IsDrawnWire other kit wire many g t → (edge : ℤ) → r.y1 ≡ edge +ℤ pos (drop (role other leaf))
      → IsBox (slice_index wire.metals 3) r.x1 edge (r.x1 +ℤ wire.width) r.y1 t → HasCut dx dy frame (IsDrawnWire other kit wire many g) b
  put_out b c leaf same r at t is edge on e = record {
    image = t;
    drawn = is;
    layer = e.on ∙ sym c.drawn.on;
    left = at_moved t.rect.x1 r.x1 c.rect.x1 b.rect.x1 dx e.left at.x1 c.drawn.left;
    right = end_moved t.rect.x2 r.x1 c.rect.x1 b.rect.x2 wire.width dx e.right at.x1 c.drawn.right;
    low = same_begin t.rect.y1 b.rect.y1 frame.y1 dy (edge_moved t.rect.y1 r.y1 c.rect.y1 b.rect.y1 c.edge edge dy (drop (role plan c.leaf)) (drop (role other leaf)) e.low on at.y1 c.at (ap drop (sym same)) c.drawn.low);
    high = same_end t.rect.y2 b.rect.y2 frame.y2 dy (at_moved t.rect.y2 r.y1 c.rect.y1 b.rect.y2 dy e.high at.y1 c.drawn.high);
  }

  up_from : (e y1 y2 : ℤ) → e ≤ℤ y1 → y1 <ℤ y2 → e ≤ℤ y2
  up_from e y1 y2 a b = omega (arith, ints, a, b)

  branch_moves : (b : Shape) (c : IsTopBranch Met drop plan kit wire f b) → Overlap b.rect frame → HasCut dx dy frame (IsDrawnWire other kit wire many g) b
  branch_moves b c over =
      let low = not_below b c over in
      let under = under_pin c.rect.y1 c.edge (drop (role plan c.leaf)) c.at in
      let n = near_by (zone_of plan kit f c.leaf c.pin.place) c.rect b.rect c.edge (pin_near Met c.leaf c.rect c.pin) c.zone under (up_from c.edge a.y1 a.y2 low a.tall) (subst (λ (q : ℤ). q ≤ℤ c.rect.y1) (sym c.drawn.high) under) (tops.wide c.leaf c.rect c.pin) c.drawn.left c.drawn.right over in
      let s = moves c.leaf c.pin.place c.pin.has c.pin.stands n in
      let r = moved_rect dx dy c.rect in
      let t = others.from s.leaf r.0 (moved_pin Met c.leaf c.rect c.pin s r.0 r.1) in
      put b c low s.leaf s.same_role r.0 r.1 t.0 t.1 t.2 t.3 t.4 t.5 t.6

  -- where an output reaches into the frame, its instance is near
  out_near : (b : Shape) (c : IsOutputAt Out drop plan kit wire f b) → Overlap b.rect frame → AreNearZones reach (zone_of plan kit f c.leaf c.pin.place) near
  out_near b c over = go (zone_of plan kit f c.leaf c.pin.place) c.rect (pin_near Out c.leaf c.rect c.pin) c.zone (tops.wide_out c.leaf c.rect c.pin) c.drawn.left c.drawn.right c.drawn.low c.drawn.high over where
    go : (zone : Zone) (rect : Rect) → LiesNear (pos 0) zone rect → zone.low ≤ℤ c.edge → rect.x2 ≡ rect.x1 +ℤ wire.width → b.rect.x1 ≡ rect.x1 → b.rect.x2 ≡ rect.x1 +ℤ wire.width → b.rect.y1 ≡ c.edge → b.rect.y2 ≡ rect.y1 → Overlap b.rect frame → AreNearZones reach zone near
    go zone rect n low wide dl dr db dh over =
        let tall = a.tall in
        let rtall = rect.tall in
        record {
          left = let nl = n.left in let ol = over.left in let gr = grown.right in let ir = lies.right in omega (arith, ints, nl, dl, ol, gr, ir, short);
          right = let nr = n.right in let or = over.right in let gl = grown.left in let il = lies.left in omega (arith, ints, nr, dr, or, gl, il, short, wide);
          low = let ob = over.low in let gh = grown.high in let it = lies.high in omega (arith, ints, low, db, ob, gh, it, short);
          high = let ib = lies.low in let nt = n.high in let oh = over.high in let gl = grown.low in omega (arith, ints, ib, nt, oh, gl, dh, rtall, short);
        }

  out_moves : (b : Shape) (c : IsOutputAt Out drop plan kit wire f b) → Overlap b.rect frame → HasCut dx dy frame (IsDrawnWire other kit wire many g) b
  out_moves b c over =
      let s = moves c.leaf c.pin.place c.pin.has c.pin.stands (out_near b c over) in
      let r = moved_rect dx dy c.rect in
      let t = others.from_out s.leaf r.0 (moved_pin Out c.leaf c.rect c.pin s r.0 r.1) in
      put_out b c s.leaf s.same_role r.0 r.1 t.0 t.1 t.2 t.3 t.4

  pub wire_moves : (b : Shape) → IsDrawnWire plan kit wire tracks f b → b.layer ≡ slice_index wire.metals 3 → Overlap b.rect frame → HasCut dx dy frame (IsDrawnWire other kit wire many g) b
  wire_moves b is on over = elim (tops.to b is on) [
    | inl rail ↦ absurd (no_rail b rail over)
    | inr rest ↦ elim rest [
      | inl c ↦ branch_moves b c over
      | inr c ↦ out_moves b c over
    ]
  ]
