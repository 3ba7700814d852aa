-- The wires of the fourth metal are the branches of the ports above channels, those over write cells, and rails.
use Rattle.std.proofs.Common.{◌≡◌, ◌⊎◌, inl, inr, ◌∙◌, ℕ, zero, suc, ◌*◌, ◌<◌, ℤ, pos, ◌+ℤ◌, ◌*ℤ◌, ◌≤ℤ◌, Some, refl, sym, ap, subst, arith}
use Rattle.std.specs.Prelude.{slice_get, slice_index}
use Rattle.std.proofs.lemmas.Int.{ints}
use Rattle.or_geom.specs.declared.shape.Rect.{Rect}
use Rattle.or_geom.specs.declared.shape.Shape.{Shape}
use Rattle.or_geom.specs.declared.place.Place.{Place}
use Rattle.or_geom.specs.Place.{placed, IsImage}
use Rattle.cell_roles.specs.declared.role.Role.{Role}
use Rattle.cell_roles.specs.declared.role.Role.TheVariants.{Sense, Write, Mux, Tie, Inv}
use Rattle.tech_rules.specs.declared.tech.Wire.{Wire}
use Rattle.wire_drawing.specs.Drawing.{IsBox}
use Rattle.channel_router.specs.Wires.{IsOfNet, IsWireOf, channel_height, track_y}
use Rattle.sram_netlist.specs.Organization.{Organization, IsBuildable, banks_of, words_per_row}
use Rattle.sram_netlist.specs.Nets.{Net}
use Rattle.sram_netlist.specs.Instances.{WriteAt, SenseAt, MuxAt, TieAt}
use Rattle.sram_netlist.specs.Netlist.{enables_of, mask_of}
use Rattle.macro_layout.specs.LayoutKit.{LayoutKit}
use Rattle.macro_layout.specs.Places.{Floorplan, bank_x, column_x, upright}
use Rattle.macro_layout.specs.Floorplan.{Tracks, column_channel_y}
use Rattle.macro_layout.specs.Cells.{column_leaf}
use Rattle.macro_layout.specs.Pins.{column_nets}
use Rattle.macro_layout.specs.Channels.{IsColumnChannel, IsMainChannel, IsPinFrom, MeetsMainTop}
use Rattle.macro_layout.specs.Wires.{IsBar, IsWireInBank, IsOutputWire}
use Rattle.macro_layout.specs.Stated.{IsShifted}
use Rattle.sram_macro.specs.Stated.{TakesTracks}
use Rattle.good_wires.specs.Drawn.{IsDrawnMemory, IsDrawnWire}
use Rattle.good_wires.specs.Tops.{IsRailWireAt, IsTopBranch, IsOutputAt, HasTopWires}
use Rattle.good_wires.specs.Kept.{IsAmong}
use Rattle.good_wires.proofs.LayerLaws.{metals_differ, cut_no_metal}
use Rattle.good_wires.proofs.LevelLaws.{Levels, levels, sides, track_above, track_below, IsRailAt, rail_at}
use Rattle.good_wires.proofs.ClearLaws.{write_high}
use Rattle.good_wires.proofs.FourthLaws.{rail_in}
use Rattle.drawn_memories.specs.Ports.{ports_above, ports_over, drop_of}
use Rattle.drawn_memories.proofs.PortLaws.{IsLowerPin, write_listed, sense_listed, mux_listed, tie_listed, over_listed}
use Rattle.drawn_memories.proofs.StandLaws.{zero_times, image_there, box_shifted, box_as}
use Rattle.drawn_memories.proofs.TopPortLaws.{mux_port, tie_port, IsLowerAt, stands_lower, sense_stands, main_top, column_reaches, long_by, none_more, moves, wide_to}
use Rattle.drawn_memories.proofs.TopBranchLaws.{HasItsBranch, HasItsOutput, all_wide, as_above, each_has, each_output}

module _ (plan : Organization) (kit : LayoutKit) (wire : Wire) (tracks : Tracks) (f : Floorplan) (m : IsDrawnMemory plan kit wire tracks f) (built : IsBuildable plan)
    (main : TakesTracks (IsMainChannel plan kit wire f) wire tracks.main) (column : TakesTracks (IsColumnChannel plan kit wire f) wire tracks.column) (lower : (r : Role) (port : ℕ) → IsAmong ports_above r port → IsLowerPin kit wire r port) where
  abbrev Met : Role → ℕ → Type 0
  Met = IsAmong ports_above

  abbrev Out : Role → ℕ → Type 0
  Out = IsAmong ports_over

  abbrev metal : ℕ → ℕ
  metal k = slice_index wire.metals k

  abbrev offset : ℕ → ℤ
  offset b = pos b *ℤ f.bank_width

  l : Levels plan kit wire f
  l = levels plan kit wire tracks f m.laid.sizes m.stands

  lower_at : (rect : Rect) (x y : ℤ) (r : Role) (port : ℕ) → IsAmong ports_above r port → IsImage (placed (upright x y)) (kit.pin r port 3) rect → IsLowerAt kit wire rect x y r port
  lower_at = stands_lower kit wire lower

  sense_over : f.sense_y ≡ f.write_y +ℤ pos (kit.height Write)
  sense_over = sense_stands plan kit wire tracks f m

  column_top : (low : ℤ) → low ≡ column_channel_y kit f → low +ℤ channel_height wire tracks.column ≡ f.column_y
  column_top = column_reaches plan kit wire tracks f m

  abbrev slice_at : ℕ → ℕ → ℤ
  slice_at b i = bank_x f b (column_x plan kit f (i * words_per_row plan))

  -- Each wire is one of these, or a rail's.

  no_metal : (k n : ℕ) → k < 3 → n ≡ metal k → n ≡ metal 3 → ⊥
  no_metal k n lt e z = metals_differ wire k 3 m.seven (omega (arith, lt)) (omega arith) (λ q. omega (arith, q, lt)) (sym e ∙ z)

  no_cut : (k n : ℕ) → k < 3 → n ≡ slice_index wire.cuts k → n ≡ metal 3 → ⊥
  no_cut k n lt e z = cut_no_metal wire k 3 m.seven lt (omega arith) (sym e ∙ z)

  abbrev Kind : Shape → Type 0
  Kind s = IsRailWireAt plan kit wire f s ⊎ (IsTopBranch Met (drop_of kit) plan kit wire f s ⊎ IsOutputAt Out (drop_of kit) plan kit wire f s)

  rail_wire : (b : ℕ) (x low y : ℤ) (s : Shape) → IsRailAt wire f b x → IsBox (metal 3) x low (x +ℤ wire.width) y s → (pos (kit.height Inv) +ℤ wire.space) ≤ℤ low → IsRailWireAt plan kit wire f s
  rail_wire b x low y s r box over = record {
    bank = b;
    from = let a = r.from in let e = box.left in omega (arith, ints, a, e);
    to = let a = r.to in let e = box.right in omega (arith, ints, a, e);
    low = let e = box.low in omega (arith, ints, over, e);
  }

  main_kind : (s : Shape) → s.layer ≡ metal 3 → (net : ℕ) → IsOfNet m.main.channel wire m.main.intervals m.main.track tracks.main net s → Kind s
  main_kind s on number is = by is.wires where
    y : ℤ
    y = track_y m.main.channel.low wire is.t

    over : (pos (kit.height Inv) +ℤ wire.space) ≤ℤ track_y m.main.channel.low wire is.t
    over = subst (λ (z : ℤ). (z +ℤ wire.space) ≤ℤ track_y m.main.channel.low wire is.t) m.main.meant.low (track_above m.main.channel.low wire is.t m.laid.sizes)

    top : m.main.channel.low +ℤ channel_height wire tracks.main ≡ f.write_y
    top = main_top kit wire m.main.channel.low f.write_y tracks.main m.main.meant.low m.stands.write_y

    long : (track_y m.main.channel.low wire is.t +ℤ (wire.space +ℤ wire.width)) ≤ℤ f.write_y
    long = long_by (track_y m.main.channel.low wire is.t) wire.width wire.space (m.main.channel.low +ℤ channel_height wire tracks.main) f.write_y (track_below m.main.channel.low (m.main.channel.low +ℤ channel_height wire tracks.main) wire is.t tracks.main m.laid.sizes (m.main.count.below number is.t is.has.on) refl) top

    box_to : (x u : ℤ) → x ≡ u → IsBox (metal 3) x (track_y m.main.channel.low wire is.t) (x +ℤ wire.width) (m.main.channel.low +ℤ channel_height wire tracks.main) s → IsBox (metal 3) u (track_y m.main.channel.low wire is.t) (u +ℤ wire.width) f.write_y s
    box_to x u e box = box_as (metal 3) _ _ _ _ u (track_y m.main.channel.low wire is.t) (u +ℤ wire.width) f.write_y s e refl (ap (λ (z : ℤ). z +ℤ wire.width) e) top box

    written : (b i port : ℕ) (net : Net) (x : ℤ) → (port ≡ 0) ⊎ (port ≡ 3) → IsPinFrom plan kit f (WriteAt b i) port 3 net x → IsBox (metal 3) x (track_y m.main.channel.low wire is.t) (x +ℤ wire.width) (m.main.channel.low +ℤ channel_height wire tracks.main) s → Kind s
    written b i port net x which p box =
        let met = write_listed port which in
        let u = lower_at p.rect (slice_at b i) f.write_y Write port met (subst (λ (q : Place). IsImage (placed q) (kit.pin Write port 3) p.rect) p.is.stands p.is.image) in
        inr (inl (record {
          leaf = WriteAt b i;
          rect = p.rect;
          pin = record { port = port; met = met; place = p.is.place; has = p.is.has; stands = p.is.stands; image = p.is.image };
          y = track_y m.main.channel.low wire is.t;
          edge = f.write_y;
          at = u.low ∙ none_more f.write_y;
          drawn = box_to x p.rect.x1 p.begins box;
          long = long;
          zone = omega (arith, ints);
          kind = inl (refl, over);
        }))

    sensed : (b i : ℕ) (net : Net) (x : ℤ) → IsPinFrom plan kit f (SenseAt b i) 2 3 net x → IsBox (metal 3) x (track_y m.main.channel.low wire is.t) (x +ℤ wire.width) (m.main.channel.low +ℤ channel_height wire tracks.main) s → Kind s
    sensed b i net x p box =
        let u = lower_at p.rect (slice_at b i) f.sense_y Sense 2 sense_listed (subst (λ (q : Place). IsImage (placed q) (kit.pin Sense 2 3) p.rect) p.is.stands p.is.image) in
        inr (inl (record {
          leaf = SenseAt b i;
          rect = p.rect;
          pin = record { port = 2; met = sense_listed; place = p.is.place; has = p.is.has; stands = p.is.stands; image = p.is.image };
          y = track_y m.main.channel.low wire is.t;
          edge = f.write_y;
          at = u.low ∙ sense_over;
          drawn = box_to x p.rect.x1 p.begins box;
          long = long;
          zone = omega (arith, ints);
          kind = inl (refl, over);
        }))

    by_pin : (b : ℕ) (net : Net) (x : ℤ) → MeetsMainTop plan kit wire f b net x → IsBox (metal 3) x (track_y m.main.channel.low wire is.t) (x +ℤ wire.width) (m.main.channel.low +ℤ channel_height wire tracks.main) s → Kind s
    by_pin b net x (inl rail) box = inl (rail_wire b x (track_y m.main.channel.low wire is.t) (m.main.channel.low +ℤ channel_height wire tracks.main) s (rail_at plan kit wire f b net x (sides plan kit wire tracks f m.laid.sizes m.stands) rail) box over)
    by_pin b net x (inr (inl (i, p))) box = written b i 0 net x (inl refl) p box
    by_pin b net x (inr (inr (inl (i, p)))) box = written b i 3 net x (inr refl) p box
    by_pin b net x (inr (inr (inr (i, p)))) box = sensed b i net x p box

    by : IsWireOf m.main.channel wire tracks.main number is.interval is.t s → Kind s
    by (inl trunk) = absurd (no_metal 2 s.layer (omega arith) trunk.on on)
    by (inr (inl (x, p, inr via))) = absurd (no_cut 2 s.layer (omega arith) via.on on)
    by (inr (inr (x, p, inl box))) = absurd (no_metal 1 s.layer (omega arith) box.on on)
    by (inr (inr (x, p, inr via))) = absurd (no_cut 1 s.layer (omega arith) via.on on)
    by (inr (inl (x, p, inl box))) = let meets = (m.main.meant.top number x).0 p in by_pin meets.2.0 meets.0 x meets.2.2 box

  column_kind : (b : ℕ) (inner s : Shape) → b < banks_of plan → IsShifted (offset b) (pos 0) inner s → s.layer ≡ metal 3 → (net : ℕ) → IsOfNet m.column.channel wire m.column.intervals m.column.track tracks.column net inner → Kind s
  column_kind b inner s in_banks sh on number is = by is.wires where
    on_inner : inner.layer ≡ metal 3
    on_inner = sym sh.layer ∙ on

    over : (column_channel_y kit f +ℤ wire.space) ≤ℤ track_y m.column.channel.low wire is.t
    over = subst (λ (z : ℤ). (z +ℤ wire.space) ≤ℤ track_y m.column.channel.low wire is.t) m.column.meant.low (track_above m.column.channel.low wire is.t m.laid.sizes)

    top : m.column.channel.low +ℤ channel_height wire tracks.column ≡ f.column_y
    top = column_top m.column.channel.low m.column.meant.low

    long : (track_y m.column.channel.low wire is.t +ℤ (wire.space +ℤ wire.width)) ≤ℤ f.column_y
    long = long_by (track_y m.column.channel.low wire is.t) wire.width wire.space (m.column.channel.low +ℤ channel_height wire tracks.column) f.column_y (track_below m.column.channel.low (m.column.channel.low +ℤ channel_height wire tracks.column) wire is.t tracks.column m.laid.sizes (m.column.count.below number is.t is.has.on) refl) top

    box_to : (x u : ℤ) → x +ℤ offset b ≡ u → IsBox (metal 3) x (track_y m.column.channel.low wire is.t) (x +ℤ wire.width) (m.column.channel.low +ℤ channel_height wire tracks.column) inner → IsBox (metal 3) u (track_y m.column.channel.low wire is.t) (u +ℤ wire.width) f.column_y s
    box_to x u e box = box_as (metal 3) _ _ _ _ u (track_y m.column.channel.low wire is.t) (u +ℤ wire.width) f.column_y s e refl (wide_to x wire.width (offset b) u e) top
        (box_shifted (offset b) (metal 3) x (track_y m.column.channel.low wire is.t) (x +ℤ wire.width) (m.column.channel.low +ℤ channel_height wire tracks.column) inner s sh box)

    at_mux : (c port : ℕ) (net : Net) (x : ℤ) → slice_get (column_nets plan) number ≡ Some net → IsPinFrom plan kit f (MuxAt 0 c) port 3 net x → IsBox (metal 3) x (track_y m.column.channel.low wire is.t) (x +ℤ wire.width) (m.column.channel.low +ℤ channel_height wire tracks.column) inner → Kind s
    at_mux c port net x numbered p box =
        let z = column_x plan kit f c in
        let which = mux_port plan c port number net p.is.has.1.1 numbered p.is.on in
        let met = mux_listed port which.0 which.1 in
        let there = image_there (bank_x f b z) f.column_y (kit.pin Mux port 3) in
        let u = lower_at there.0 (bank_x f b z) f.column_y Mux port met there.1 in
        let v = lower_at p.rect (bank_x f 0 z) f.column_y Mux port met (subst (λ (q : Place). IsImage (placed q) (kit.pin Mux port 3) p.rect) p.is.stands p.is.image) in
        let e = moves (kit.pin Mux port 3).x1 z (offset 0) (offset b) x there.0.x1 (zero_times f.bank_width) (p.begins ∙ v.left) u.left in
        inr (inl (record {
          leaf = MuxAt b c;
          rect = there.0;
          pin = record { port = port; met = met; place = upright (bank_x f b z) f.column_y; has = (in_banks, p.is.has.1); stands = refl; image = there.1 };
          y = track_y m.column.channel.low wire is.t;
          edge = f.column_y;
          at = u.low ∙ none_more f.column_y;
          drawn = box_to x there.0.x1 e box;
          long = long;
          zone = omega (arith, ints);
          kind = inr (refl, over);
        }))

    at_tie : (c port : ℕ) (net : Net) (x : ℤ) → slice_get (column_nets plan) number ≡ Some net → IsPinFrom plan kit f (TieAt 0 c) port 3 net x → IsBox (metal 3) x (track_y m.column.channel.low wire is.t) (x +ℤ wire.width) (m.column.channel.low +ℤ channel_height wire tracks.column) inner → Kind s
    at_tie c port net x numbered p box =
        let z = column_x plan kit f c in
        let met = tie_listed port (tie_port plan c port number net numbered p.is.on) in
        let there = image_there (bank_x f b z) f.column_y (kit.pin Tie port 3) in
        let u = lower_at there.0 (bank_x f b z) f.column_y Tie port met there.1 in
        let v = lower_at p.rect (bank_x f 0 z) f.column_y Tie port met (subst (λ (q : Place). IsImage (placed q) (kit.pin Tie port 3) p.rect) p.is.stands p.is.image) in
        let e = moves (kit.pin Tie port 3).x1 z (offset 0) (offset b) x there.0.x1 (zero_times f.bank_width) (p.begins ∙ v.left) u.left in
        inr (inl (record {
          leaf = TieAt b c;
          rect = there.0;
          pin = record { port = port; met = met; place = upright (bank_x f b z) f.column_y; has = (in_banks, p.is.has.1); stands = refl; image = there.1 };
          y = track_y m.column.channel.low wire is.t;
          edge = f.column_y;
          at = u.low ∙ none_more f.column_y;
          drawn = box_to x there.0.x1 e box;
          long = long;
          zone = omega (arith, ints);
          kind = inr (refl, over);
        }))

    at_leaf : (n c port : ℕ) (net : Net) (x : ℤ) → slice_get (column_nets plan) number ≡ Some net → IsPinFrom plan kit f (column_leaf n 0 c) port 3 net x → IsBox (metal 3) x (track_y m.column.channel.low wire is.t) (x +ℤ wire.width) (m.column.channel.low +ℤ channel_height wire tracks.column) inner → Kind s
    at_leaf zero c port net x numbered p box = at_tie c port net x numbered p box
    at_leaf (suc n) c port net x numbered p box = at_mux c port net x numbered p box

    by : IsWireOf m.column.channel wire tracks.column number is.interval is.t inner → Kind s
    by (inl trunk) = absurd (no_metal 2 inner.layer (omega arith) trunk.on on_inner)
    by (inr (inl (x, p, inr via))) = absurd (no_cut 2 inner.layer (omega arith) via.on on_inner)
    by (inr (inr (x, p, inl box))) = absurd (no_metal 1 inner.layer (omega arith) box.on on_inner)
    by (inr (inr (x, p, inr via))) = absurd (no_cut 1 inner.layer (omega arith) via.on on_inner)
    by (inr (inl (x, p, inl box))) = let meets = (m.column.meant.top number x).0 p in at_leaf plan.col_bits meets.2.0 meets.2.1 meets.0 x meets.1 meets.2.2 box

  output_kind : (b : ℕ) (inner s : Shape) → b < banks_of plan → IsShifted (offset b) (pos 0) inner s → IsOutputWire plan kit wire f inner → Kind s
  output_kind b inner s below sh out =
      let z = column_x plan kit f (out.bit * words_per_row plan) in
      let there = image_there (bank_x f b z) f.sense_y (kit.pin Sense 2 3) in
      let u = lower_at there.0 (bank_x f b z) f.sense_y Sense 2 sense_listed there.1 in
      let v = lower_at out.rect (bank_x f 0 z) f.sense_y Sense 2 sense_listed (subst (λ (q : Place). IsImage (placed q) (kit.pin Sense 2 3) out.rect) out.pin.stands out.pin.image) in
      let e = moves (kit.pin Sense 2 3).x1 z (offset 0) (offset b) out.rect.x1 there.0.x1 (zero_times f.bank_width) v.left u.left in
      inr (inr (record {
        leaf = SenseAt b out.bit;
        rect = there.0;
        pin = record { port = 2; met = over_listed; place = upright (bank_x f b z) f.sense_y; has = (below, out.pin.has.1); stands = refl; image = there.1 };
        edge = f.write_y;
        at = u.low ∙ sense_over;
        drawn = box_as (metal 3) _ _ _ _ there.0.x1 f.write_y (there.0.x1 +ℤ wire.width) there.0.y1 s e refl (wide_to out.rect.x1 wire.width (offset b) there.0.x1 e) (sym u.low)
            (box_shifted (offset b) (metal 3) out.rect.x1 f.write_y (out.rect.x1 +ℤ wire.width) f.sense_y inner s sh out.drawn);
        zone = omega (arith, ints);
      }))

  bank_kind : (b : ℕ) (inner s : Shape) → b < banks_of plan → IsShifted (offset b) (pos 0) inner s → s.layer ≡ metal 3 → IsWireInBank plan kit wire tracks f inner → Kind s
  bank_kind b inner s below sh on (inl channel) = let n = m.column.each inner channel in column_kind b inner s below sh on n.0 n.1
  bank_kind b inner s below sh on (inr (inl tap)) = elim tap.drawn [
    | inl box ↦ absurd (no_metal 2 s.layer (omega arith) (sh.layer ∙ box.on) on)
    | inr via ↦ absurd (no_cut 2 s.layer (omega arith) (sh.layer ∙ via.on) on)
  ]
  bank_kind b inner s below sh on (inr (inr (inl rail))) =
      inl (rail_wire b (rail.x +ℤ offset b) f.write_y (rail.y +ℤ wire.width) s (rail_in plan kit wire tracks f m b rail.tap.net rail.x rail.tap.rail)
      (box_as (metal 3) _ _ _ _ (rail.x +ℤ offset b) f.write_y ((rail.x +ℤ offset b) +ℤ wire.width) (rail.y +ℤ wire.width) s refl refl (wide_to rail.x wire.width (offset b) (rail.x +ℤ offset b) refl) refl
      (box_shifted (offset b) (metal 3) rail.x f.write_y (rail.x +ℤ wire.width) (rail.y +ℤ wire.width) inner s sh rail.drawn)) (write_high plan kit wire tracks f m))
  bank_kind b inner s below sh on (inr (inr (inr (inl out)))) = output_kind b inner s below sh out
  bank_kind b inner s below sh on (inr (inr (inr (inr (inl joiner))))) = absurd (no_metal 0 s.layer (omega arith) (sh.layer ∙ joiner.1.on) on)
  bank_kind b inner s below sh on (inr (inr (inr (inr (inr joiner))))) = absurd (no_metal 0 s.layer (omega arith) (sh.layer ∙ joiner.on) on)

  bar_elsewhere : (trunk x y : ℤ) (s : Shape) → s.layer ≡ metal 3 → IsBar wire trunk x y s → ⊥
  bar_elsewhere trunk x y s on (inl box) = no_metal 0 s.layer (omega arith) box.on on
  bar_elsewhere trunk x y s on (inr via) = no_cut 0 s.layer (omega arith) via.on on

  which : (s : Shape) → IsDrawnWire plan kit wire tracks f s → s.layer ≡ metal 3 → Kind s
  which s (inl (inl channel)) on = let n = m.main.each s channel in main_kind s on n.0 n.1
  which s (inl (inr (inl (inl trunk)))) on = absurd (no_metal 1 s.layer (omega arith) trunk.on on)
  which s (inl (inr (inl (inr (x, y, at, bar))))) on = absurd (bar_elsewhere _ x y s on bar)
  which s (inl (inr (inr (inl trunk)))) on = absurd (no_metal 1 s.layer (omega arith) trunk.on on)
  which s (inl (inr (inr (inr (x, y, at, bar))))) on = absurd (bar_elsewhere _ x y s on bar)
  which s (inr banks) on = bank_kind banks.bank banks.inner s banks.below banks.shifted on banks.is

  pub top_wires : ((i : ℕ) → i < plan.word_size → mask_of plan.masks plan.write_size i < enables_of plan) → HasTopWires (IsAmong ports_above) (IsAmong ports_over) (drop_of kit) plan kit wire tracks f
  unfolding HasItsBranch HasItsOutput
  top_wires masked = record {
    wide = all_wide plan kit wire tracks f m built masked main column lower;
    wide_out = λ leaf rect p. all_wide plan kit wire tracks f m built masked main column lower leaf rect (as_above plan kit wire tracks f m built masked main column lower leaf rect p);
    to = which;
    from = each_has plan kit wire tracks f m built masked main column lower;
    from_out = each_output plan kit wire tracks f m built masked main column lower;
  }
