-- Cuts of wires are joined or keep the wires' space.
use Rattle.std.proofs.Common.{◌≡◌, ◌⊎◌, inl, inr, ◌∙◌, ℕ, ◌*◌, ◌<◌, ◌≤◌, ℤ, pos, ◌+ℤ◌, ◌*ℤ◌, ◌≤ℤ◌, refl, sym, ap, subst, arith}
use Rattle.std.specs.Prelude.{slice_index}
use Rattle.std.proofs.lemmas.Bool.{cases_lt, cases_eq}
use Rattle.std.proofs.lemmas.Int.{ints}
use Rattle.or_geom.specs.declared.shape.Shape.{Shape}
use Rattle.tech_rules.specs.declared.tech.Wire.{Wire}
use Rattle.wire_drawing.specs.Drawing.{IsVia, pitch}
use Rattle.cell_roles.specs.declared.role.Role.TheVariants.{Inv}
use Rattle.channel_router.specs.Wires.{IsOfNet, IsWireOf, channel_height, track_y}
use Rattle.sram_netlist.specs.Organization.{Organization, columns_of}
use Rattle.macro_layout.specs.LayoutKit.{LayoutKit}
use Rattle.macro_layout.specs.Places.{Floorplan, columns_x, bit_width}
use Rattle.macro_layout.specs.Floorplan.{Tracks, column_channel_y}
use Rattle.macro_layout.specs.Wires.{IsWireInBank, IsTapAt, IsBar}
use Rattle.macro_layout.specs.Stated.{IsShifted}
use Rattle.good_places.proofs.NumberLaws.{banks_before}
use Rattle.good_wires.specs.Spaced.{AreSpaced}
use Rattle.good_wires.specs.Drawn.{IsDrawnMemory, IsDrawnWire, CutsAreSpaced}
use Rattle.good_wires.proofs.SpacedLaws.{spaced_back, spaced_moves}
use Rattle.good_wires.proofs.LayerLaws.{cuts_differ, cut_no_metal}
use Rattle.good_wires.proofs.ChannelLaws.{channels_are_spaced, vias_left, vias_below, one_via}
use Rattle.good_wires.proofs.LevelLaws.{Levels, levels, Sides, sides, IsRailAt, track_above, track_below}
use Rattle.good_wires.proofs.PinLaws.{IsInColumns, column_in, sense_in}
use Rattle.good_wires.proofs.TapLaws.{tap_low}
use Rattle.tech_rules.specs.WireRules.{margin}
use Rattle.good_wires.proofs.FourthLaws as fourth

module _ (plan : Organization) (kit : LayoutKit) (wire : Wire) (tracks : Tracks) (f : Floorplan) (m : IsDrawnMemory plan kit wire tracks f) (k : ℕ) (few : k < 3) (some_cut : 0 < k) where
  l : Levels plan kit wire f
  l = levels plan kit wire tracks f m.laid.sizes m.stands

  s_of : Sides plan kit wire f
  s_of = sides plan kit wire tracks f m.laid.sizes m.stands

  abbrev cut : ℕ → ℕ
  cut j = slice_index wire.cuts j

  abbrev offset : ℕ → ℤ
  offset b = pos b *ℤ f.bank_width

  abbrev Spaced : Shape → Shape → Type 0
  Spaced s u = AreSpaced wire.space s.rect u.rect

  no_metal : (j : ℕ) (n : ℕ) → j < 4 → n ≡ slice_index wire.metals j → n ≡ cut k → ⊥
  no_metal j n lt e z = cut_no_metal wire k j m.seven few lt (sym z ∙ e)

  -- a cut of this kind
  this_cut : (j : ℕ) (n : ℕ) → j < 3 → n ≡ cut j → n ≡ cut k → j ≡ k
  this_cut j n lt e z = elim (cases_eq j k) [
    | inl same ↦ same
    | inr differ ↦ absurd (cuts_differ wire j k m.seven lt few differ (sym e ∙ z))
  ]

  -- Kinds

  pub record IsMainVia (s : Shape) : Type 0 where
    pub net : ℕ
    pub of : IsOfNet m.main.channel wire m.main.intervals m.main.track tracks.main net s
    pub layer : s.layer ≡ cut k
    pub x : ℤ
    pub y : ℤ
    pub via : IsVia wire k x y s
    pub under : (y +ℤ pitch wire) ≤ℤ f.write_y
    pub over : (pos (kit.height Inv) +ℤ wire.space) ≤ℤ y

  pub record IsColumnVia (s : Shape) : Type 0 where
    pub bank : ℕ
    pub inner : Shape
    pub net : ℕ
    pub of : IsOfNet m.column.channel wire m.column.intervals m.column.track tracks.column net inner
    pub layer : inner.layer ≡ cut k
    pub shifted : IsShifted (offset bank) (pos 0) inner s
    pub x : ℤ
    pub y : ℤ
    pub at : IsInColumns plan kit wire f bank x
    pub via : IsVia wire k x y s
    pub above : f.write_y ≤ℤ y
    pub over : (column_channel_y kit f +ℤ wire.space) ≤ℤ y
    pub under : (y +ℤ pitch wire) ≤ℤ f.column_y

  pub record IsTapVia (s : Shape) : Type 0 where
    pub bank : ℕ
    pub x : ℤ
    pub y : ℤ
    pub end : ℤ
    pub tap : IsTapAt plan kit wire tracks.column f x y end
    pub rail : IsRailAt wire f bank (x +ℤ offset bank)
    pub via : IsVia wire k (x +ℤ offset bank) y s
    pub above : f.write_y ≤ℤ y

  abbrev pub IsOnCut : Shape → Type 0
  IsOnCut s = IsMainVia s ⊎ (IsColumnVia s ⊎ IsTapVia s)

  to_kind : (j : ℕ) (x y : ℤ) (s : Shape) → j ≡ k → IsVia wire j x y s → IsVia wire k x y s
  to_kind j x y s e via = subst (λ (i : ℕ). IsVia wire i x y s) e via

  via_pitch : (y w s z : ℤ) → ((y +ℤ w) +ℤ s) ≤ℤ z → (y +ℤ (w +ℤ s)) ≤ℤ z
  via_pitch y w s z le = omega (arith, ints, le)

  main_kind : (s : Shape) → s.layer ≡ cut k → (net : ℕ) → IsOfNet m.main.channel wire m.main.intervals m.main.track tracks.main net s → IsMainVia s
  main_kind s on net is = by is.wires where
    put : (j : ℕ) (x : ℤ) → j ≡ k → IsVia wire j x (track_y m.main.channel.low wire is.t) s → IsMainVia s
    put j x e via = record {
      net = net;
      of = is;
      layer = on;
      x = x;
      y = track_y m.main.channel.low wire is.t;
      via = to_kind j x (track_y m.main.channel.low wire is.t) s e via;
      under = via_pitch (track_y m.main.channel.low wire is.t) wire.width wire.space f.write_y (track_below m.main.channel.low f.write_y wire is.t tracks.main m.laid.sizes (m.main.count.below net is.t is.has.on) (m.stands.write_y ∙ ap (λ (z : ℤ). z +ℤ channel_height wire tracks.main) (sym m.main.meant.low)));
      over = subst (λ (z : ℤ). (z +ℤ wire.space) ≤ℤ track_y m.main.channel.low wire is.t) m.main.meant.low (track_above m.main.channel.low wire is.t m.laid.sizes);
    }

    by : IsWireOf m.main.channel wire tracks.main net is.interval is.t s → IsMainVia s
    by (inl trunk) = absurd (no_metal 2 s.layer (omega arith) trunk.on on)
    by (inr (inl (x, p, inl box))) = absurd (no_metal 3 s.layer (omega arith) box.on on)
    by (inr (inl (x, p, inr via))) = put 2 x (this_cut 2 s.layer (omega arith) via.on on) via
    by (inr (inr (x, p, inl box))) = absurd (no_metal 1 s.layer (omega arith) box.on on)
    by (inr (inr (x, p, inr via))) = put 1 x (this_cut 1 s.layer (omega arith) via.on on) via

  -- a cut of bank 0 as it stands in bank b
  moved_via : (b j : ℕ) (x y : ℤ) (inner s : Shape) → IsShifted (offset b) (pos 0) inner s → IsVia wire j x y inner → IsVia wire j (x +ℤ offset b) y s
  moved_via b j x y inner s sh is = record {
    on = sh.layer ∙ is.on;
    left = sh.x1 ∙ ap (λ (z : ℤ). z +ℤ offset b) is.left ∙ swap x (margin wire) (offset b);
    low = sh.y1 ∙ ap (λ (z : ℤ). z +ℤ pos 0) is.low ∙ none (y +ℤ margin wire);
    right = sh.x2 ∙ ap (λ (z : ℤ). z +ℤ offset b) is.right ∙ swaps x (margin wire) wire.cut (offset b);
    high = sh.y2 ∙ ap (λ (z : ℤ). z +ℤ pos 0) is.high ∙ none ((y +ℤ margin wire) +ℤ wire.cut);
  } where
    none : (z : ℤ) → z +ℤ pos 0 ≡ z
    none z = omega (arith, ints)

    swap : (x e q : ℤ) → (x +ℤ e) +ℤ q ≡ (x +ℤ q) +ℤ e
    swap x e q = omega (arith, ints)

    swaps : (x e c q : ℤ) → ((x +ℤ e) +ℤ c) +ℤ q ≡ ((x +ℤ q) +ℤ e) +ℤ c
    swaps x e c q = omega (arith, ints)

  column_low : (t : ℕ) → f.write_y ≤ℤ track_y m.column.channel.low wire t
  column_low t = go f.write_y f.sense_y (column_channel_y kit f) m.column.channel.low wire.space (track_y m.column.channel.low wire t) l.sense l.channel m.column.meant.low (track_above m.column.channel.low wire t m.laid.sizes) m.laid.sizes.space.from where
    go : (w s c low sp t : ℤ) → w ≤ℤ s → s ≤ℤ c → low ≡ c → (low +ℤ sp) ≤ℤ t → pos 1 ≤ℤ sp → w ≤ℤ t
    go w s c low sp t a b e d g = omega (arith, ints, a, b, e, d, g)

  column_kind : (b : ℕ) (inner s : Shape) → IsShifted (offset b) (pos 0) inner s → s.layer ≡ cut k → (net : ℕ) → IsOfNet m.column.channel wire m.column.intervals m.column.track tracks.column net inner → IsColumnVia s
  column_kind b inner s sh on net is = by is.wires where
    on_inner : inner.layer ≡ cut k
    on_inner = sym sh.layer ∙ on

    put : (j : ℕ) (x : ℤ) → j ≡ k → IsInColumns plan kit wire f 0 x → IsVia wire j x (track_y m.column.channel.low wire is.t) inner → IsColumnVia s
    put j x e at via = record {
      bank = b;
      inner = inner;
      net = net;
      of = is;
      layer = on_inner;
      shifted = sh;
      x = x +ℤ offset b;
      y = track_y m.column.channel.low wire is.t;
      at = fourth.in_bank plan kit wire tracks f m b x at;
      via = to_kind j (x +ℤ offset b) (track_y m.column.channel.low wire is.t) s e (moved_via b j x (track_y m.column.channel.low wire is.t) inner s sh via);
      above = column_low is.t;
      over = subst (λ (z : ℤ). (z +ℤ wire.space) ≤ℤ track_y m.column.channel.low wire is.t) m.column.meant.low (track_above m.column.channel.low wire is.t m.laid.sizes);
      under = via_pitch (track_y m.column.channel.low wire is.t) wire.width wire.space f.column_y (track_below m.column.channel.low f.column_y wire is.t tracks.column m.laid.sizes (m.column.count.below net is.t is.has.on) (m.stands.column_y ∙ ap (λ (z : ℤ). z +ℤ channel_height wire tracks.column) (sym m.column.meant.low)));
    }

    by : IsWireOf m.column.channel wire tracks.column net is.interval is.t inner → IsColumnVia s
    by (inl trunk) = absurd (no_metal 2 inner.layer (omega arith) trunk.on on_inner)
    by (inr (inl (x, p, inl box))) = absurd (no_metal 3 inner.layer (omega arith) box.on on_inner)
    by (inr (inl (x, p, inr via))) =
        let meets = (m.column.meant.top net x).0 p in
        put 2 x (this_cut 2 inner.layer (omega arith) via.on on_inner) (column_in plan kit wire f m.laid m.pins s_of plan.col_bits 0 meets.2.0 meets.2.1 3 meets.0 x (inr refl) meets.2.2) via
    by (inr (inr (x, p, inl box))) = absurd (no_metal 1 inner.layer (omega arith) box.on on_inner)
    by (inr (inr (x, p, inr via))) =
        let meets = (m.column.meant.bottom net x).0 p in
        put 1 x (this_cut 1 inner.layer (omega arith) via.on on_inner) (sense_in plan kit wire f m.laid m.pins s_of 0 meets.2.0 meets.2.1 1 meets.0 x (inl refl) meets.2.2) via

  bank_kind : (b : ℕ) (inner s : Shape) → IsShifted (offset b) (pos 0) inner s → s.layer ≡ cut k → IsWireInBank plan kit wire tracks f inner → IsOnCut s
  bank_kind b inner s sh on (inl channel) = let n = m.column.each inner channel in inr (inl (column_kind b inner s sh on n.0 n.1))
  bank_kind b inner s sh on (inr (inl tap)) = elim tap.drawn [
    | inl box ↦ absurd (no_metal 2 s.layer (omega arith) (sh.layer ∙ box.on) on)
    | inr via ↦ inr (inr (record {
      bank = b;
      x = tap.x;
      y = tap.y;
      end = tap.end;
      tap = tap.tap;
      rail = fourth.rail_in plan kit wire tracks f m b tap.tap.net tap.x tap.tap.rail;
      via = to_kind 2 (tap.x +ℤ offset b) tap.y s (this_cut 2 s.layer (omega arith) (sh.layer ∙ via.on) on) (moved_via b 2 tap.x tap.y inner s sh via);
      above = tap_low plan kit wire tracks f tap.x tap.y tap.end m tap.tap;
    }))
  ]
  bank_kind b inner s sh on (inr (inr (inl rail))) = absurd (no_metal 3 s.layer (omega arith) (sh.layer ∙ rail.drawn.on) on)
  bank_kind b inner s sh on (inr (inr (inr (inl out)))) = absurd (no_metal 3 s.layer (omega arith) (sh.layer ∙ out.drawn.on) on)
  bank_kind b inner s sh on (inr (inr (inr (inr (inl joiner))))) = absurd (no_metal 0 s.layer (omega arith) (sh.layer ∙ joiner.1.on) on)
  bank_kind b inner s sh on (inr (inr (inr (inr (inr joiner))))) = absurd (no_metal 0 s.layer (omega arith) (sh.layer ∙ joiner.on) on)

  bar_elsewhere : (trunk x y : ℤ) (s : Shape) → s.layer ≡ cut k → IsBar wire trunk x y s → ⊥
  bar_elsewhere trunk x y s on (inl box) = no_metal 0 s.layer (omega arith) box.on on
  bar_elsewhere trunk x y s on (inr via) = let e = this_cut 0 s.layer (omega arith) via.on on in omega (arith, e, some_cut)

  pub on_cut : (s : Shape) → s.layer ≡ cut k → IsDrawnWire plan kit wire tracks f s → IsOnCut s
  on_cut s on (inl (inl channel)) = let n = m.main.each s channel in inl (main_kind s on n.0 n.1)
  on_cut s on (inl (inr (inl (inl trunk)))) = absurd (no_metal 1 s.layer (omega arith) trunk.on on)
  on_cut s on (inl (inr (inl (inr (x, y, at, bar))))) = absurd (bar_elsewhere _ x y s on bar)
  on_cut s on (inl (inr (inr (inl trunk)))) = absurd (no_metal 1 s.layer (omega arith) trunk.on on)
  on_cut s on (inl (inr (inr (inr (x, y, at, bar))))) = absurd (bar_elsewhere _ x y s on bar)
  on_cut s on (inr banks) = bank_kind banks.bank banks.inner s banks.shifted on banks.is

  -- Pairs

  banks_left : (b c : ℕ) → b < c → (offset b +ℤ f.bank_width) ≤ℤ offset c
  banks_left b c lt = banks_before b c f.bank_width lt s_of.wide

  below : (y z : ℤ) → (y +ℤ pitch wire) ≤ℤ f.write_y → f.write_y ≤ℤ z → (y +ℤ pitch wire) ≤ℤ z
  below y z a c = trans (y +ℤ pitch wire) f.write_y z a c where
    trans : (a b c : ℤ) → a ≤ℤ b → b ≤ℤ c → a ≤ℤ c
    trans a b c p q = omega (arith, ints, p, q)

  main_column : (s u : Shape) → IsMainVia s → IsColumnVia u → Spaced s u
  main_column s u a c = vias_below wire k a.x a.y c.x c.y s u m.laid.sizes a.via c.via (below a.y c.y a.under c.above)

  main_tap : (s u : Shape) → IsMainVia s → IsTapVia u → Spaced s u
  main_tap s u a t = vias_below wire k a.x a.y (t.x +ℤ offset t.bank) t.y s u m.laid.sizes a.via t.via (below a.y t.y a.under t.above)

  mains : (s u : Shape) → IsMainVia s → IsMainVia u → Spaced s u
  mains s u a c = channels_are_spaced m.main.channel wire m.main.intervals m.main.track tracks.main m.laid.sizes m.seven m.main.assigned m.main.top m.main.bottom a.net c.net s u a.of c.of (a.layer ∙ sym c.layer)

  columns_apart : (s u : Shape) (a : IsColumnVia s) (c : IsColumnVia u) → a.bank < c.bank → Spaced s u
  columns_apart s u a c lt =
      vias_left wire k a.x a.y c.x c.y s u m.laid.sizes a.via c.via
      (let g = banks_left a.bank c.bank lt in let h = a.at.to in let j = c.at.from in let r = s_of.row in let t = s_of.columns in go a.x wire.width wire.space f.bank_width (offset a.bank) (offset c.bank) (columns_x plan kit f) f.row_x c.x h g j r t m.laid.sizes.width.from)
    where
      go : (x w s q b c col row y : ℤ) → (x +ℤ w) ≤ℤ (q +ℤ b) → (b +ℤ q) ≤ℤ c → (col +ℤ c) ≤ℤ y → (w +ℤ s) ≤ℤ row → row ≤ℤ col → pos 1 ≤ℤ w → (x +ℤ (w +ℤ s)) ≤ℤ y
      go x w s q b c col row y h g k r t e = omega (arith, ints, h, g, k, r, t, e)

  columns : (s u : Shape) → IsColumnVia s → IsColumnVia u → Spaced s u
  columns s u a c = elim (cases_lt a.bank c.bank) [
    | inl lt ↦ columns_apart s u a c lt
    | inr ge ↦ elim (cases_lt c.bank a.bank) [
      | inl lt ↦ spaced_back wire.space u.rect s.rect (columns_apart u s c a lt)
      | inr le ↦
          let e : c.bank ≡ a.bank = omega (arith, ge, le) in
          spaced_moves wire.space (offset a.bank) a.inner c.inner s u a.shifted (subst (λ (j : ℕ). IsShifted (offset j) (pos 0) c.inner u) e c.shifted)
          (channels_are_spaced m.column.channel wire m.column.intervals m.column.track tracks.column m.laid.sizes m.seven m.column.assigned m.column.top m.column.bottom a.net c.net a.inner c.inner a.of c.of (a.layer ∙ sym c.layer))
    ]
  ]

  up : (b c : ℕ) → b ≤ c → offset b ≤ℤ offset c
  up b c le = elim (cases_lt b c) [
    | inl lt ↦ let g = banks_left b c lt in let w = s_of.wide in omega (arith, ints, g, w)
    | inr ge ↦ let e : offset b ≡ offset c = ap (λ (j : ℕ). pos j *ℤ f.bank_width) (omega (arith, le, ge)) in omega (arith, ints, e)
  ]

  -- a rail's cut and a column's
  tap_column : (s u : Shape) → IsTapVia s → IsColumnVia u → Spaced s u
  tap_column s u t c = elim (cases_lt c.bank t.bank) [
    | inl lt ↦ spaced_back wire.space u.rect s.rect (vias_left wire k c.x c.y (t.x +ℤ offset t.bank) t.y u s m.laid.sizes c.via t.via
        (let g = banks_left c.bank t.bank lt in let h = c.at.to in let r = t.rail.from in right_of c.x wire.width wire.space f.bank_width (offset c.bank) (offset t.bank) (t.x +ℤ offset t.bank) h g r m.laid.sizes.width.from))
    | inr ge ↦ vias_left wire k (t.x +ℤ offset t.bank) t.y c.x c.y s u m.laid.sizes t.via c.via
        (let r = t.rail.to in let h = c.at.from in let b = up t.bank c.bank ge in let e = s_of.columns in left_of (t.x +ℤ offset t.bank) wire.width wire.space f.row_x (offset t.bank) (offset c.bank) (columns_x plan kit f) c.x r h b e)
  ] where
    right_of : (x w s q b c y : ℤ) → (x +ℤ w) ≤ℤ (q +ℤ b) → (b +ℤ q) ≤ℤ c → ((w +ℤ s) +ℤ c) ≤ℤ y → pos 1 ≤ℤ w → (x +ℤ (w +ℤ s)) ≤ℤ y
    right_of x w s q b c y h g r e = omega (arith, ints, h, g, r, e)

    left_of : (x w s row b c col y : ℤ) → ((x +ℤ w) +ℤ s) ≤ℤ (row +ℤ b) → (col +ℤ c) ≤ℤ y → b ≤ℤ c → row ≤ℤ col → (x +ℤ (w +ℤ s)) ≤ℤ y
    left_of x w s row b c col y r h g e = omega (arith, ints, r, h, g, e)

  taps_apart : (s u : Shape) (a : IsTapVia s) (c : IsTapVia u) → a.bank < c.bank → Spaced s u
  taps_apart s u a c lt =
      vias_left wire k (a.x +ℤ offset a.bank) a.y (c.x +ℤ offset c.bank) c.y s u m.laid.sizes a.via c.via
      (let g = banks_left a.bank c.bank lt in let r = a.rail.to in let h = c.rail.from in go (a.x +ℤ offset a.bank) wire.width wire.space f.row_x f.bank_width (columns_x plan kit f) (columns_of plan * bit_width kit) (offset a.bank) (offset c.bank) (c.x +ℤ offset c.bank) r g h s_of.columns s_of.bank m.laid.sizes.width.from m.laid.sizes.space.from)
    where
      go : (x w s row q col : ℤ) (all : ℕ) (b c y : ℤ) → ((x +ℤ w) +ℤ s) ≤ℤ (row +ℤ b) → (b +ℤ q) ≤ℤ c → ((w +ℤ s) +ℤ c) ≤ℤ y → row ≤ℤ col → q ≡ col +ℤ pos all → pos 1 ≤ℤ w → pos 1 ≤ℤ s → (x +ℤ (w +ℤ s)) ≤ℤ y
      go x w s row q col all b c y r g h e is a d = omega (arith, ints, r, g, h, e, is, a, d)

  taps : (s u : Shape) → IsTapVia s → IsTapVia u → Spaced s u
  taps s u a c = elim (cases_lt a.bank c.bank) [
    | inl lt ↦ taps_apart s u a c lt
    | inr ge ↦ elim (cases_lt c.bank a.bank) [
      | inl lt ↦ spaced_back wire.space u.rect s.rect (taps_apart u s c a lt)
      | inr le ↦ elim (m.taps a.x a.y a.end c.x c.y c.end a.tap c.tap) [
        | inl one ↦
            let e : offset a.bank ≡ offset c.bank = ap (λ (j : ℕ). pos j *ℤ f.bank_width) (omega (arith, ge, le)) in
            let x = one.0 in
            one_via wire k (a.x +ℤ offset a.bank) a.y (c.x +ℤ offset c.bank) c.y s u a.via c.via (omega (arith, ints, x, e)) one.1
        | inr apart ↦ elim apart [
          | inl under ↦ vias_below wire k (a.x +ℤ offset a.bank) a.y (c.x +ℤ offset c.bank) c.y s u m.laid.sizes a.via c.via under
          | inr over ↦ spaced_back wire.space u.rect s.rect (vias_below wire k (c.x +ℤ offset c.bank) c.y (a.x +ℤ offset a.bank) a.y u s m.laid.sizes c.via a.via over)
        ]
      ]
    ]
  ]

  pairs : (s u : Shape) → IsOnCut s → IsOnCut u → Spaced s u
  pairs s u (inl a) (inl b) = mains s u a b
  pairs s u (inl a) (inr (inl b)) = main_column s u a b
  pairs s u (inl a) (inr (inr b)) = main_tap s u a b
  pairs s u (inr (inl a)) (inl b) = spaced_back wire.space u.rect s.rect (main_column u s b a)
  pairs s u (inr (inl a)) (inr (inl b)) = columns s u a b
  pairs s u (inr (inl a)) (inr (inr b)) = spaced_back wire.space u.rect s.rect (tap_column u s b a)
  pairs s u (inr (inr a)) (inl b) = spaced_back wire.space u.rect s.rect (main_tap u s b a)
  pairs s u (inr (inr a)) (inr (inl b)) = tap_column s u a b
  pairs s u (inr (inr a)) (inr (inr b)) = taps s u a b

pub few_of : (k : ℕ) → (k ≡ 1) ⊎ (k ≡ 2) → k < 3
few_of k (inl e) = omega (arith, e)
few_of k (inr e) = omega (arith, e)

pub some_of : (k : ℕ) → (k ≡ 1) ⊎ (k ≡ 2) → 0 < k
some_of k (inl e) = omega (arith, e)
some_of k (inr e) = omega (arith, e)

pub cuts_are_spaced : CutsAreSpaced
cuts_are_spaced plan kit wire tracks f m k which s u a b on at = pairs plan kit wire tracks f m k (few_of k which) (some_of k which) s u (on_cut plan kit wire tracks f m k (few_of k which) (some_of k which) s on a) (on_cut plan kit wire tracks f m k (few_of k which) (some_of k which) u at b)
