-- On the fourth metal, wires are joined or keep the wires' space.
use Rattle.std.proofs.Common.{◌≡◌, ◌≢◌, ◌⊎◌, inl, inr, ◌∙◌, ℕ, ◌<◌, ◌≤◌, ℤ, pos, ◌+ℤ◌, ◌*ℤ◌, ◌≤ℤ◌, refl, sym, ap, subst, arith}
use Rattle.std.specs.Prelude.{slice_index}
use Rattle.std.proofs.lemmas.Bool.{cases_lt}
use Rattle.std.proofs.lemmas.Int.{ints}
use Rattle.or_geom.specs.declared.shape.Point.{Point}
use Rattle.or_geom.specs.declared.shape.Shape.{Shape}
use Rattle.or_geom.specs.Joined.{AreJoined}
use Rattle.tech_rules.specs.declared.tech.Wire.{Wire}
use Rattle.wire_drawing.specs.Drawing.{IsBox, pitch}
use Rattle.cell_roles.specs.declared.role.Role.TheVariants.{Inv}
use Rattle.channel_router.specs.Channel.{IsPinOf}
use Rattle.channel_router.specs.Wires.{IsOfNet, IsWireOf, channel_height, track_y}
use Rattle.sram_netlist.specs.Organization.{Organization, banks_of}
use Rattle.sram_netlist.specs.Nets.{Net}
use Rattle.macro_layout.specs.LayoutKit.{LayoutKit}
use Rattle.macro_layout.specs.Places.{Floorplan, bank_x, columns_x}
use Rattle.macro_layout.specs.Floorplan.{Tracks, column_channel_y}
use Rattle.macro_layout.specs.Pins.{IsRailOf}
use Rattle.macro_layout.specs.Wires.{IsWireInBank, IsBar}
use Rattle.macro_layout.specs.Stated.{IsShifted}
use Rattle.good_places.proofs.NumberLaws.{banks_before}
use Rattle.good_wires.specs.Spaced.{AreSpaced}
use Rattle.good_wires.specs.Drawn.{IsDrawnMemory, IsDrawnWire, FourthMetalIsSpaced}
use Rattle.good_wires.proofs.SpacedLaws.{spaced_back, spaced_moves, box_left, box_right, box_below}
use Rattle.good_wires.proofs.LayerLaws.{metals_differ, cut_no_metal}
use Rattle.good_wires.proofs.ChannelLaws.{channels_are_spaced}
use Rattle.good_wires.proofs.LevelLaws.{Levels, levels, Sides, sides, IsRailAt, rail_at, track_above, track_below}
use Rattle.good_wires.proofs.PinLaws.{IsInColumns, column_in}
use Rattle.good_wires.proofs.TapLaws.{tap_low}

-- Two boxes of one width over one height, at one place, are joined.

beside : (x y w : ℤ) → pos 1 ≤ℤ w → ◌≢◌ {A = Point} (record { x = x; y = y }) (record { x = x +ℤ w; y = y })
beside x y w some e = let h : x ≡ x +ℤ w = ap (λ (p : Point). p.x) e in absurd (omega (arith, ints, h, some))

pub over_joined : (l m : ℕ) (x u w y lo hi bottom upper : ℤ) (s t : Shape) → pos 1 ≤ℤ w → x ≡ u → lo ≤ℤ y → y ≤ℤ hi → bottom ≤ℤ y → y ≤ℤ upper → IsBox l x lo (x +ℤ w) hi s → IsBox m u bottom (u +ℤ w) upper t → AreJoined s.rect t.rect
over_joined l m x u w y lo hi bottom upper s t some same a b c d is at =
    let sl = is.left in
    let sr = is.right in
    let sb = is.low in
    let sh = is.high in
    let tl = at.left in
    let tr = at.right in
    let tb = at.low in
    let th = at.high in
    record {
      p = record { x = x; y = y };
      q = record { x = x +ℤ w; y = y };
      differ = beside x y w some;
      p_in_a = record { left = omega (arith, ints, sl); right = omega (arith, ints, sr, some); low = omega (arith, ints, sb, a); high = omega (arith, ints, sh, b) };
      p_in_b = record { left = omega (arith, ints, tl, same); right = omega (arith, ints, tr, same, some); low = omega (arith, ints, tb, c); high = omega (arith, ints, th, d) };
      q_in_a = record { left = omega (arith, ints, sl, some); right = omega (arith, ints, sr); low = omega (arith, ints, sb, a); high = omega (arith, ints, sh, b) };
      q_in_b = record { left = omega (arith, ints, tl, same, some); right = omega (arith, ints, tr, same); low = omega (arith, ints, tb, c); high = omega (arith, ints, th, d) };
    }

module _ (plan : Organization) (kit : LayoutKit) (wire : Wire) (tracks : Tracks) (f : Floorplan) (m : IsDrawnMemory plan kit wire tracks f) where
  l : Levels plan kit wire f
  l = levels plan kit wire tracks f m.laid.sizes m.stands

  s_of : Sides plan kit wire f
  s_of = sides plan kit wire tracks f m.laid.sizes m.stands

  abbrev metal : ℕ → ℕ
  metal k = slice_index wire.metals k

  abbrev offset : ℕ → ℤ
  offset b = pos b *ℤ f.bank_width

  abbrev Spaced : Shape → Shape → Type 0
  Spaced s u = AreSpaced wire.space s.rect u.rect

  -- a wire at a pin of the main channel's upper side, over the write cells' lower edge
  pub record IsStem (s : Shape) : Type 0 where
    pub net : ℕ
    pub x : ℤ
    pub low : ℤ
    pub high : ℤ
    pub pin : IsPinOf m.main.channel.top net x
    pub drawn : IsBox (metal 3) x low (x +ℤ wire.width) high s
    pub below : low ≤ℤ f.write_y
    pub above : f.write_y ≤ℤ high
    pub kind : (high ≤ℤ f.sense_y) ⊎ ((b : ℕ) × IsRailAt wire f b x)

  -- a wire at a pin of a bank's column channel's upper side
  pub record IsColumnBranch (s : Shape) : Type 0 where
    pub bank : ℕ
    pub inner : Shape
    pub net : ℕ
    pub of : IsOfNet m.column.channel wire m.column.intervals m.column.track tracks.column net inner
    pub layer : inner.layer ≡ metal 3
    pub shifted : IsShifted (offset bank) (pos 0) inner s
    pub x : ℤ
    pub y : ℤ
    pub pin : (from : ℤ) × IsPinOf m.column.channel.top net from × (x ≡ from +ℤ offset bank)
    pub at : IsInColumns plan kit wire f bank x
    pub drawn : IsBox (metal 3) x y (x +ℤ wire.width) f.column_y s
    pub above : (column_channel_y kit f +ℤ wire.space) ≤ℤ y

  abbrev pub IsOnFourth : Shape → Type 0
  IsOnFourth s = IsStem s ⊎ IsColumnBranch s

  no_metal : (k : ℕ) (n : ℕ) → k < 3 → n ≡ metal k → n ≡ metal 3 → ⊥
  no_metal k n lt e z = metals_differ wire k 3 m.seven (omega (arith, lt)) (omega arith) (λ q. omega (arith, q, lt)) (sym e ∙ z)

  no_cut : (k : ℕ) (n : ℕ) → k < 3 → n ≡ slice_index wire.cuts k → n ≡ metal 3 → ⊥
  no_cut k n lt e z = cut_no_metal wire k 3 m.seven lt (omega arith) (sym e ∙ z)

  -- which wires those of the main channel are
  main_low : m.main.channel.low ≡ pos (kit.height Inv)
  main_low = m.main.meant.low

  same_top : (low : ℤ) (n : ℕ) → f.write_y ≡ pos (kit.height Inv) +ℤ channel_height wire n → low ≡ pos (kit.height Inv) → low +ℤ channel_height wire n ≡ f.write_y
  same_top low n e z = ap (λ (q : ℤ). q +ℤ channel_height wire n) z ∙ sym e

  main_kind : (s : Shape) → s.layer ≡ metal 3 → (net : ℕ) → IsOfNet m.main.channel wire m.main.intervals m.main.track tracks.main net s → IsStem s
  main_kind s on net is = by is.wires where
    by : IsWireOf m.main.channel wire tracks.main net is.interval is.t s → IsStem s
    by (inl trunk) = absurd (no_metal 2 s.layer (omega arith) trunk.on on)
    by (inr (inl (x, p, inr via))) = absurd (no_cut 2 s.layer (omega arith) via.on on)
    by (inr (inr (x, p, inl box))) = absurd (no_metal 1 s.layer (omega arith) box.on on)
    by (inr (inr (x, p, inr via))) = absurd (no_cut 1 s.layer (omega arith) via.on on)
    by (inr (inl (x, p, inl box))) =
        let top = same_top m.main.channel.low tracks.main m.stands.write_y main_low in
        let under = track_below m.main.channel.low f.write_y wire is.t tracks.main m.laid.sizes (m.main.count.below net is.t is.has.on) (sym top) in
        record {
          net = net;
          x = x;
          low = track_y m.main.channel.low wire is.t;
          high = m.main.channel.low +ℤ channel_height wire tracks.main;
          pin = p;
          drawn = box;
          below = under_top (track_y m.main.channel.low wire is.t) wire.width wire.space f.write_y m.laid.sizes.width.from m.laid.sizes.space.from under;
          above = let e = top in omega (arith, ints, e);
          kind = inl (let e = top in let a = l.sense in omega (arith, ints, e, a));
        }
      where
        under_top : (y w s z : ℤ) → pos 1 ≤ℤ w → pos 1 ≤ℤ s → ((y +ℤ w) +ℤ s) ≤ℤ z → y ≤ℤ z
        under_top y w s z a b c = omega (arith, ints, a, b, c)

  -- boxes of bank 0 as they stand in bank b
  pub moved_box : (b k : ℕ) (x y u v : ℤ) (inner s : Shape) → IsShifted (offset b) (pos 0) inner s → IsBox (metal k) x y u v inner → IsBox (metal k) (x +ℤ offset b) y (u +ℤ offset b) v s
  moved_box b k x y u v inner s sh is = record {
    on = sh.layer ∙ is.on;
    left = sh.x1 ∙ ap (λ (z : ℤ). z +ℤ offset b) is.left;
    low = sh.y1 ∙ ap (λ (z : ℤ). z +ℤ pos 0) is.low ∙ none y;
    right = sh.x2 ∙ ap (λ (z : ℤ). z +ℤ offset b) is.right;
    high = sh.y2 ∙ ap (λ (z : ℤ). z +ℤ pos 0) is.high ∙ none v;
  } where
    none : (z : ℤ) → z +ℤ pos 0 ≡ z
    none z = omega (arith, ints)

  wide : (x w q : ℤ) → (x +ℤ w) +ℤ q ≡ (x +ℤ q) +ℤ w
  wide x w q = omega (arith, ints)

  pub moved_wide : (b k : ℕ) (x y v : ℤ) (inner s : Shape) → IsShifted (offset b) (pos 0) inner s → IsBox (metal k) x y (x +ℤ wire.width) v inner → IsBox (metal k) (x +ℤ offset b) y ((x +ℤ offset b) +ℤ wire.width) v s
  moved_wide b k x y v inner s sh is = subst (λ (z : ℤ). IsBox (metal k) (x +ℤ offset b) y z v s) (wide x wire.width (offset b)) (moved_box b k x y (x +ℤ wire.width) v inner s sh is)

  first_bank : (x y : ℤ) → (x +ℤ (pos 0 *ℤ f.bank_width)) ≤ℤ y → x ≤ℤ y
  first_bank x y le = let z = zero_times f.bank_width in omega (arith, ints, le, z) where
    zero_times : (q : ℤ) → pos 0 *ℤ q ≡ pos 0
    zero_times q = grind (arith, ints)

  pub in_bank : (b : ℕ) (x : ℤ) → IsInColumns plan kit wire f 0 x → IsInColumns plan kit wire f b (x +ℤ offset b)
  in_bank b x i = let z = zero_times f.bank_width in let a = i.from in let c = i.to in record { from = go1 (columns_x plan kit f) (offset 0) (offset b) x z a; to = go2 f.bank_width (offset 0) (offset b) x wire.width z c } where
    zero_times : (q : ℤ) → pos 0 *ℤ q ≡ pos 0
    zero_times q = grind (arith, ints)

    go1 : (c o q x : ℤ) → o ≡ pos 0 → (c +ℤ o) ≤ℤ x → (c +ℤ q) ≤ℤ (x +ℤ q)
    go1 c o q x e le = omega (arith, ints, e, le)

    go2 : (bank o q x w : ℤ) → o ≡ pos 0 → (x +ℤ w) ≤ℤ (bank +ℤ o) → ((x +ℤ q) +ℤ w) ≤ℤ (bank +ℤ q)
    go2 bank o q x w e le = omega (arith, ints, e, le)

  pub rail_in : (b : ℕ) (net : Net) (x : ℤ) → IsRailOf plan wire f 0 net x → IsRailAt wire f b (x +ℤ offset b)
  rail_in b net x is =
      let r = rail_at plan kit wire f 0 net x s_of is in
      let z = zero_times f.bank_width in
      record { from = let a = r.from in go1 (pitch wire) (offset 0) (offset b) x z a; to = let c = r.to in go2 f.row_x (offset 0) (offset b) x wire.width wire.space z c }
    where
      zero_times : (q : ℤ) → pos 0 *ℤ q ≡ pos 0
      zero_times q = grind (arith, ints)

      go1 : (c o q x : ℤ) → o ≡ pos 0 → (c +ℤ o) ≤ℤ x → (c +ℤ q) ≤ℤ (x +ℤ q)
      go1 c o q x e le = omega (arith, ints, e, le)

      go2 : (bank o q x w s : ℤ) → o ≡ pos 0 → ((x +ℤ w) +ℤ s) ≤ℤ (bank +ℤ o) → (((x +ℤ q) +ℤ w) +ℤ s) ≤ℤ (bank +ℤ q)
      go2 bank o q x w s e le = omega (arith, ints, e, le)

  column_kind : (b : ℕ) (inner s : Shape) → IsShifted (offset b) (pos 0) inner s → s.layer ≡ metal 3 → (net : ℕ) → IsOfNet m.column.channel wire m.column.intervals m.column.track tracks.column net inner → IsColumnBranch s
  column_kind b inner s sh on net is = by is.wires where
    on_inner : inner.layer ≡ metal 3
    on_inner = sym sh.layer ∙ on

    by : IsWireOf m.column.channel wire tracks.column net is.interval is.t inner → IsColumnBranch s
    by (inl trunk) = absurd (no_metal 2 inner.layer (omega arith) trunk.on on_inner)
    by (inr (inl (x, p, inr via))) = absurd (no_cut 2 inner.layer (omega arith) via.on on_inner)
    by (inr (inr (x, p, inl box))) = absurd (no_metal 1 inner.layer (omega arith) box.on on_inner)
    by (inr (inr (x, p, inr via))) = absurd (no_cut 1 inner.layer (omega arith) via.on on_inner)
    by (inr (inl (x, p, inl box))) =
        let meets = (m.column.meant.top net x).0 p in
        record {
          bank = b;
          inner = inner;
          net = net;
          of = is;
          layer = on_inner;
          shifted = sh;
          x = x +ℤ offset b;
          y = track_y m.column.channel.low wire is.t;
          pin = (x, p, refl);
          at = in_bank b x (column_in plan kit wire f m.laid m.pins s_of plan.col_bits 0 meets.2.0 meets.2.1 3 meets.0 x (inr refl) meets.2.2);
          drawn = subst (λ (z : ℤ). IsBox (metal 3) (x +ℤ offset b) (track_y m.column.channel.low wire is.t) ((x +ℤ offset b) +ℤ wire.width) z s) (ap (λ (z : ℤ). z +ℤ channel_height wire tracks.column) m.column.meant.low ∙ sym m.stands.column_y) (moved_wide b 3 x (track_y m.column.channel.low wire is.t) (m.column.channel.low +ℤ channel_height wire tracks.column) inner s sh box);
          above = subst (λ (z : ℤ). (z +ℤ wire.space) ≤ℤ track_y m.column.channel.low wire is.t) m.column.meant.low (track_above m.column.channel.low wire is.t m.laid.sizes);
        }

  bank_kind : (b : ℕ) (inner s : Shape) → b < banks_of plan → IsShifted (offset b) (pos 0) inner s → s.layer ≡ metal 3 → IsWireInBank plan kit wire tracks f inner → IsOnFourth s
  bank_kind b inner s below sh on (inl channel) = let n = m.column.each inner channel in inr (column_kind b inner s sh on n.0 n.1)
  bank_kind b inner s below sh on (inr (inl tap)) = elim tap.drawn [
    | inl box ↦ absurd (no_metal 2 s.layer (omega arith) (sh.layer ∙ box.on) on)
    | inr via ↦ absurd (no_cut 2 s.layer (omega arith) (sh.layer ∙ via.on) on)
  ]
  bank_kind b inner s below sh on (inr (inr (inl rail))) =
      let n = m.rails b rail.tap.net rail.x below rail.tap.rail in
      let low = tap_low plan kit wire tracks f rail.x rail.y rail.end m rail.tap in
      let w = m.laid.sizes.width.from in
      inl (record {
        net = n.0;
        x = rail.x +ℤ offset b;
        low = f.write_y;
        high = rail.y +ℤ wire.width;
        pin = n.1;
        drawn = moved_wide b 3 rail.x f.write_y (rail.y +ℤ wire.width) inner s sh rail.drawn;
        below = omega (arith, ints);
        above = omega (arith, ints, low, w);
        kind = inr (b, rail_in b rail.tap.net rail.x rail.tap.rail);
      })
  bank_kind b inner s below sh on (inr (inr (inr (inl out)))) =
      let n = m.outputs b out.bit out.net out.rect below out.pin in
      let a = l.sense in
      inl (record {
        net = n.0;
        x = out.rect.x1 +ℤ offset b;
        low = f.write_y;
        high = f.sense_y;
        pin = n.1;
        drawn = moved_wide b 3 out.rect.x1 f.write_y f.sense_y inner s sh out.drawn;
        below = omega (arith, ints);
        above = a;
        kind = inl (omega (arith, ints));
      })
  bank_kind b inner s below sh on (inr (inr (inr (inr (inl joiner))))) = absurd (no_metal 0 s.layer (omega arith) (sh.layer ∙ joiner.1.on) on)
  bank_kind b inner s below sh on (inr (inr (inr (inr (inr joiner))))) = absurd (no_metal 0 s.layer (omega arith) (sh.layer ∙ joiner.on) on)

  bar_elsewhere : (trunk x y : ℤ) (s : Shape) → s.layer ≡ metal 3 → IsBar wire trunk x y s → ⊥
  bar_elsewhere trunk x y s on (inl box) = no_metal 0 s.layer (omega arith) box.on on
  bar_elsewhere trunk x y s on (inr via) = no_cut 0 s.layer (omega arith) via.on on

  pub on_fourth : (s : Shape) → s.layer ≡ metal 3 → IsDrawnWire plan kit wire tracks f s → IsOnFourth s
  on_fourth s on (inl (inl channel)) = let n = m.main.each s channel in inl (main_kind s on n.0 n.1)
  on_fourth s on (inl (inr (inl (inl trunk)))) = absurd (no_metal 1 s.layer (omega arith) trunk.on on)
  on_fourth s on (inl (inr (inl (inr (x, y, at, bar))))) = absurd (bar_elsewhere _ x y s on bar)
  on_fourth s on (inl (inr (inr (inl trunk)))) = absurd (no_metal 1 s.layer (omega arith) trunk.on on)
  on_fourth s on (inl (inr (inr (inr (x, y, at, bar))))) = absurd (bar_elsewhere _ x y s on bar)
  on_fourth s on (inr banks) = bank_kind banks.bank banks.inner s banks.below banks.shifted on banks.is

  -- Pairs

  pub behind : (x u w s : ℤ) → (x +ℤ (w +ℤ s)) ≤ℤ u → ((x +ℤ w) +ℤ s) ≤ℤ u
  behind x u w s le = omega (arith, ints, le)

  stems : (s u : Shape) → IsStem s → IsStem u → Spaced s u
  stems s u a b = elim (m.main.top a.net b.net a.x b.x a.pin b.pin) [
    | inl one ↦ inl (over_joined (metal 3) (metal 3) a.x b.x wire.width f.write_y a.low a.high b.low b.high s u m.laid.sizes.width.from one.1 a.below a.above b.below b.above a.drawn b.drawn)
    | inr apart ↦ elim apart [
      | inl before ↦ box_left wire.space (metal 3) (metal 3) a.x a.low (a.x +ℤ wire.width) a.high b.x b.low (b.x +ℤ wire.width) b.high s u a.drawn b.drawn (behind a.x b.x wire.width wire.space before)
      | inr after ↦ box_right wire.space (metal 3) (metal 3) a.x a.low (a.x +ℤ wire.width) a.high b.x b.low (b.x +ℤ wire.width) b.high s u a.drawn b.drawn (behind b.x a.x wire.width wire.space after)
    ]
  ]

  -- banks further left
  pub banks_left : (b c : ℕ) → b < c → (offset b +ℤ f.bank_width) ≤ℤ offset c
  banks_left b c lt = banks_before b c f.bank_width lt s_of.wide

  pub same_bank : (b c : ℕ) → b ≡ c → offset b ≡ offset c
  same_bank b c e = ap (λ (k : ℕ). pos k *ℤ f.bank_width) e

  stem_column : (s u : Shape) → IsStem s → IsColumnBranch u → Spaced s u
  stem_column s u a c = elim a.kind [
    | inl low ↦ box_below wire.space (metal 3) (metal 3) a.x a.low (a.x +ℤ wire.width) a.high c.x c.y (c.x +ℤ wire.width) f.column_y s u a.drawn c.drawn (let h = l.channel in let y = c.above in omega (arith, ints, low, h, y))
    | inr rail ↦ elim (cases_lt c.bank rail.0) [
      | inl lt ↦ box_right wire.space (metal 3) (metal 3) a.x a.low (a.x +ℤ wire.width) a.high c.x c.y (c.x +ℤ wire.width) f.column_y s u a.drawn c.drawn
          (let g = banks_left c.bank rail.0 lt in let h = rail.1.from in let k = c.at.to in right_of_bank c.x wire.width f.bank_width (offset c.bank) (offset rail.0) a.x wire.space k g h m.laid.sizes.width.from)
      | inr ge ↦ box_left wire.space (metal 3) (metal 3) a.x a.low (a.x +ℤ wire.width) a.high c.x c.y (c.x +ℤ wire.width) f.column_y s u a.drawn c.drawn (in_front rail.0 c.bank ge rail.1.to c.at.from)
    ]
  ] where
    right_of_bank : (x w q c r y s : ℤ) → (x +ℤ w) ≤ℤ (q +ℤ c) → (c +ℤ q) ≤ℤ r → ((w +ℤ s) +ℤ r) ≤ℤ y → pos 1 ≤ℤ w → ((x +ℤ w) +ℤ s) ≤ℤ y
    right_of_bank x w q c r y s a b d e = omega (arith, ints, a, b, d, e)

    in_front : (b k : ℕ) → b ≤ k → ((a.x +ℤ wire.width) +ℤ wire.space) ≤ℤ bank_x f b f.row_x → bank_x f k (columns_x plan kit f) ≤ℤ c.x → ((a.x +ℤ wire.width) +ℤ wire.space) ≤ℤ c.x
    in_front b k le p q = go (a.x +ℤ wire.width) wire.space f.row_x (columns_x plan kit f) (offset b) (offset k) c.x p q s_of.columns (up b k le) where
      go : (e s row col b k x : ℤ) → (e +ℤ s) ≤ℤ (row +ℤ b) → (col +ℤ k) ≤ℤ x → row ≤ℤ col → b ≤ℤ k → (e +ℤ s) ≤ℤ x
      go e s row col b k x p q r t = omega (arith, ints, p, q, r, t)

      up : (b k : ℕ) → b ≤ k → offset b ≤ℤ offset k
      up b k le = elim (cases_lt b k) [
        | inl lt ↦ let g = banks_left b k lt in let w = s_of.wide in omega (arith, ints, g, w)
        | inr ge ↦ let e = same_bank b k (omega (arith, le, ge)) in omega (arith, ints, e)
      ]

  columns_apart : (s u : Shape) (a : IsColumnBranch s) (c : IsColumnBranch u) → a.bank < c.bank → Spaced s u
  columns_apart s u a c lt =
      box_left wire.space (metal 3) (metal 3) a.x a.y (a.x +ℤ wire.width) f.column_y c.x c.y (c.x +ℤ wire.width) f.column_y s u a.drawn c.drawn
      (let g = banks_left a.bank c.bank lt in let h = a.at.to in let k = c.at.from in let r = s_of.row in let t = s_of.columns in go a.x wire.width wire.space f.bank_width (offset a.bank) (offset c.bank) (columns_x plan kit f) f.row_x c.x h g k r t m.laid.sizes.width.from)
    where
      go : (x w s q b c col row y : ℤ) → (x +ℤ w) ≤ℤ (q +ℤ b) → (b +ℤ q) ≤ℤ c → (col +ℤ c) ≤ℤ y → (w +ℤ s) ≤ℤ row → row ≤ℤ col → pos 1 ≤ℤ w → ((x +ℤ w) +ℤ s) ≤ℤ y
      go x w s q b c col row y h g k r t e = omega (arith, ints, h, g, k, r, t, e)

  columns : (s u : Shape) → IsColumnBranch s → IsColumnBranch u → Spaced s u
  columns s u a c = elim (cases_lt a.bank c.bank) [
    | inl lt ↦ columns_apart s u a c lt
    | inr ge ↦ elim (cases_lt c.bank a.bank) [
      | inl lt ↦ spaced_back wire.space u.rect s.rect (columns_apart u s c a lt)
      | inr le ↦
          let e : c.bank ≡ a.bank = omega (arith, ge, le) in
          spaced_moves wire.space (offset a.bank) a.inner c.inner s u a.shifted (subst (λ (k : ℕ). IsShifted (offset k) (pos 0) c.inner u) e c.shifted)
          (channels_are_spaced m.column.channel wire m.column.intervals m.column.track tracks.column m.laid.sizes m.seven m.column.assigned m.column.top m.column.bottom a.net c.net a.inner c.inner a.of c.of (a.layer ∙ sym c.layer))
    ]
  ]

  pairs : (s u : Shape) → IsOnFourth s → IsOnFourth u → Spaced s u
  pairs s u (inl a) (inl b) = stems s u a b
  pairs s u (inl a) (inr b) = stem_column s u a b
  pairs s u (inr a) (inl b) = spaced_back wire.space u.rect s.rect (stem_column u s b a)
  pairs s u (inr a) (inr b) = columns s u a b

pub fourth_metal_is_spaced : FourthMetalIsSpaced
fourth_metal_is_spaced plan kit wire tracks f m s u a b on at = pairs plan kit wire tracks f m s u (on_fourth plan kit wire tracks f m s on a) (on_fourth plan kit wire tracks f m u at b)
