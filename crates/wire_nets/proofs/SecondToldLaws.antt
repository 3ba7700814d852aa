-- On the second metal, branches of channels and supply trunks are of one net or keep the wires' space.
use Rattle.std.proofs.Common.{◌≡◌, ◌⊎◌, inl, inr, ◌∙◌, ℕ, ◌+◌, ◌<◌, ℤ, pos, ◌+ℤ◌, ◌*ℤ◌, ◌≤ℤ◌, List, ◌∷◌, ◌++◌, refl, sym, ap, subst, arith}
use Rattle.std.specs.Prelude.{slice_index}
use Rattle.std.specs.Int.{int_max}
use Rattle.std.proofs.lemmas.Int.{ints, clamps}
use Rattle.or_geom.specs.declared.shape.Shape.{Shape}
use Rattle.or_geom.specs.declared.place.Place.{Place}
use Rattle.or_geom.specs.Place.{placed, IsImage}
use Rattle.tech_rules.specs.declared.tech.Wire.{Wire}
use Rattle.wire_drawing.specs.Drawing.{IsBox, pitch}
use Rattle.channel_router.specs.Wires.{channel_height, track_y}
use Rattle.sram_netlist.specs.Organization.{Organization, banks_of}
use Rattle.sram_netlist.specs.Instances.{LogicCell, LogicAt}
use Rattle.sram_netlist.specs.Nets.{Net, Vdd, Gnd}
use Rattle.sram_netlist.specs.InstanceList.{logic_cells}
use Rattle.sram_netlist.specs.Netlist.{logic_role}
use Rattle.macro_layout.specs.LayoutKit.{LayoutKit}
use Rattle.macro_layout.specs.Places.{Floorplan, columns_x, total_width}
use Rattle.macro_layout.specs.Floorplan.{Tracks, column_channel_y, upper_y}
use Rattle.macro_layout.specs.Channels.{IsPinFrom}
use Rattle.macro_layout.specs.Wires.{IsSupplyTrunk, trunk_x, ground_x}
use Rattle.good_wires.specs.Spaced.{AreApart}
use Rattle.good_wires.specs.Drawn.{IsDrawnMemory}
use Rattle.good_wires.proofs.LevelLaws.{Levels, levels, Sides, sides, track_below}
use Rattle.good_wires.proofs.PinLaws.{IsInColumns, upright_left, sense_in, logic_upright}
use Rattle.good_places.proofs.RowLaws.{total_split as row_split}
use Rattle.good_wires.proofs.FourthLaws as fourth
use Rattle.joined_nets.specs.WireNets.{IsWireOfNet}
use Rattle.wire_nets.specs.Named.{HasNamedNets, AreToldOn}
use Rattle.wire_nets.proofs.ToldLaws.{told_back, box_left, box_right, box_below}
use Rattle.wire_nets.proofs.KindLaws as kinds

module _ (plan : Organization) (kit : LayoutKit) (wire : Wire) (tracks : Tracks) (f : Floorplan) (m : IsDrawnMemory plan kit wire tracks f) (names : HasNamedNets plan kit wire tracks f m) where
  l : Levels plan kit wire f
  l = levels plan kit wire tracks f m.laid.sizes m.stands

  s_of : Sides plan kit wire f
  s_of = sides plan kit wire tracks f m.laid.sizes m.stands

  abbrev metal : ℕ → ℕ
  metal k = slice_index wire.metals k

  abbrev offset : ℕ → ℤ
  offset b = pos b *ℤ f.bank_width

  abbrev Told : Net → Net → Shape → Shape → Type 0
  Told n k s u = (n ≡ k) ⊎ AreApart wire.space s.rect u.rect

  abbrev IsMainWire : Net → Shape → Type 0
  IsMainWire = kinds.IsMainWire plan kit wire tracks f m 1

  abbrev IsColumnWire : Net → Shape → Type 0
  IsColumnWire = kinds.IsColumnWire plan kit wire tracks f m 1

  -- Kinds

  record IsMainBranch (n : Net) (s : Shape) : Type 0 where
    pub routed : IsMainWire n s
    pub x : ℤ
    pub low : ℤ
    pub high : ℤ
    pub drawn : IsBox (metal 1) x low (x +ℤ wire.width) high s
    pub under : (high +ℤ wire.space) ≤ℤ f.write_y
    pub right : ((x +ℤ wire.width) +ℤ wire.space) ≤ℤ trunk_x plan kit wire f

  record IsColumnBranch (n : Net) (s : Shape) : Type 0 where
    pub routed : IsColumnWire n s
    pub x : ℤ
    pub high : ℤ
    pub at : IsInColumns plan kit wire f routed.bank x
    pub drawn : IsBox (metal 1) x (column_channel_y kit f) (x +ℤ wire.width) high s

  record IsTrunk (n : Net) (s : Shape) : Type 0 where
    pub x : ℤ
    pub at : (x ≡ trunk_x plan kit wire f) ⊎ (x ≡ ground_x plan kit wire f)
    pub named : ((x ≡ trunk_x plan kit wire f) × (n ≡ Vdd)) ⊎ ((x ≡ ground_x plan kit wire f) × (n ≡ Gnd))
    pub drawn : IsSupplyTrunk kit wire f x s

  abbrev IsOnSecond : Net → Shape → Type 0
  IsOnSecond n s = IsMainBranch n s ⊎ (IsColumnBranch n s ⊎ IsTrunk n s)

  total_split : (before cells : List LogicCell) → total_width plan kit (before ++ cells) ≡ total_width plan kit before + total_width plan kit cells
  total_split before cells = row_split plan kit before cells

  logic_pin : (cell : LogicCell) (port : ℕ) (net : Net) (x : ℤ) → IsPinFrom plan kit f (LogicAt cell) port 1 net x → ((x +ℤ wire.width) +ℤ wire.space) ≤ℤ trunk_x plan kit wire f
  logic_pin cell port net x p =
      let at = p.is.stands in
      let left = p.begins ∙ upright_left (f.logic_x +ℤ pos (total_width plan kit at.before)) (pos 0) (kit.pin (logic_role plan cell) port 1) p.rect (subst (λ (q : Place). IsImage (placed q) (kit.pin (logic_role plan cell) port 1) p.rect) at.at p.is.image) in
      let all = ap (total_width plan kit) at.row ∙ total_split at.before (cell ∷ at.after) in
      go f.logic_x (pos (banks_of plan) *ℤ f.bank_width) x (kit.pin (logic_role plan cell) port 1).x1 wire.width wire.space (total_width plan kit (logic_cells plan)) (total_width plan kit at.before) (kit.width (logic_role plan cell)) (total_width plan kit at.after) left (m.pins.right (logic_role plan cell) port 1 (logic_upright plan cell) (inl refl)) all
    where
      go : (lx bq x p w s : ℤ) (all b c a : ℕ) → x ≡ p +ℤ (lx +ℤ pos b) → (p +ℤ w) ≤ℤ pos c → all ≡ b + (c + a) → ((x +ℤ w) +ℤ s) ≤ℤ (int_max bq (lx +ℤ pos all) +ℤ s)
      go lx bq x p w s all b c a e le is = omega (arith, ints, clamps, e, le, is)

  main_kind : (n : Net) (s : Shape) → IsMainWire n s → IsMainBranch n s
  main_kind n s w = by (kinds.main_box plan kit wire tracks f m 1 (omega arith) n s w) where
    by : kinds.IsMainBox plan kit wire tracks f m 1 n s w → IsMainBranch n s
    by (inl (other, trunk)) = absurd (omega (arith, other))
    by (inr (inl (other, x, p, box))) = absurd (omega (arith, other))
    by (inr (inr (one, x, p, box))) =
        let meets = (m.main.meant.bottom w.net x).0 p in
        record {
          routed = w;
          x = x;
          low = m.main.channel.low;
          high = track_y m.main.channel.low wire w.of.t +ℤ wire.width;
          drawn = box;
          under = track_below m.main.channel.low f.write_y wire w.of.t tracks.main m.laid.sizes (m.main.count.below w.net w.of.t w.of.has.on) (m.stands.write_y ∙ ap (λ (z : ℤ). z +ℤ channel_height wire tracks.main) (sym m.main.meant.low));
          right = logic_pin meets.2.0 meets.2.1 meets.0 x meets.2.2;
        }

  column_kind : (n : Net) (s : Shape) → IsColumnWire n s → IsColumnBranch n s
  column_kind n s w = by (kinds.column_box plan kit wire tracks f m 1 (omega arith) n s w) where
    by : kinds.IsColumnBox plan kit wire tracks f m 1 n s w → IsColumnBranch n s
    by (inl (other, trunk)) = absurd (omega (arith, other))
    by (inr (inl (other, x, p, box))) = absurd (omega (arith, other))
    by (inr (inr (one, x, p, box))) =
        let b = w.bank in
        let meets = (m.column.meant.bottom w.net x).0 p in
        record {
          routed = w;
          x = x +ℤ offset b;
          high = track_y m.column.channel.low wire w.of.t +ℤ wire.width;
          at = fourth.in_bank plan kit wire tracks f m b x (sense_in plan kit wire f m.laid m.pins s_of 0 meets.2.0 meets.2.1 1 meets.0 x (inl refl) meets.2.2);
          drawn = subst (λ (z : ℤ). IsBox (metal 1) (x +ℤ offset b) z ((x +ℤ offset b) +ℤ wire.width) (track_y m.column.channel.low wire w.of.t +ℤ wire.width) s) m.column.meant.low (fourth.moved_wide plan kit wire tracks f m b 1 x m.column.channel.low (track_y m.column.channel.low wire w.of.t +ℤ wire.width) w.inner s w.shifted box);
        }

  on_second : (n : Net) (s : Shape) → s.layer ≡ metal 1 → IsWireOfNet plan kit wire tracks f n s → IsOnSecond n s
  on_second n s on is = by (kinds.named_on_metal plan kit wire tracks f m 1 names (omega arith) n s on is) where
    elsewhere : (name : Net) (inner : Shape) → kinds.IsBankBox plan kit wire tracks f 1 name inner → IsOnSecond n s
    elsewhere name inner (inl tap) = let other = tap.0 in absurd (omega (arith, other))
    elsewhere name inner (inr (inl upper)) = let other = upper.0 in absurd (omega (arith, other))
    elsewhere name inner (inr (inr joiner)) = let other = joiner.0 in absurd (omega (arith, other))

    by : kinds.IsNamedOnMetal plan kit wire tracks f m 1 n s → IsOnSecond n s
    by (inl main) = inl (main_kind n s main)
    by (inr (inl column)) = inr (inl (column_kind n s column))
    by (inr (inr (inl (inl (is, inl (one, trunk)))))) = inr (inr (record { x = trunk_x plan kit wire f; at = inl refl; named = inl (refl, is); drawn = trunk }))
    by (inr (inr (inl (inr (is, inl (one, trunk)))))) = inr (inr (record { x = ground_x plan kit wire f; at = inr refl; named = inr (refl, is); drawn = trunk }))
    by (inr (inr (inl (inl (is, inr bar))))) = let other = bar.0 in absurd (omega (arith, other))
    by (inr (inr (inl (inr (is, inr bar))))) = let other = bar.0 in absurd (omega (arith, other))
    by (inr (inr (inr inside))) = elsewhere inside.net inside.inner inside.is

  -- Pairs

  main_column : (n k : Net) (s u : Shape) → IsMainBranch n s → IsColumnBranch k u → Told n k s u
  main_column n k s u a c = box_below wire.space (metal 1) (metal 1) a.x a.low (a.x +ℤ wire.width) a.high c.x (column_channel_y kit f) (c.x +ℤ wire.width) c.high s u a.drawn c.drawn (let p = a.under in let h = l.sense in let k = l.channel in omega (arith, ints, p, h, k))

  -- supply trunks stand behind all
  trunk_right : (x y : ℤ) → (x ≡ trunk_x plan kit wire f) ⊎ (x ≡ ground_x plan kit wire f) → y ≤ℤ trunk_x plan kit wire f → y ≤ℤ x
  trunk_right x y (inl e) le = subst (λ (z : ℤ). y ≤ℤ z) (sym e) le
  trunk_right x y (inr e) le = let w = m.laid.sizes.width.from in let sp = m.laid.sizes.space.from in go x y (trunk_x plan kit wire f) wire.width wire.space e le w sp where
    go : (x y t w s : ℤ) → x ≡ t +ℤ (w +ℤ s) → y ≤ℤ t → pos 1 ≤ℤ w → pos 1 ≤ℤ s → y ≤ℤ x
    go x y t w s e le a b = omega (arith, ints, e, le, a, b)

  main_trunk : (n k : Net) (s u : Shape) → IsMainBranch n s → IsTrunk k u → Told n k s u
  main_trunk n k s u a t = box_left wire.space (metal 1) (metal 1) a.x a.low (a.x +ℤ wire.width) a.high t.x (pos 0) (t.x +ℤ wire.width) (upper_y kit f) s u a.drawn t.drawn (trunk_right t.x ((a.x +ℤ wire.width) +ℤ wire.space) t.at a.right)

  column_right : (b : ℕ) (x : ℤ) → b < banks_of plan → (x +ℤ wire.width) ≤ℤ (f.bank_width +ℤ offset b) → ((x +ℤ wire.width) +ℤ wire.space) ≤ℤ trunk_x plan kit wire f
  column_right b x lt le = go x wire.width wire.space f.bank_width (offset b) (pos (banks_of plan) *ℤ f.bank_width) (f.logic_x +ℤ pos (total_width plan kit (logic_cells plan))) le (fourth.banks_left plan kit wire tracks f m b (banks_of plan) lt) where
    go : (x w s q b all lx : ℤ) → (x +ℤ w) ≤ℤ (q +ℤ b) → (b +ℤ q) ≤ℤ all → ((x +ℤ w) +ℤ s) ≤ℤ (int_max all lx +ℤ s)
    go x w s q b all lx le g = omega (arith, ints, clamps, le, g)

  column_trunk : (n k : Net) (s u : Shape) → IsColumnBranch n s → IsTrunk k u → Told n k s u
  column_trunk n k s u c t = box_left wire.space (metal 1) (metal 1) c.x (column_channel_y kit f) (c.x +ℤ wire.width) c.high t.x (pos 0) (t.x +ℤ wire.width) (upper_y kit f) s u c.drawn t.drawn (trunk_right t.x ((c.x +ℤ wire.width) +ℤ wire.space) t.at (column_right c.routed.bank c.x c.routed.below c.at.to))

  next_trunk : (x y t : ℤ) → x ≡ t → y ≡ t +ℤ pitch wire → ((x +ℤ wire.width) +ℤ wire.space) ≤ℤ y
  next_trunk x y t p q = omega (arith, ints, p, q)

  trunks : (n k : Net) (s u : Shape) → IsTrunk n s → IsTrunk k u → Told n k s u
  trunks n k s u a c = by a.named c.named where
    by : ((a.x ≡ trunk_x plan kit wire f) × (n ≡ Vdd)) ⊎ ((a.x ≡ ground_x plan kit wire f) × (n ≡ Gnd)) → ((c.x ≡ trunk_x plan kit wire f) × (k ≡ Vdd)) ⊎ ((c.x ≡ ground_x plan kit wire f) × (k ≡ Gnd)) → Told n k s u
    by (inl p) (inl q) = inl (p.1 ∙ sym q.1)
    by (inl p) (inr q) = box_left wire.space (metal 1) (metal 1) a.x (pos 0) (a.x +ℤ wire.width) (upper_y kit f) c.x (pos 0) (c.x +ℤ wire.width) (upper_y kit f) s u a.drawn c.drawn (next_trunk a.x c.x (trunk_x plan kit wire f) p.0 q.0)
    by (inr p) (inl q) = box_right wire.space (metal 1) (metal 1) a.x (pos 0) (a.x +ℤ wire.width) (upper_y kit f) c.x (pos 0) (c.x +ℤ wire.width) (upper_y kit f) s u a.drawn c.drawn (next_trunk c.x a.x (trunk_x plan kit wire f) q.0 p.0)
    by (inr p) (inr q) = inl (p.1 ∙ sym q.1)

  columns_apart : (n k : Net) (s u : Shape) (a : IsColumnBranch n s) (c : IsColumnBranch k u) → a.routed.bank < c.routed.bank → Told n k s u
  columns_apart n k s u a c lt =
      box_left wire.space (metal 1) (metal 1) a.x (column_channel_y kit f) (a.x +ℤ wire.width) a.high c.x (column_channel_y kit f) (c.x +ℤ wire.width) c.high s u a.drawn c.drawn
      (let g = fourth.banks_left plan kit wire tracks f m a.routed.bank c.routed.bank lt in let h = a.at.to in let k = c.at.from in let r = s_of.row in let t = s_of.columns in go a.x wire.width wire.space f.bank_width (offset a.routed.bank) (offset c.routed.bank) (columns_x plan kit f) f.row_x c.x h g k r t m.laid.sizes.width.from)
    where
      go : (x w s q b c col row y : ℤ) → (x +ℤ w) ≤ℤ (q +ℤ b) → (b +ℤ q) ≤ℤ c → (col +ℤ c) ≤ℤ y → (w +ℤ s) ≤ℤ row → row ≤ℤ col → pos 1 ≤ℤ w → ((x +ℤ w) +ℤ s) ≤ℤ y
      go x w s q b c col row y h g k r t e = omega (arith, ints, h, g, k, r, t, e)

  columns : (n k : Net) (s u : Shape) → IsColumnBranch n s → IsColumnBranch k u → Told n k s u
  columns n k s u a c = kinds.columns_told plan kit wire tracks f m 1 n k s u a.routed c.routed (λ lt. columns_apart n k s u a c lt) (λ lt. columns_apart k n u s c a lt)

  pairs : (n k : Net) (s u : Shape) → IsOnSecond n s → IsOnSecond k u → Told n k s u
  pairs n k s u (inl a) (inl b) = kinds.mains_told plan kit wire tracks f m 1 n k s u a.routed b.routed
  pairs n k s u (inl a) (inr (inl b)) = main_column n k s u a b
  pairs n k s u (inl a) (inr (inr b)) = main_trunk n k s u a b
  pairs n k s u (inr (inl a)) (inl b) = told_back wire.space u.rect s.rect sym (main_column k n u s b a)
  pairs n k s u (inr (inl a)) (inr (inl b)) = columns n k s u a b
  pairs n k s u (inr (inl a)) (inr (inr b)) = column_trunk n k s u a b
  pairs n k s u (inr (inr a)) (inl b) = told_back wire.space u.rect s.rect sym (main_trunk k n u s b a)
  pairs n k s u (inr (inr a)) (inr (inl b)) = told_back wire.space u.rect s.rect sym (column_trunk k n u s b a)
  pairs n k s u (inr (inr a)) (inr (inr b)) = trunks n k s u a b

-- Wires on the second metal are of one net or keep the wires' space.
pub second_told : (plan : Organization) (kit : LayoutKit) (wire : Wire) (tracks : Tracks) (f : Floorplan) (m : IsDrawnMemory plan kit wire tracks f) → HasNamedNets plan kit wire tracks f m → AreToldOn plan kit wire tracks f (slice_index wire.metals 1)
second_told plan kit wire tracks f m names n k s u a b on at = pairs plan kit wire tracks f m names n k s u (on_second plan kit wire tracks f m names n s on a) (on_second plan kit wire tracks f m names k u at b)
