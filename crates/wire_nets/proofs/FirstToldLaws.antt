-- On the first metal, wires are of one net, or there is something between them.
use Rattle.std.proofs.Common.{◌≡◌, ◌⊎◌, inl, inr, ◌∙◌, ℕ, zero, suc, ◌+◌, ◌*◌, ◌%◌, ◌<◌, ◌≤◌, ℤ, pos, ◌+ℤ◌, ◌-ℤ◌, ◌*ℤ◌, ◌≤ℤ◌, ◌<ℤ◌, refl, sym, ap, subst, arith}
use Rattle.std.specs.Prelude.{slice_index}
use Rattle.std.proofs.lemmas.Bool.{cases_lt}
use Rattle.std.proofs.lemmas.Int.{ints}
use Rattle.or_geom.specs.declared.shape.Shape.{Shape}
use Rattle.cell_roles.specs.declared.role.Role.TheVariants.{Inv, Write, Sense, Precharge}
use Rattle.tech_rules.specs.declared.tech.Wire.{Wire}
use Rattle.wire_drawing.specs.Drawing.{IsBox, pitch}
use Rattle.channel_router.specs.Wires.{IsWireOf}
use Rattle.channel_router.specs.declared.channel.Channel.{Channel}
use Rattle.channel_router.specs.declared.channel.Interval.{Interval}
use Rattle.sram_netlist.specs.Organization.{Organization, IsWritten, bank_rows}
use Rattle.sram_netlist.specs.Nets.{Net, Vdd, Gnd}
use Rattle.macro_layout.specs.LayoutKit.{LayoutKit}
use Rattle.macro_layout.specs.Places.{Floorplan, bit_height}
use Rattle.macro_layout.specs.Floorplan.{Tracks, column_channel_y, column_role, upper_y, write_height}
use Rattle.macro_layout.specs.Wires.{IsPowerBarAt, IsGroundBarAt, row_y}
use Rattle.macro_layout.specs.Stated.{IsShifted}
use Rattle.good_places.proofs.NumberLaws.{all_of, times_low}
use Rattle.good_wires.specs.Spaced.{AreApart}
use Rattle.good_wires.specs.Drawn.{IsDrawnMemory}
use Rattle.good_wires.proofs.LevelLaws.{Levels, levels, pitch_low}
use Rattle.joined_nets.specs.WireNets.{in_bank, IsWireOfNet}
use Rattle.wire_nets.proofs.KindLaws as kinds
use Rattle.wire_nets.proofs.StackLaws.{IsStack, AreOver, PowerHeight, GroundHeight, stack_told}
use Rattle.wire_nets.specs.Named.{AreToldApart, AreHighCells}
use Rattle.sram_netlist.proofs.Bounds.{written_all}

module _ (plan : Organization) (kit : LayoutKit) (wire : Wire) (tracks : Tracks) (f : Floorplan) (m : IsDrawnMemory plan kit wire tracks f) (tall : AreHighCells plan kit wire) where
  l : Levels plan kit wire f
  l = levels plan kit wire tracks f m.laid.sizes m.stands

  abbrev metal : ℕ → ℕ
  metal k = slice_index wire.metals k

  stack : IsStack wire.width (pos (kit.height Inv)) f.write_y f.sense_y (column_channel_y kit f) f.column_y f.array_y f.precharge_y (upper_y kit f)
  stack = record {
    one = m.laid.sizes.width.from;
    logic = tall.logic;
    up = up (kit.height Inv) f.write_y wire.space (pos tracks.main *ℤ pitch wire) m.stands.write_y m.laid.sizes.space.from (times_low tracks.main (pitch wire) (pitch_low wire m.laid.sizes));
    sense = l.sense;
    channel = over f.sense_y (kit.height Sense) wire.width tall.sense;
    column = beyond (column_channel_y kit f) wire.space f.column_y l.column m.laid.sizes.space.from;
    array = above f.column_y f.array_y (kit.height (column_role plan.col_bits)) wire.width m.stands.array_y tall.column;
    precharge = l.precharge;
    top = over f.precharge_y (kit.height Precharge) wire.width tall.precharge;
  } where
    up : (h : ℕ) (y s t : ℤ) → y ≡ pos h +ℤ (s +ℤ t) → pos 1 ≤ℤ s → pos 0 ≤ℤ t → pos h <ℤ y
    up h y s t e a b = omega (arith, ints, e, a, b)

    over : (y : ℤ) (h : ℕ) (w : ℤ) → (w +ℤ w) <ℤ pos h → (y +ℤ (w +ℤ w)) <ℤ (y +ℤ pos h)
    over y h w a = omega (arith, ints, a)

    above : (y z : ℤ) (h : ℕ) (w : ℤ) → z ≡ y +ℤ pos h → (w +ℤ w) <ℤ pos h → (y +ℤ (w +ℤ w)) <ℤ z
    above y z h w e a = omega (arith, ints, e, a)

    beyond : (c s o : ℤ) → (c +ℤ s) ≤ℤ o → pos 1 ≤ℤ s → c <ℤ o
    beyond c s o a b = omega (arith, ints, a, b)

  -- rows

  odd_some : (r : ℕ) → r % 2 ≡ 1 → 0 < r
  odd_some zero e = absurd (omega (arith, e))
  odd_some (suc r) e = omega arith

  row_under : (r : ℕ) → r < bank_rows plan → (row_y kit f r +ℤ (wire.width +ℤ wire.width)) <ℤ f.precharge_y
  row_under r lt = go f.array_y f.precharge_y (r * bit_height kit) (bit_height kit) (bank_rows plan * bit_height kit) wire.width m.stands.precharge_y (all_of r (bank_rows plan) (bit_height kit) lt) tall.bit where
    go : (a p : ℤ) (x h n : ℕ) (w : ℤ) → p ≡ a +ℤ pos n → x + h ≤ n → (w +ℤ w) <ℤ pos h → ((a +ℤ pos x) +ℤ (w +ℤ w)) <ℤ p
    go a p x h n w e le b = omega (arith, ints, e, le, b)

  row_low : (r : ℕ) → f.array_y ≤ℤ row_y kit f r
  row_low r = go f.array_y (r * bit_height kit) where
    go : (a : ℤ) (x : ℕ) → a ≤ℤ (a +ℤ pos x)
    go a x = omega (arith, ints)

  rows_over : (r t : ℕ) → r < t → (row_y kit f r +ℤ (wire.width +ℤ wire.width)) <ℤ row_y kit f t
  rows_over r t lt = go f.array_y (r * bit_height kit) (bit_height kit) (t * bit_height kit) wire.width (all_of r t (bit_height kit) lt) tall.bit where
    go : (a : ℤ) (x h n : ℕ) (w : ℤ) → x + h ≤ n → (w +ℤ w) <ℤ pos h → ((a +ℤ pos x) +ℤ (w +ℤ w)) <ℤ (a +ℤ pos n)
    go a x h n w le b = omega (arith, ints, le, b)

  row_over : (r : ℕ) → 0 < r → (f.array_y +ℤ (wire.width +ℤ wire.width)) <ℤ row_y kit f r
  row_over r lt = first f.array_y (row_y kit f r) (wire.width +ℤ wire.width) (rows_over 0 r lt) where
    first : (a y w : ℤ) → ((a +ℤ pos (0 * bit_height kit)) +ℤ w) <ℤ y → (a +ℤ w) <ℤ y
    first a y w lt = omega (arith, ints, lt)

  written_over : IsWritten plan → (f.write_y +ℤ (wire.width +ℤ wire.width)) <ℤ f.sense_y
  written_over w = go f.write_y f.sense_y (write_height plan kit) (kit.height Write) wire.width m.stands.sense_y (written_all plan.write_size (kit.height Write) w) (tall.write w) where
    go : (y z : ℤ) (h k : ℕ) (w : ℤ) → z ≡ y +ℤ pos h → h ≡ k → (w +ℤ w) <ℤ pos k → (y +ℤ (w +ℤ w)) <ℤ z
    go y z h k w e d a = omega (arith, ints, e, d, a)

  abbrev OddRow : ℤ → Type 0
  OddRow y = (r : ℕ) × (r % 2 ≡ 1) × (y ≡ row_y kit f r)

  abbrev EvenRow : ℤ → Type 0
  EvenRow y = (r : ℕ) × (r % 2 ≡ 0) × (y ≡ row_y kit f r)

  abbrev Power : ℤ → Type 0
  Power y = PowerHeight (OddRow y) wire.width (pos (kit.height Inv)) f.write_y f.sense_y (column_channel_y kit f) f.column_y f.array_y f.precharge_y (upper_y kit f) y

  abbrev Ground : ℤ → Type 0
  Ground y = GroundHeight (EvenRow y) wire.width f.write_y f.sense_y f.array_y f.precharge_y y

  power : (x y : ℤ) → IsPowerBarAt plan kit wire f x y → Power y
  power x y (inl at) = inl at.1
  power x y (inr (inl at)) = inr (inl (written_over at.0, at.2))
  power x y (inr (inr (inl at))) = inr (inr (inl at.1))
  power x y (inr (inr (inr (inl at)))) = inr (inr (inr (inl at.1)))
  power x y (inr (inr (inr (inr (inl (r, lt, odd, e, at)))))) = inr (inr (inr (inr (inl ((r, odd, at), subst (λ (z : ℤ). (f.array_y +ℤ (wire.width +ℤ wire.width)) <ℤ z) (sym at) (row_over r (odd_some r odd)), subst (λ (z : ℤ). (z +ℤ (wire.width +ℤ wire.width)) <ℤ f.precharge_y) (sym at) (row_under r lt))))))
  power x y (inr (inr (inr (inr (inr at))))) = inr (inr (inr (inr (inr at.1))))

  ground : (x y : ℤ) → IsGroundBarAt plan kit f x y → Ground y
  ground x y (inl at) = inl at.1
  ground x y (inr (inl at)) = inr (inl at.1)
  ground x y (inr (inr (inl (r, lt, even, e, at)))) = inr (inr (inl ((r, even, at), subst (λ (z : ℤ). f.array_y ≤ℤ z) (sym at) (row_low r), subst (λ (z : ℤ). (z +ℤ (wire.width +ℤ wire.width)) <ℤ f.precharge_y) (sym at) (row_under r lt))))
  ground x y (inr (inr (inr at))) = inr (inr (inr (inl at.1)))

  rows : (y z : ℤ) → OddRow y → EvenRow z → AreOver wire.width y z
  rows y z (r, odd, at) (t, even, be) = elim (cases_lt r t) [
    | inl lt ↦ inl (go y z (row_y kit f r) (row_y kit f t) wire.width at be (rows_over r t lt) m.laid.sizes.width.from)
    | inr ge ↦ elim (cases_lt t r) [
      | inl lt ↦ inr (go z y (row_y kit f t) (row_y kit f r) wire.width be at (rows_over t r lt) m.laid.sizes.width.from)
      | inr le ↦ let e : r % 2 ≡ t % 2 = ap (λ (k : ℕ). k % 2) (omega (arith, ge, le)) in absurd (differ (r % 2) (t % 2) odd even e)
    ]
  ] where
    go : (y z a b w : ℤ) → y ≡ a → z ≡ b → (a +ℤ (w +ℤ w)) <ℤ b → pos 1 ≤ℤ w → ((y +ℤ w) +ℤ pos 1) ≤ℤ z
    go y z a b w e d lt one = omega (arith, ints, e, d, lt, one)

    differ : (a b : ℕ) → a ≡ 1 → b ≡ 0 → a ≡ b → ⊥
    differ a b e d s = omega (arith, e, d, s)

  -- a bar or a joiner
  record IsFlatWire (n : Net) (s : Shape) : Type 0 where
    pub y : ℤ
    pub low : s.rect.y1 ≡ y
    pub high : s.rect.y2 ≡ y +ℤ wire.width
    pub kind : ((n ≡ Vdd) × Power y) ⊎ ((n ≡ Gnd) × Ground y)

  -- no wire of a channel stands on the first metal
  no_channel : (ch : Channel) (count number t : ℕ) (interval : Interval) (s : Shape) → s.layer ≡ metal 0 → IsWireOf ch wire count number interval t s → ⊥
  no_channel ch count number t interval s on is = by (kinds.channel_box plan kit wire tracks f 0 m.seven (omega arith) ch count number interval t s on is) where
    by : kinds.IsChannelBox plan kit wire tracks f 0 ch count number interval t s → ⊥
    by (inl (other, trunk)) = omega (arith, other)
    by (inr (inl (other, x, p, box))) = omega (arith, other)
    by (inr (inr (other, x, p, box))) = omega (arith, other)

  -- a joiner with this upper edge, in its bank
  joiner : (b : ℕ) (n name : Net) (inner s : Shape) (top left right : ℤ) → n ≡ in_bank b name → name ≡ Gnd → IsShifted (pos b *ℤ f.bank_width) (pos 0) inner s → IsBox (metal 0) left (top -ℤ wire.width) right top inner → Ground (top -ℤ wire.width) → IsFlatWire n s
  joiner b n name inner s top left right is ground sh box at =
      let a = sh.y1 in
      let c = sh.y2 in
      let d = box.low in
      let e = box.high in
      record {
        y = top -ℤ wire.width;
        low = go s.rect.y1 inner.rect.y1 (top -ℤ wire.width) a d;
        high = end s.rect.y2 inner.rect.y2 top wire.width c e;
        kind = inr (is ∙ ap (in_bank b) ground, at);
      }
    where
      go : (s i y : ℤ) → s ≡ i +ℤ pos 0 → i ≡ y → s ≡ y
      go s i y a d = omega (arith, ints, a, d)

      end : (s i t w : ℤ) → s ≡ i +ℤ pos 0 → i ≡ t → s ≡ (t -ℤ w) +ℤ w
      end s i t w a d = omega (arith, ints, a, d)

  bank_kind : (b : ℕ) (n name : Net) (inner s : Shape) → n ≡ in_bank b name → IsShifted (pos b *ℤ f.bank_width) (pos 0) inner s → kinds.IsBankBox plan kit wire tracks f 0 name inner → IsFlatWire n s
  bank_kind b n name inner s is sh (inl tap) = let other = tap.0 in absurd (omega (arith, other))
  bank_kind b n name inner s is sh (inr (inl upper)) = let other = upper.0 in absurd (omega (arith, other))
  bank_kind b n name inner s is sh (inr (inr (none, gnd, inl box))) = joiner b n name inner s f.sense_y _ _ is gnd sh box.1 (inr (inr (inr (inr (inl (written_over box.0, refl))))))
  bank_kind b n name inner s is sh (inr (inr (none, gnd, inr box))) = joiner b n name inner s f.array_y _ _ is gnd sh box (inr (inr (inr (inr (inr refl)))))

  on_first : (n : Net) (s : Shape) → s.layer ≡ metal 0 → IsWireOfNet plan kit wire tracks f n s → IsFlatWire n s
  on_first n s on is = by (kinds.on_metal plan kit wire tracks f 0 m.seven (omega arith) n s on is) where
    by : kinds.IsOnMetal plan kit wire tracks f 0 n s → IsFlatWire n s
    by (inl channel) = absurd (no_channel channel.channel tracks.main channel.number channel.drawn.t channel.drawn.interval s on channel.drawn.wires)
    by (inr (inl w)) = absurd (no_channel w.is.channel tracks.column w.is.number w.is.drawn.t w.is.drawn.interval w.inner w.layer w.is.drawn.wires)
    by (inr (inr (inl (inl (is, inl (other, trunk)))))) = absurd (omega (arith, other))
    by (inr (inr (inl (inr (is, inl (other, trunk)))))) = absurd (omega (arith, other))
    by (inr (inr (inl (inl (is, inr (none, x, y, at, box)))))) = record { y = y; low = box.low; high = box.high; kind = inl (is, power x y at) }
    by (inr (inr (inl (inr (is, inr (none, x, y, at, box)))))) = record { y = y; low = box.low; high = box.high; kind = inr (is, ground x y at) }
    by (inr (inr (inr w))) = bank_kind w.bank n w.net w.inner s w.named w.shifted w.is

  over_apart : (n k : Net) (s u : Shape) (a : IsFlatWire n s) (c : IsFlatWire k u) → AreOver wire.width a.y c.y → (n ≡ k) ⊎ AreApart (pos 1) s.rect u.rect
  over_apart n k s u a c (inl below) = let p = a.high in let q = c.low in inr (inr (inr (inl (go s.rect.y2 u.rect.y1 a.y c.y wire.width p q below)))) where
    go : (s u y z w : ℤ) → s ≡ y +ℤ w → u ≡ z → ((y +ℤ w) +ℤ pos 1) ≤ℤ z → (s +ℤ pos 1) ≤ℤ u
    go s u y z w p q le = omega (arith, ints, p, q, le)
  over_apart n k s u a c (inr above) = let p = c.high in let q = a.low in inr (inr (inr (inr (go u.rect.y2 s.rect.y1 c.y a.y wire.width p q above)))) where
    go : (s u y z w : ℤ) → s ≡ y +ℤ w → u ≡ z → ((y +ℤ w) +ℤ pos 1) ≤ℤ z → (s +ℤ pos 1) ≤ℤ u
    go s u y z w p q le = omega (arith, ints, p, q, le)

  over_back : (y z : ℤ) → AreOver wire.width y z → AreOver wire.width z y
  over_back y z (inl a) = inr a
  over_back y z (inr a) = inl a

  supplies : (y z : ℤ) → Power y → Ground z → AreOver wire.width y z
  supplies y z p g = stack_told (OddRow y) (EvenRow z) wire.width (pos (kit.height Inv)) f.write_y f.sense_y (column_channel_y kit f) f.column_y f.array_y f.precharge_y (upper_y kit f) y z stack (rows y z) p g

  pairs : (n k : Net) (s u : Shape) → IsFlatWire n s → IsFlatWire k u → (n ≡ k) ⊎ AreApart (pos 1) s.rect u.rect
  pairs n k s u a c = by a.kind c.kind where
    by : ((n ≡ Vdd) × Power a.y) ⊎ ((n ≡ Gnd) × Ground a.y) → ((k ≡ Vdd) × Power c.y) ⊎ ((k ≡ Gnd) × Ground c.y) → (n ≡ k) ⊎ AreApart (pos 1) s.rect u.rect
    by (inl p) (inl q) = inl (p.0 ∙ sym q.0)
    by (inl p) (inr q) = over_apart n k s u a c (supplies a.y c.y p.1 q.1)
    by (inr p) (inl q) = over_apart n k s u a c (over_back c.y a.y (supplies c.y a.y q.1 p.1))
    by (inr p) (inr q) = inl (p.0 ∙ sym q.0)

-- Wires on the first metal are of one net, or there is something between them.
pub first_told : (plan : Organization) (kit : LayoutKit) (wire : Wire) (tracks : Tracks) (f : Floorplan) → IsDrawnMemory plan kit wire tracks f → AreHighCells plan kit wire → AreToldApart plan kit wire tracks f (slice_index wire.metals 0)
first_told plan kit wire tracks f m high n k s u a b on at = pairs plan kit wire tracks f m high n k s u (on_first plan kit wire tracks f m high n s on a) (on_first plan kit wire tracks f m high k u at b)
