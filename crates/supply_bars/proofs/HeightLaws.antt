-- Wires on the first metal are bars and joiners at the heights of the supply rails, and each height has its bar or joiners.
use Rattle.std.proofs.Common.{◌≡◌, ◌⊎◌, inl, inr, ◌∙◌, ℕ, ◌+◌, ◌*◌, ◌%◌, ◌==◌, ◌<◌, Bool, true, false, ℤ, pos, ◌+ℤ◌, ◌-ℤ◌, ◌*ℤ◌, ◌≤ℤ◌, ◌<ℤ◌, refl, sym, ap, subst, arith}
use Rattle.std.specs.Prelude.{slice_index}
use Rattle.std.proofs.lemmas.Bool.{cases_eq}
use Rattle.std.proofs.lemmas.Int.{ints}
use Rattle.or_geom.specs.declared.shape.Shape.{Shape}
use Rattle.cell_roles.specs.declared.role.Role.TheVariants.{Write, Sense, Precharge}
use Rattle.tech_rules.specs.declared.tech.Wire.{Wire}
use Rattle.wire_drawing.specs.Drawing.{IsBox, IsVia}
use Rattle.tech_rules.specs.WireRules.{margin}
use Rattle.channel_router.specs.declared.channel.Channel.{Channel}
use Rattle.channel_router.specs.declared.channel.Interval.{Interval}
use Rattle.channel_router.specs.Wires.{IsWireOf}
use Rattle.sram_netlist.specs.Organization.{Organization, bank_rows, banks_of}
use Rattle.macro_layout.specs.LayoutKit.{LayoutKit}
use Rattle.macro_layout.specs.Places.{Floorplan, columns_x, bit_height}
use Rattle.macro_layout.specs.Floorplan.{Tracks, column_channel_y, upper_y}
use Rattle.macro_layout.specs.Wires.{IsBar, IsPowerBarAt, IsGroundBarAt, IsWireInBank, IsWriteJoiner, IsCornerJoiner, row_y, columns_end}
use Rattle.macro_layout.specs.Stated.{IsShifted}
use Rattle.good_places.proofs.LaidLaws.{written_all}
use Rattle.good_wires.specs.Drawn.{IsDrawnMemory, IsDrawnWire}
use Rattle.good_wires.proofs.LayerLaws.{metals_differ, cuts_differ, cut_no_metal}
use Rattle.supply_bars.specs.Heights.{Height, array_rise, precharge_rise, tall, bar_begin, HasBar, HasJoiner, is_power, trunk_by, height_y, IsBarAlong, IsJoinerAlong, IsCutAlong, IsFlatWire, LogicLow, LogicHigh, WriteLow, WriteHigh, SenseLow, SenseHigh, ColumnLow, ColumnHigh, CellRow, PrechargeLow, PrechargeHigh}

-- where a bar begins
pub record IsRail (plan : Organization) (kit : LayoutKit) (wire : Wire) (f : Floorplan) (power : Bool) (x y : ℤ) : Type 0 where
  pub h : Height
  pub has : HasBar plan.groups h
  pub power_is : is_power h ≡ power
  pub at_x : x ≡ bar_begin plan kit f h
  pub at_y : y ≡ height_y plan kit wire f h

-- numbers
from_zero : (y z : ℤ) → y ≡ z → y ≡ pos 0 +ℤ z
from_zero y z e = omega (arith, ints, e)

at_low : (y l : ℤ) → y ≡ l → y ≡ l +ℤ pos 0
at_low y l e = omega (arith, ints, e)

module _ (plan : Organization) (kit : LayoutKit) (wire : Wire) (tracks : Tracks) (f : Floorplan) (m : IsDrawnMemory plan kit wire tracks f) where
  abbrev metal : ℕ → ℕ
  metal k = slice_index wire.metals k

  abbrev cut : ℕ → ℕ
  cut k = slice_index wire.cuts k

  pub sense_y : f.sense_y ≡ f.write_y +ℤ pos (kit.height Write)
  sense_y = m.stands.sense_y ∙ ap (λ (n : ℕ). f.write_y +ℤ pos n) (written_all plan.write_size (kit.height Write) m.laid.written)

  sense_end : column_channel_y kit f -ℤ wire.width ≡ f.write_y +ℤ (pos (kit.height Write + kit.height Sense) -ℤ wire.width)
  sense_end = go f.sense_y f.write_y wire.width (kit.height Write) (kit.height Sense) sense_y where
    go : (s y w : ℤ) (h k : ℕ) → s ≡ y +ℤ pos h → (s +ℤ pos k) -ℤ w ≡ y +ℤ (pos (h + k) -ℤ w)
    go s y w h k e = omega (arith, ints, e)

  write_end : f.sense_y -ℤ wire.width ≡ f.write_y +ℤ (pos (kit.height Write) -ℤ wire.width)
  write_end = go f.sense_y f.write_y wire.width (kit.height Write) sense_y where
    go : (s y w : ℤ) (h : ℕ) → s ≡ y +ℤ pos h → s -ℤ w ≡ y +ℤ (pos h -ℤ w)
    go s y w h e = omega (arith, ints, e)

  column_end : f.array_y -ℤ wire.width ≡ f.column_y +ℤ (pos (array_rise kit plan.col_bits) -ℤ wire.width)
  column_end = go f.array_y f.column_y wire.width (array_rise kit plan.col_bits) m.stands.array_y where
    go : (s y w : ℤ) (h : ℕ) → s ≡ y +ℤ pos h → s -ℤ w ≡ y +ℤ (pos h -ℤ w)
    go s y w h e = omega (arith, ints, e)

  row_at : (r : ℕ) → row_y kit f r ≡ f.column_y +ℤ pos (array_rise kit plan.col_bits + r * bit_height kit)
  row_at r = go f.array_y f.column_y (array_rise kit plan.col_bits) (r * bit_height kit) m.stands.array_y where
    go : (a c : ℤ) (h k : ℕ) → a ≡ c +ℤ pos h → a +ℤ pos k ≡ c +ℤ pos (h + k)
    go a c h k e = omega (arith, ints, e)

  pub precharge_at : f.precharge_y ≡ f.column_y +ℤ pos (precharge_rise kit plan.col_bits plan.groups)
  precharge_at = m.stands.precharge_y ∙ row_at (bank_rows plan)

  upper_at : upper_y kit f -ℤ wire.width ≡ f.column_y +ℤ (pos (precharge_rise kit plan.col_bits plan.groups + kit.height Precharge) -ℤ wire.width)
  upper_at = go f.precharge_y f.column_y wire.width (precharge_rise kit plan.col_bits plan.groups) (kit.height Precharge) precharge_at where
    go : (p c w : ℤ) (h k : ℕ) → p ≡ c +ℤ pos h → (p +ℤ pos k) -ℤ w ≡ c +ℤ (pos (h + k) -ℤ w)
    go p c w h k e = omega (arith, ints, e)

  -- From bars to heights

  power_rail : (x y : ℤ) → IsPowerBarAt plan kit wire f x y → IsRail plan kit wire f true x y
  power_rail x y (inl at) = record { h = LogicHigh; has = tt; power_is = refl; at_x = at.0; at_y = from_zero y _ at.1 }
  power_rail x y (inr (inl at)) = record { h = WriteLow; has = tt; power_is = refl; at_x = at.1; at_y = at_low y f.write_y at.2 }
  power_rail x y (inr (inr (inl at))) = record { h = SenseHigh; has = tt; power_is = refl; at_x = at.0; at_y = at.1 ∙ sense_end }
  power_rail x y (inr (inr (inr (inl at)))) = record { h = ColumnLow; has = tt; power_is = refl; at_x = at.0; at_y = at_low y f.column_y at.1 }
  power_rail x y (inr (inr (inr (inr (inl (r, lt, odd, e, at)))))) = record { h = CellRow r; has = lt; power_is = ap (λ (n : ℕ). n == 1) odd; at_x = e; at_y = at ∙ row_at r }
  power_rail x y (inr (inr (inr (inr (inr at))))) = record { h = PrechargeHigh; has = tt; power_is = refl; at_x = at.0; at_y = at.1 ∙ upper_at }

  ground_rail : (x y : ℤ) → IsGroundBarAt plan kit f x y → IsRail plan kit wire f false x y
  ground_rail x y (inl at) = record { h = LogicLow; has = tt; power_is = refl; at_x = at.0; at_y = from_zero y _ at.1 }
  ground_rail x y (inr (inl at)) = record { h = SenseLow; has = tt; power_is = refl; at_x = at.0; at_y = at.1 ∙ sense_y }
  ground_rail x y (inr (inr (inl (r, lt, even, e, at)))) = record { h = CellRow r; has = lt; power_is = ap (λ (n : ℕ). n == 1) even; at_x = e; at_y = at ∙ row_at r }
  ground_rail x y (inr (inr (inr at))) = record { h = PrechargeLow; has = tt; power_is = refl; at_x = at.0; at_y = at.1 ∙ precharge_at }

  no_channel : (layer : ℕ) → ((k : ℕ) → 0 < k → k < 4 → metal k ≡ layer → ⊥) → ((k : ℕ) → 0 < k → k < 3 → cut k ≡ layer → ⊥) → (ch : Channel) (count number t : ℕ) (interval : Interval) (s : Shape) → s.layer ≡ layer → IsWireOf ch wire count number interval t s → ⊥
  no_channel layer metals cuts ch count number t interval s on (inl trunk) = metals 2 (omega arith) (omega arith) (sym trunk.on ∙ on)
  no_channel layer metals cuts ch count number t interval s on (inr (inl (x, p, inl box))) = metals 3 (omega arith) (omega arith) (sym box.on ∙ on)
  no_channel layer metals cuts ch count number t interval s on (inr (inl (x, p, inr via))) = cuts 2 (omega arith) (omega arith) (sym via.on ∙ on)
  no_channel layer metals cuts ch count number t interval s on (inr (inr (x, p, inl box))) = metals 1 (omega arith) (omega arith) (sym box.on ∙ on)
  no_channel layer metals cuts ch count number t interval s on (inr (inr (x, p, inr via))) = cuts 1 (omega arith) (omega arith) (sym via.on ∙ on)

  -- a bar with the cut to its trunk, and a joiner of a bank
  abbrev pub IsOfBar : Shape → Type 0
  IsOfBar s = (p : Bool) × (x : ℤ) × (y : ℤ) × IsRail plan kit wire f p x y × IsBar wire (trunk_by plan kit wire f p) x y s

  pub record IsBankJoiner (s : Shape) : Type 0 where
    pub bank : ℕ
    pub below : bank < banks_of plan
    pub inner : Shape
    pub shifted : IsShifted (pos bank *ℤ f.bank_width) (pos 0) inner s
    pub is : IsWriteJoiner plan kit wire f inner ⊎ IsCornerJoiner plan kit wire f inner

  -- no other wires stand on a layer that is none of the upper ones
  module _ (layer : ℕ) (metals : (k : ℕ) → 0 < k → k < 4 → metal k ≡ layer → ⊥) (cuts : (k : ℕ) → 0 < k → k < 3 → cut k ≡ layer → ⊥) where
    bank_lower : (b : ℕ) (inner s : Shape) → b < banks_of plan → IsShifted (pos b *ℤ f.bank_width) (pos 0) inner s → s.layer ≡ layer → IsWireInBank plan kit wire tracks f inner → IsBankJoiner s
    bank_lower b inner s below sh on (inl channel) = let n = m.column.each inner channel in absurd (no_channel layer metals cuts m.column.channel tracks.column n.0 n.1.t n.1.interval inner (sym sh.layer ∙ on) n.1.wires)
    bank_lower b inner s below sh on (inr (inl tap)) = elim tap.drawn [
      | inl box ↦ absurd (metals 2 (omega arith) (omega arith) (sym (sh.layer ∙ box.on) ∙ on))
      | inr via ↦ absurd (cuts 2 (omega arith) (omega arith) (sym (sh.layer ∙ via.on) ∙ on))
    ]
    bank_lower b inner s below sh on (inr (inr (inl rail))) = absurd (metals 3 (omega arith) (omega arith) (sym (sh.layer ∙ rail.drawn.on) ∙ on))
    bank_lower b inner s below sh on (inr (inr (inr (inl out)))) = absurd (metals 3 (omega arith) (omega arith) (sym (sh.layer ∙ out.drawn.on) ∙ on))
    bank_lower b inner s below sh on (inr (inr (inr (inr joiner)))) = record { bank = b; below = below; inner = inner; shifted = sh; is = joiner }

    pub lower : (s : Shape) → s.layer ≡ layer → IsDrawnWire plan kit wire tracks f s → IsOfBar s ⊎ IsBankJoiner s
    lower s on (inl (inl channel)) = let n = m.main.each s channel in absurd (no_channel layer metals cuts m.main.channel tracks.main n.0 n.1.t n.1.interval s on n.1.wires)
    lower s on (inl (inr (inl (inl trunk)))) = absurd (metals 1 (omega arith) (omega arith) (sym trunk.on ∙ on))
    lower s on (inl (inr (inl (inr (x, y, at, bar))))) = inl (true, x, y, power_rail x y at, bar)
    lower s on (inl (inr (inr (inl trunk)))) = absurd (metals 1 (omega arith) (omega arith) (sym trunk.on ∙ on))
    lower s on (inl (inr (inr (inr (x, y, at, bar))))) = inl (false, x, y, ground_rail x y at, bar)
    lower s on (inr banks) = inr (bank_lower banks.bank banks.inner s banks.below banks.shifted on banks.is)

  end_at : (y z w : ℤ) (e : y ≡ z) → y +ℤ w ≡ z +ℤ w
  end_at y z w e = ap (λ (q : ℤ). q +ℤ w) e

  -- what stands on the first metal
  bar_along : (s : Shape) → s.layer ≡ metal 0 → IsOfBar s → IsFlatWire plan kit wire f s
  bar_along s on (p, x, y, rail, inl box) = inl (
    rail.h,
    record {
      has = rail.has;
      at = record { low = box.low ∙ rail.at_y; high = box.high ∙ ap (λ (q : ℤ). q +ℤ wire.width) rail.at_y };
      left = box.left ∙ rail.at_x;
      right = box.right ∙ ap (λ (q : Bool). trunk_by plan kit wire f q +ℤ wire.width) (sym rail.power_is);
    },
  )
  bar_along s on (p, x, y, rail, inr via) = absurd (cut_no_metal wire 0 0 m.seven (omega arith) (omega arith) (sym via.on ∙ on))

  joined_low : (s i y z : ℤ) → s ≡ i +ℤ pos 0 → i ≡ y → y ≡ z → s ≡ z
  joined_low s i y z a b c = omega (arith, ints, a, b, c)

  joined_high : (s i y z w : ℤ) → s ≡ i +ℤ pos 0 → i ≡ y → y -ℤ w ≡ z → s ≡ z +ℤ w
  joined_high s i y z w a b c = omega (arith, ints, a, b, c)

  joiner_along : (s : Shape) → IsBankJoiner s → IsFlatWire plan kit wire f s
  joiner_along s j = by j.is where
    by : IsWriteJoiner plan kit wire f j.inner ⊎ IsCornerJoiner plan kit wire f j.inner → IsFlatWire plan kit wire f s
    by (inl joiner) = inr (
      j.bank,
      WriteHigh,
      record {
        below = j.below;
        has = tt;
        at = record {
          low = joined_low s.rect.y1 j.inner.rect.y1 (f.sense_y -ℤ wire.width) (height_y plan kit wire f WriteHigh) j.shifted.y1 joiner.1.low write_end;
          high = joined_high s.rect.y2 j.inner.rect.y2 f.sense_y (height_y plan kit wire f WriteHigh) wire.width j.shifted.y2 joiner.1.high write_end;
        };
        left = j.shifted.x1 ∙ end_at j.inner.rect.x1 (columns_x plan kit f) (pos j.bank *ℤ f.bank_width) joiner.1.left;
        right = j.shifted.x2 ∙ end_at j.inner.rect.x2 (columns_end plan kit f) (pos j.bank *ℤ f.bank_width) joiner.1.right;
      },
    )
    by (inr joiner) = inr (
      j.bank,
      ColumnHigh,
      record {
        below = j.below;
        has = tt;
        at = record {
          low = joined_low s.rect.y1 j.inner.rect.y1 (f.array_y -ℤ wire.width) (height_y plan kit wire f ColumnHigh) j.shifted.y1 joiner.low column_end;
          high = joined_high s.rect.y2 j.inner.rect.y2 f.array_y (height_y plan kit wire f ColumnHigh) wire.width j.shifted.y2 joiner.high column_end;
        };
        left = j.shifted.x1 ∙ end_at j.inner.rect.x1 f.row_x (pos j.bank *ℤ f.bank_width) joiner.left;
        right = j.shifted.x2 ∙ end_at j.inner.rect.x2 (columns_end plan kit f) (pos j.bank *ℤ f.bank_width) joiner.right;
      },
    )

  pub on_metal : (s : Shape) → s.layer ≡ metal 0 → IsDrawnWire plan kit wire tracks f s → IsFlatWire plan kit wire f s
  on_metal s on is = elim (lower (metal 0) (λ k some few. metals_differ wire k 0 m.seven few (omega arith) (λ e. omega (arith, e, some))) (λ k some few e. cut_no_metal wire k 0 m.seven few (omega arith) e) s on is) [
    | inl bar ↦ bar_along s on bar
    | inr joiner ↦ joiner_along s joiner
  ]

  -- and on the cuts above it
  pub on_cut : (s : Shape) → s.layer ≡ cut 0 → IsDrawnWire plan kit wire tracks f s → (h : Height) × IsCutAlong plan kit wire f h s
  on_cut s on is = elim (lower (cut 0) (λ k some few e. cut_no_metal wire 0 k m.seven (omega arith) few (sym e)) (λ k some few. cuts_differ wire k 0 m.seven few (omega arith) (λ e. omega (arith, e, some))) s on is) [
    | inl bar ↦ by bar
    | inr joiner ↦ absurd (no_joiner joiner)
  ] where
    by : IsOfBar s → (h : Height) × IsCutAlong plan kit wire f h s
    by (p, x, y, rail, inl box) = absurd (cut_no_metal wire 0 0 m.seven (omega arith) (omega arith) (sym on ∙ box.on))
    by (p, x, y, rail, inr via) = (
      rail.h,
      record {
        has = rail.has;
        via = subst (λ (q : Bool). IsVia wire 0 (trunk_by plan kit wire f q) (height_y plan kit wire f rail.h) s) (sym rail.power_is) (subst (λ (z : ℤ). IsVia wire 0 (trunk_by plan kit wire f p) z s) rail.at_y via);
      },
    )

    no_joiner : IsBankJoiner s → ⊥
    no_joiner j = elim j.is [
      | inl joiner ↦ cut_no_metal wire 0 0 m.seven (omega arith) (omega arith) (sym on ∙ (j.shifted.layer ∙ joiner.1.on))
      | inr joiner ↦ cut_no_metal wire 0 0 m.seven (omega arith) (omega arith) (sym on ∙ (j.shifted.layer ∙ joiner.on))
    ]

  -- From heights to bars

  abbrev IsBarStated : Height → Type 0
  IsBarStated h = ((is_power h ≡ true) × IsPowerBarAt plan kit wire f (bar_begin plan kit f h) (height_y plan kit wire f h)) ⊎ ((is_power h ≡ false) × IsGroundBarAt plan kit f (bar_begin plan kit f h) (height_y plan kit wire f h))

  bar_stated : (h : Height) → HasBar plan.groups h → IsBarStated h
  bar_stated LogicLow has = inr (refl, inl (refl, sym (from_zero _ _ refl)))
  bar_stated LogicHigh has = inl (refl, inl (refl, sym (from_zero _ _ refl)))
  bar_stated WriteLow has = inl (refl, inr (inl (m.laid.written, refl, sym (at_low f.write_y f.write_y refl))))
  bar_stated WriteHigh has = absurd has
  bar_stated SenseLow has = inr (refl, inr (inl (refl, sym sense_y)))
  bar_stated SenseHigh has = inl (refl, inr (inr (inl (refl, sym sense_end))))
  bar_stated ColumnLow has = inl (refl, inr (inr (inr (inl (refl, sym (at_low f.column_y f.column_y refl))))))
  bar_stated ColumnHigh has = absurd has
  bar_stated (CellRow r) has = elim (cases_eq (r % 2) 1) [
    | inl odd ↦ inl (ap (λ (n : ℕ). n == 1) odd, inr (inr (inr (inr (inl (r, has, odd, refl, sym (row_at r)))))))
    | inr differ ↦ let even : r % 2 ≡ 0 = omega (arith, differ) in inr (ap (λ (n : ℕ). n == 1) even, inr (inr (inl (r, has, even, refl, sym (row_at r)))))
  ]
  bar_stated PrechargeLow has = inr (refl, inr (inr (inr (refl, sym precharge_at))))
  bar_stated PrechargeHigh has = inl (refl, inr (inr (inr (inr (inr (refl, sym upper_at))))))

  pub bar_drawn : (h : Height) (s : Shape) → HasBar plan.groups h → IsBar wire (trunk_by plan kit wire f (is_power h)) (bar_begin plan kit f h) (height_y plan kit wire f h) s → IsDrawnWire plan kit wire tracks f s
  bar_drawn h s has bar = elim (bar_stated h has) [
    | inl power ↦ inl (inr (inl (inr (bar_begin plan kit f h, height_y plan kit wire f h, power.1, subst (λ (q : Bool). IsBar wire (trunk_by plan kit wire f q) (bar_begin plan kit f h) (height_y plan kit wire f h) s) power.0 bar))))
    | inr ground ↦ inl (inr (inr (inr (bar_begin plan kit f h, height_y plan kit wire f h, ground.1, subst (λ (q : Bool). IsBar wire (trunk_by plan kit wire f q) (bar_begin plan kit f h) (height_y plan kit wire f h) s) ground.0 bar))))
  ]

  -- a box on a layer
  pub box_shape : (layer : ℕ) (x1 y1 x2 y2 : ℤ) → x1 <ℤ x2 → y1 <ℤ y2 → (s : Shape) × IsBox layer x1 y1 x2 y2 s
  box_shape layer x1 y1 x2 y2 wide tall = (record { layer = layer; rect = record { x1 = x1; y1 = y1; x2 = x2; y2 = y2; wide = wide; tall = tall } }, record { on = refl; left = refl; low = refl; right = refl; high = refl })

  longer : (z w : ℤ) → pos 1 ≤ℤ w → z <ℤ (z +ℤ w)
  longer z w one = omega (arith, ints, one)

  pub a_bar : (h : Height) → HasBar plan.groups h → bar_begin plan kit f h <ℤ (trunk_by plan kit wire f (is_power h) +ℤ wire.width) → (s : Shape) × IsDrawnWire plan kit wire tracks f s × (s.layer ≡ metal 0) × IsBarAlong plan kit wire f h s
  a_bar h has wide =
      let y = height_y plan kit wire f h in
      let b = box_shape (metal 0) (bar_begin plan kit f h) y (trunk_by plan kit wire f (is_power h) +ℤ wire.width) (y +ℤ wire.width) wide (longer y wire.width m.laid.sizes.width.from) in
      (b.0, bar_drawn h b.0 has (inl b.1), b.1.on, record { has = has; at = record { low = b.1.low; high = b.1.high }; left = b.1.left; right = b.1.right })

  pub a_cut : (h : Height) → HasBar plan.groups h → (s : Shape) × IsDrawnWire plan kit wire tracks f s × (s.layer ≡ cut 0) × IsCutAlong plan kit wire f h s
  a_cut h has =
      let x = trunk_by plan kit wire f (is_power h) +ℤ margin wire in
      let y = height_y plan kit wire f h +ℤ margin wire in
      let b = box_shape (cut 0) x y (x +ℤ wire.cut) (y +ℤ wire.cut) (longer x wire.cut m.laid.sizes.cut.from) (longer y wire.cut m.laid.sizes.cut.from) in
      (b.0, bar_drawn h b.0 has (inr b.1), b.1.on, record { has = has; via = b.1 })

  pub a_joiner : (b : ℕ) (h : Height) → b < banks_of plan → HasJoiner h → bar_begin plan kit f h <ℤ columns_end plan kit f → (s : Shape) × IsDrawnWire plan kit wire tracks f s × (s.layer ≡ metal 0) × IsJoinerAlong plan kit wire f b h s
  a_joiner b h below has wide = (outer.0, inr (record { bank = b; below = below; inner = inner.0; is = inr (inr (inr (inr (is h has inner.1)))); shifted = record { layer = outer.1.on ∙ sym inner.1.on; x1 = outer.1.left ∙ end_at _ _ q (sym inner.1.left); y1 = outer.1.low ∙ stays _ _ inner.1.low; x2 = outer.1.right ∙ end_at _ _ q (sym inner.1.right); y2 = outer.1.high ∙ stays _ _ inner.1.high } }), outer.1.on, record { below = below; has = has; at = record { low = outer.1.low; high = outer.1.high }; left = outer.1.left; right = outer.1.right }) where
    q : ℤ
    q = pos b *ℤ f.bank_width

    y : ℤ
    y = height_y plan kit wire f h

    inner : (s : Shape) × IsBox (metal 0) (bar_begin plan kit f h) (height_y plan kit wire f h) (columns_end plan kit f) (height_y plan kit wire f h +ℤ wire.width) s
    inner = box_shape (metal 0) (bar_begin plan kit f h) (height_y plan kit wire f h) (columns_end plan kit f) (height_y plan kit wire f h +ℤ wire.width) wide (longer (height_y plan kit wire f h) wire.width m.laid.sizes.width.from)

    further : (a b q : ℤ) → a <ℤ b → (a +ℤ q) <ℤ (b +ℤ q)
    further a b q lt = omega (arith, ints, lt)

    outer : (s : Shape) × IsBox (metal 0) (bar_begin plan kit f h +ℤ (pos b *ℤ f.bank_width)) (height_y plan kit wire f h) (columns_end plan kit f +ℤ (pos b *ℤ f.bank_width)) (height_y plan kit wire f h +ℤ wire.width) s
    outer = box_shape (metal 0) (bar_begin plan kit f h +ℤ (pos b *ℤ f.bank_width)) (height_y plan kit wire f h) (columns_end plan kit f +ℤ (pos b *ℤ f.bank_width)) (height_y plan kit wire f h +ℤ wire.width) (further (bar_begin plan kit f h) (columns_end plan kit f) (pos b *ℤ f.bank_width) wide) (longer (height_y plan kit wire f h) wire.width m.laid.sizes.width.from)

    stays : (i z : ℤ) → i ≡ z → z ≡ i +ℤ pos 0
    stays i z e = omega (arith, ints, e)

    high_back : (z t w : ℤ) → t -ℤ w ≡ z → z +ℤ w ≡ t
    high_back z t w e = omega (arith, ints, e)

    is : (h : Height) → HasJoiner h → {s : Shape} → IsBox (metal 0) (bar_begin plan kit f h) (height_y plan kit wire f h) (columns_end plan kit f) (height_y plan kit wire f h +ℤ wire.width) s → IsWriteJoiner plan kit wire f s ⊎ IsCornerJoiner plan kit wire f s
    is LogicLow has box = absurd has
    is LogicHigh has box = absurd has
    is WriteLow has box = absurd has
    is WriteHigh has box = inl (m.laid.written, record { on = box.on; left = box.left; low = box.low ∙ sym write_end; right = box.right; high = box.high ∙ high_back _ _ wire.width write_end })
    is SenseLow has box = absurd has
    is SenseHigh has box = absurd has
    is ColumnLow has box = absurd has
    is ColumnHigh has box = inr (record { on = box.on; left = box.left; low = box.low ∙ sym column_end; right = box.right; high = box.high ∙ high_back _ _ wire.width column_end })
    is (CellRow r) has box = absurd has
    is PrechargeLow has box = absurd has
    is PrechargeHigh has box = absurd has
