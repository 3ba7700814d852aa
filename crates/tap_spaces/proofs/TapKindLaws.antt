-- Which taps come near a zone, and where they end.
use Rattle.std.proofs.Common.{◌≡◌, ◌⊎◌, inl, inr, ◌∙◌, ℕ, ◌+◌, ◌*◌, ℤ, pos, ◌+ℤ◌, ◌*ℤ◌, ◌≤ℤ◌, ◌<ℤ◌, sym, ap, arith}
use Rattle.std.proofs.lemmas.Bool.{cases_lt}
use Rattle.std.proofs.lemmas.Int.{ints}
use Rattle.or_geom.specs.declared.shape.Rect.{Rect}
use Rattle.tech_rules.specs.declared.tech.Wire.{Wire}
use Rattle.channel_router.specs.Wires.{channel_height}
use Rattle.sram_netlist.specs.Organization.{Organization, columns_of, words_per_row}
use Rattle.sram_netlist.specs.Instances.{NandAt, DriverAt, PrechargeAt, SenseAt}
use Rattle.sram_netlist.specs.Nets.{Net}
use Rattle.macro_layout.specs.LayoutKit.{LayoutKit}
use Rattle.macro_layout.specs.Places.{Floorplan, columns_x, bit_width}
use Rattle.macro_layout.specs.Floorplan.{Tracks, column_channel_y}
use Rattle.macro_layout.specs.Wires.{IsPinTap, IsTapOfNet, IsTapAt}
use Rattle.good_places.specs.Leaves.{Zone}
use Rattle.good_wires.specs.Drawn.{IsDrawnMemory}
use Rattle.good_wires.proofs.LevelLaws.{Levels, levels, Sides, sides, rail_at, track_above, track_below}
use Rattle.good_wires.proofs.TapLaws.{pin_in_zone}
use Rattle.good_wires.proofs.ClearLaws.{IsBankZone, banks_left}
use Rattle.good_wires.proofs.ThirdLaws.{tap_from, tap_to}
use Rattle.tap_spaces.proofs.TapImageLaws.{zero_times}

module _ (plan : Organization) (kit : LayoutKit) (wire : Wire) (tracks : Tracks) (f : Floorplan) (m : IsDrawnMemory plan kit wire tracks f) where
  l : Levels plan kit wire f
  l = levels plan kit wire tracks f m.laid.sizes m.stands

  s_of : Sides plan kit wire f
  s_of = sides plan kit wire tracks f m.laid.sizes m.stands

  abbrev pub IsRowTap : Net → ℤ → ℤ → Type 0
  IsRowTap net y end = ((r : ℕ) × IsPinTap plan kit f (NandAt 0 r) net y end) ⊎ ((r : ℕ) × IsPinTap plan kit f (DriverAt 0 r) net y end)

  abbrev pub IsPrechargeTap : Net → ℤ → ℤ → Type 0
  IsPrechargeTap net y end = (c : ℕ) × (c + 1 ≡ columns_of plan) × IsPinTap plan kit f (PrechargeAt 0 c) net y end

  abbrev pub IsSenseTap : Net → ℤ → ℤ → Type 0
  IsSenseTap net y end = (i : ℕ) × (i + 1 ≡ plan.word_size) × IsPinTap plan kit f (SenseAt 0 i) net y end

  -- Heights

  high_over : (y z : ℤ) (rect : Rect) → y ≡ rect.y1 → z ≤ℤ (rect.y1 +ℤ pos 0) → z ≤ℤ y
  high_over y z rect at low = omega (arith, ints, at, low)

  row_high : (net : Net) (y end : ℤ) → IsRowTap net y end → f.column_y ≤ℤ y
  row_high net y end (inl (r, p)) = let z = pin_in_zone plan kit wire f (NandAt 0 r) p.port 2 net p.rect m.laid m.pins p.pin in high_over y f.column_y p.rect p.at z.low
  row_high net y end (inr (r, p)) = let z = pin_in_zone plan kit wire f (DriverAt 0 r) p.port 2 net p.rect m.laid m.pins p.pin in high_over y f.column_y p.rect p.at z.low

  precharge_high : (net : Net) (y end : ℤ) → IsPrechargeTap net y end → f.column_y ≤ℤ y
  precharge_high net y end (c, last, p) = let z = pin_in_zone plan kit wire f (PrechargeAt 0 c) p.port 2 net p.rect m.laid m.pins p.pin in high_over y f.column_y p.rect p.at z.low

  sense_low : (x y end : ℤ) (at : IsTapAt plan kit wire tracks.column f x y end) → IsSenseTap at.net y end → (y +ℤ wire.width) ≤ℤ column_channel_y kit f
  sense_low x y end at (i, last, p) =
      let z = pin_in_zone plan kit wire f (SenseAt 0 i) p.port 2 at.net p.rect m.laid m.pins p.pin in
      below (column_channel_y kit f) p.rect p.at (m.sense_taps i p.port at.net p.rect x at.rail p.pin) z.high
    where
      below : (z : ℤ) (rect : Rect) → y ≡ rect.y1 → rect.y2 ≡ rect.y1 +ℤ wire.width → rect.y2 ≤ℤ (z +ℤ pos 0) → (y +ℤ wire.width) ≤ℤ z
      below z rect at tall high = omega (arith, ints, at, tall, high)

  -- a tap near a zone over the columns' lower end
  pub upper_kind : (x y end : ℤ) (at : IsTapAt plan kit wire tracks.column f x y end) (low min : ℤ) → f.column_y ≤ℤ (low +ℤ min) → min ≤ℤ wire.space → low <ℤ (y +ℤ wire.width) → IsRowTap at.net y end ⊎ IsPrechargeTap at.net y end
  upper_kind x y end at low min from small over = by at.tap where
    by : IsTapOfNet plan kit wire tracks.column f at.net x y end → IsRowTap at.net y end ⊎ IsPrechargeTap at.net y end
    by (inl nand) = inl (inl nand)
    by (inr (inl driver)) = inl (inr driver)
    by (inr (inr (inl sense))) = let h = sense_low x y end at sense in let c = l.column in absurd (omega (arith, ints, h, c, from, small, over))
    by (inr (inr (inr (inl precharge)))) = inr precharge
    by (inr (inr (inr (inr choice)))) =
        let t = m.column.trunk choice.number y choice.trunk in
        let e = t.3 in
        let h = track_below m.column.channel.low f.column_y wire t.1 tracks.column m.laid.sizes (m.column.count.below choice.number t.1 t.2.on) (m.stands.column_y ∙ ap (λ (z : ℤ). z +ℤ channel_height wire tracks.column) (sym m.column.meant.low)) in
        absurd (omega (arith, ints, h, e, from, small, over))

  -- a tap near a slice
  pub slice_kind : (x y end : ℤ) (at : IsTapAt plan kit wire tracks.column f x y end) (high min : ℤ) → high ≤ℤ (column_channel_y kit f +ℤ min) → min ≤ℤ wire.space → y <ℤ high → IsSenseTap at.net y end
  slice_kind x y end at high min to small over = by at.tap where
    beyond : f.column_y ≤ℤ y → ⊥
    beyond le = let c = l.column in omega (arith, ints, le, c, to, small, over)

    by : IsTapOfNet plan kit wire tracks.column f at.net x y end → IsSenseTap at.net y end
    by (inl nand) = absurd (beyond (row_high at.net y end (inl nand)))
    by (inr (inl driver)) = absurd (beyond (row_high at.net y end (inr driver)))
    by (inr (inr (inl sense))) = sense
    by (inr (inr (inr (inl precharge)))) = absurd (beyond (precharge_high at.net y end precharge))
    by (inr (inr (inr (inr choice)))) =
        let t = m.column.trunk choice.number y choice.trunk in
        let e = t.3 in
        let low = m.column.meant.low in
        let h = track_above m.column.channel.low wire t.1 m.laid.sizes in
        absurd (omega (arith, ints, h, e, low, to, small, over))

  -- From left to right, in bank 0

  z0 : pos 0 *ℤ f.bank_width ≡ pos 0
  z0 = zero_times f.bank_width

  -- the rail stands so far left of the rows
  pub rail_left : (x y end min : ℤ) (at : IsTapAt plan kit wire tracks.column f x y end) → min ≤ℤ (wire.space +ℤ wire.width) → (x +ℤ min) ≤ℤ f.row_x
  rail_left x y end min at small = let r = rail_at plan kit wire f 0 at.net x s_of at.rail in go f.row_x (pos 0 *ℤ f.bank_width) wire.width wire.space z0 r.to small where
    go : (row q w s : ℤ) → q ≡ pos 0 → ((x +ℤ w) +ℤ s) ≤ℤ (row +ℤ q) → min ≤ℤ (s +ℤ w) → (x +ℤ min) ≤ℤ row
    go row q w s e le less = omega (arith, ints, e, le, less)

  -- where a row's taps end
  pub row_ends : (net : Net) (y end : ℤ) → IsRowTap net y end → (f.row_x ≤ℤ end) × (end ≤ℤ columns_x plan kit f)
  row_ends net y end is = by is where
    go : (rect : Rect) (q : ℤ) → q ≡ pos 0 → end ≡ rect.x2 → (f.row_x +ℤ q) ≤ℤ (rect.x1 +ℤ pos 0) → rect.x2 ≤ℤ ((columns_x plan kit f +ℤ q) +ℤ pos 0) → (f.row_x ≤ℤ end) × (end ≤ℤ columns_x plan kit f)
    go rect q e at left right = let wide = rect.wide in (from rect.x1 rect.x2 f.row_x q e at left wide, to rect.x2 (columns_x plan kit f) q e at right) where
      from : (x1 x2 row q : ℤ) → q ≡ pos 0 → end ≡ x2 → (row +ℤ q) ≤ℤ (x1 +ℤ pos 0) → x1 <ℤ x2 → row ≤ℤ end
      from x1 x2 row q e at left wide = omega (arith, ints, e, at, left, wide)

      to : (x2 col q : ℤ) → q ≡ pos 0 → end ≡ x2 → x2 ≤ℤ ((col +ℤ q) +ℤ pos 0) → end ≤ℤ col
      to x2 col q e at right = omega (arith, ints, e, at, right)

    by : IsRowTap net y end → (f.row_x ≤ℤ end) × (end ≤ℤ columns_x plan kit f)
    by (inl (r, p)) = let z = pin_in_zone plan kit wire f (NandAt 0 r) p.port 2 net p.rect m.laid m.pins p.pin in go p.rect (pos 0 *ℤ f.bank_width) z0 p.ends z.left z.right
    by (inr (r, p)) = let z = pin_in_zone plan kit wire f (DriverAt 0 r) p.port 2 net p.rect m.laid m.pins p.pin in go p.rect (pos 0 *ℤ f.bank_width) z0 p.ends z.left z.right

  from_column : (end : ℤ) (rect : Rect) (x q : ℤ) (c : ℕ) → q ≡ pos 0 → end ≡ rect.x2 → ((x +ℤ pos c) +ℤ q) ≤ℤ (rect.x1 +ℤ pos 0) → (x +ℤ pos c) ≤ℤ end
  from_column end rect x q c e at left = let wide = rect.wide in go rect.x1 rect.x2 at left wide where
    go : (x1 x2 : ℤ) → end ≡ x2 → ((x +ℤ pos c) +ℤ q) ≤ℤ (x1 +ℤ pos 0) → x1 <ℤ x2 → (x +ℤ pos c) ≤ℤ end
    go x1 x2 at left wide = omega (arith, ints, e, at, left, wide)

  pub precharge_from : (net : Net) (y end : ℤ) (c : ℕ) → IsPinTap plan kit f (PrechargeAt 0 c) net y end → (columns_x plan kit f +ℤ pos (c * bit_width kit)) ≤ℤ end
  precharge_from net y end c p = let z = pin_in_zone plan kit wire f (PrechargeAt 0 c) p.port 2 net p.rect m.laid m.pins p.pin in from_column end p.rect (columns_x plan kit f) (pos 0 *ℤ f.bank_width) (c * bit_width kit) z0 p.ends z.left

  pub sense_from : (net : Net) (y end : ℤ) (i : ℕ) → IsPinTap plan kit f (SenseAt 0 i) net y end → (columns_x plan kit f +ℤ pos ((i * words_per_row plan) * bit_width kit)) ≤ℤ end
  sense_from net y end i p = let z = pin_in_zone plan kit wire f (SenseAt 0 i) p.port 2 net p.rect m.laid m.pins p.pin in from_column end p.rect (columns_x plan kit f) (pos 0 *ℤ f.bank_width) ((i * words_per_row plan) * bit_width kit) z0 p.ends z.left

  -- a tap near a zone of a bank is the bank's
  pub same_bank : (b bank : ℕ) (here : Zone) (x y end left right min : ℤ) → IsBankZone plan kit wire tracks f m b here → IsTapAt plan kit wire tracks.column f x y end → min ≤ℤ (wire.space +ℤ wire.width) → here.left ≤ℤ (left +ℤ min) → right ≤ℤ (here.right +ℤ min)
      → left <ℤ (end +ℤ (pos bank *ℤ f.bank_width)) → (x +ℤ (pos bank *ℤ f.bank_width)) <ℤ right → bank ≡ b
  same_bank b bank here x y end left right min zone at small from to over under =
      let a = tap_from plan kit wire tracks f m x y end at in
      let c = tap_to plan kit wire tracks f m x y end at in
      let zl = zone.left in
      let zr = zone.right in
      let row = s_of.row in
      elim (cases_lt b bank) [
        | inl lt ↦ absurd (after x right here.right f.bank_width (pos b *ℤ f.bank_width) (pos bank *ℤ f.bank_width) wire.width wire.space a (banks_left plan kit wire tracks f m b bank lt) zr to under small)
        | inr ge ↦ elim (cases_lt bank b) [
          | inl lt ↦ absurd (before end left here.left f.row_x f.bank_width (pos b *ℤ f.bank_width) (pos bank *ℤ f.bank_width) wire.width wire.space c (banks_left plan kit wire tracks f m bank b lt) zl from over row small)
          | inr le ↦ omega (arith, ge, le)
        ]
      ]
    where
      after : (x right hr q ob ot w s : ℤ) → (w +ℤ s) ≤ℤ x → (ob +ℤ q) ≤ℤ ot → hr ≤ℤ (q +ℤ ob) → right ≤ℤ (hr +ℤ min) → (x +ℤ ot) <ℤ right → min ≤ℤ (s +ℤ w) → ⊥
      after x right hr q ob ot w s a g zr to under less = omega (arith, ints, a, g, zr, to, under, less)

      before : (end left hl row q ob ot w s : ℤ) → end ≤ℤ q → (ot +ℤ q) ≤ℤ ob → (row +ℤ ob) ≤ℤ hl → hl ≤ℤ (left +ℤ min) → left <ℤ (end +ℤ ot) → (w +ℤ s) ≤ℤ row → min ≤ℤ (s +ℤ w) → ⊥
      before end left hl row q ob ot w s c g zl from over le less = omega (arith, ints, c, g, zl, from, over, le, less)
