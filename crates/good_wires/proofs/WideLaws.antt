-- Wires are wide.
use Rattle.std.proofs.Common.{◌≡◌, ◌⊎◌, inl, inr, ℕ, zero, suc, ◌*◌, ◌<◌, ◌≤◌, ℤ, pos, ◌+ℤ◌, ◌-ℤ◌, ◌*ℤ◌, ◌≤ℤ◌, List, refl, sym, subst, arith}
use Rattle.std.specs.Prelude.{Contains, slice_index, slice_get, Some}
use Rattle.std.specs.Int.{int_max}
use Rattle.std.proofs.Math.Nat.{mul-le-mul_right}
use Rattle.std.proofs.lemmas.Int.{ints, clamps}
use Rattle.or_geom.specs.declared.shape.Rect.{Rect}
use Rattle.or_geom.specs.declared.shape.Shape.{Shape}
use Rattle.tech_rules.specs.declared.tech.Wire.{Wire}
use Rattle.wire_drawing.specs.Drawing.{IsBox, IsVia, pitch}
use Rattle.cell_roles.specs.declared.role.Role.TheVariants.{Inv, Bitcell, Write, Precharge}
use Rattle.channel_router.specs.declared.channel.Channel.{Channel}
use Rattle.channel_router.specs.declared.channel.Interval.{Interval}
use Rattle.channel_router.specs.Intervals.{AreIntervals}
use Rattle.channel_router.specs.Wires.{IsWireOf, channel_height, track_y}
use Rattle.sram_netlist.specs.Organization.{Organization, banks_of, columns_of, words_per_row, power_of_two}
use Rattle.sram_netlist.specs.Instances.{NandAt, DriverAt, PrechargeAt, SenseAt}
use Rattle.sram_netlist.specs.InstanceList.{logic_cells}
use Rattle.macro_layout.specs.LayoutKit.{LayoutKit}
use Rattle.macro_layout.specs.Places.{Floorplan, bank_x, columns_x, bit_width, total_width}
use Rattle.macro_layout.specs.Floorplan.{Tracks, column_channel_y, upper_y, write_height}
use Rattle.macro_layout.specs.Wires.{IsWireInBank, IsTapAt, IsTapOfNet, IsBar, IsSupplyTrunk, IsPowerBarAt, IsGroundBarAt, columns_end, trunk_x, ground_x}
use Rattle.macro_layout.specs.Stated.{IsShifted}
use Rattle.good_places.proofs.NumberLaws.{once, times_low}
use Rattle.good_places.proofs.LaidLaws.{written_all}
use Rattle.tile_checker.specs.Breaks.{IsAsWide}
use Rattle.good_wires.proofs.TapLaws.{tap_low, pin_in_zone}
use Rattle.good_wires.specs.Drawn.{IsDrawnMemory, IsDrawnWire, WiresAreWide}
use Rattle.good_wires.proofs.LevelLaws.{Levels, levels, Sides, sides, rail_at, track_above, track_below, pitch_low}

module _ (plan : Organization) (kit : LayoutKit) (wire : Wire) (tracks : Tracks) (f : Floorplan) (m : IsDrawnMemory plan kit wire tracks f) (words : 0 < plan.word_size) where
  l : Levels plan kit wire f
  l = levels plan kit wire tracks f m.laid.sizes m.stands

  s_of : Sides plan kit wire f
  s_of = sides plan kit wire tracks f m.laid.sizes m.stands

  abbrev Fine : Shape → Type 0
  Fine s = IsAsWide wire.width s.rect ⊎ (Contains wire.cuts s.layer × IsAsWide wire.cut s.rect)

  box_wide : (layer : ℕ) (x y u v : ℤ) (s : Shape) → IsBox layer x y u v s → (x +ℤ wire.width) ≤ℤ u → (y +ℤ wire.width) ≤ℤ v → Fine s
  box_wide layer x y u v s is a b =
      let p = is.left in
      let q = is.right in
      let r = is.low in
      let t = is.high in
      inl (record { wide = omega (arith, ints, p, q, a); tall = omega (arith, ints, r, t, b) })

  via_wide : (k : ℕ) (x y : ℤ) (s : Shape) → k < 3 → IsVia wire k x y s → Fine s
  via_wide k x y s few is =
      let p = is.left in
      let q = is.right in
      let r = is.low in
      let t = is.high in
      inr (subst (Contains wire.cuts) (sym is.on) (m.three k few), record { wide = omega (arith, ints, p, q); tall = omega (arith, ints, r, t) })

  same : (z : ℤ) → z ≤ℤ z
  same z = omega (arith, ints)

  longer : (x y w : ℤ) → x ≤ℤ y → (x +ℤ w) ≤ℤ (y +ℤ w)
  longer x y w le = omega (arith, ints, le)

  of_net : (ch : Channel) (tracks net : ℕ) (interval : Interval) (t : ℕ) (s : Shape) → interval.left ≤ℤ interval.right → t < tracks → IsWireOf ch wire tracks net interval t s → Fine s
  of_net ch tracks net interval t s forward lt (inl trunk) = box_wide (slice_index wire.metals 2) interval.left (track_y ch.low wire t) (interval.right +ℤ wire.width) (track_y ch.low wire t +ℤ wire.width) s trunk (longer interval.left interval.right wire.width forward) (same (track_y ch.low wire t +ℤ wire.width))
  of_net ch tracks net interval t s forward lt (inr (inl (x, p, inl box))) =
      box_wide (slice_index wire.metals 3) x (track_y ch.low wire t) (x +ℤ wire.width) (ch.low +ℤ channel_height wire tracks) s box (same (x +ℤ wire.width))
      (let b = track_below ch.low (ch.low +ℤ channel_height wire tracks) wire t tracks m.laid.sizes lt refl in let sp = m.laid.sizes.space.from in omega (arith, ints, b, sp))
  of_net ch tracks net interval t s forward lt (inr (inl (x, p, inr via))) = via_wide 2 x (track_y ch.low wire t) s (omega arith) via
  of_net ch tracks net interval t s forward lt (inr (inr (x, p, inl box))) =
      box_wide (slice_index wire.metals 1) x ch.low (x +ℤ wire.width) (track_y ch.low wire t +ℤ wire.width) s box (same (x +ℤ wire.width)) (let a = track_above ch.low wire t m.laid.sizes in let sp = m.laid.sizes.space.from in omega (arith, ints, a, sp))
  of_net ch tracks net interval t s forward lt (inr (inr (x, p, inr via))) = via_wide 1 x (track_y ch.low wire t) s (omega arith) via

  forward : (ch : Channel) (intervals : List Interval) (net : ℕ) (interval : Interval) → AreIntervals ch intervals → slice_get intervals net ≡ Some interval → interval.left ≤ℤ interval.right
  forward ch intervals net interval are at = let i = are.of_net net interval at in i.greatest interval.left i.begins

  moved_fine : (b : ℕ) (inner s : Shape) → IsShifted (pos b *ℤ f.bank_width) (pos 0) inner s → Fine inner → Fine s
  moved_fine b inner s sh (inl w) = inl (moved_wide wire.width w) where
    moved_wide : (n : ℤ) → IsAsWide n inner.rect → IsAsWide n s.rect
    moved_wide n w = record { wide = let p = sh.x1 in let q = sh.x2 in let a = w.wide in omega (arith, ints, p, q, a); tall = let p = sh.y1 in let q = sh.y2 in let a = w.tall in omega (arith, ints, p, q, a) }
  moved_fine b inner s sh (inr w) = inr (subst (Contains wire.cuts) (sym sh.layer) w.0, record { wide = let p = sh.x1 in let q = sh.x2 in let a = w.1.wide in omega (arith, ints, p, q, a); tall = let p = sh.y1 in let q = sh.y2 in let a = w.1.tall in omega (arith, ints, p, q, a) })

  -- taps reach from their rail into the rows
  zero_times : (q : ℤ) → pos 0 *ℤ q ≡ pos 0
  zero_times q = grind (arith, ints)

  pub tap_long : (x y end : ℤ) → IsTapAt plan kit wire tracks.column f x y end → (x +ℤ wire.width) ≤ℤ end
  tap_long x y end is = by is.tap where
    z : pos 0 *ℤ f.bank_width ≡ pos 0
    z = zero_times f.bank_width

    before : ((x +ℤ wire.width) +ℤ wire.space) ≤ℤ bank_x f 0 f.row_x
    before = let r = rail_at plan kit wire f 0 is.net x s_of is.rail in r.to

    front : (rect : Rect) → end ≡ rect.x2 → bank_x f 0 f.row_x ≤ℤ (rect.x1 +ℤ pos 0) → (x +ℤ wire.width) ≤ℤ end
    front rect e low = let b = before in let sp = m.laid.sizes.space.from in let w = rect.wide in omega (arith, ints, e, low, b, sp, w)

    columns : (n : ℕ) (rect : Rect) → end ≡ rect.x2 → bank_x f 0 (columns_x plan kit f +ℤ pos n) ≤ℤ (rect.x1 +ℤ pos 0) → (x +ℤ wire.width) ≤ℤ end
    columns n rect e low = let c = s_of.columns in front rect e (omega (arith, ints, c, low))

    by : IsTapOfNet plan kit wire tracks.column f is.net x y end → (x +ℤ wire.width) ≤ℤ end
    by (inl (r, p)) = let n = pin_in_zone plan kit wire f (NandAt 0 r) p.port 2 is.net p.rect m.laid m.pins p.pin in front p.rect p.ends n.left
    by (inr (inl (r, p))) = let n = pin_in_zone plan kit wire f (DriverAt 0 r) p.port 2 is.net p.rect m.laid m.pins p.pin in front p.rect p.ends n.left
    by (inr (inr (inl (i, last, p)))) = let n = pin_in_zone plan kit wire f (SenseAt 0 i) p.port 2 is.net p.rect m.laid m.pins p.pin in columns ((i * words_per_row plan) * bit_width kit) p.rect p.ends n.left
    by (inr (inr (inr (inl (c, last, p))))) = let n = pin_in_zone plan kit wire f (PrechargeAt 0 c) p.port 2 is.net p.rect m.laid m.pins p.pin in columns (c * bit_width kit) p.rect p.ends n.left
    by (inr (inr (inr (inr c)))) = let e = c.ends in omega (arith, ints, e)

  -- columns are at least as wide as a wire
  columns_wide : (columns_x plan kit f +ℤ wire.width) ≤ℤ columns_end plan kit f
  columns_wide = go (columns_x plan kit f) wire.width (bit_width kit) (columns_of plan * bit_width kit) pin_wide (times plan.word_size (words_per_row plan) (bit_width kit) words (power_low plan.col_bits)) where
    pin_wide : wire.width ≤ℤ pos (bit_width kit)
    pin_wide = let a = m.pins.left Bitcell 0 1 in let b = m.pins.right Bitcell 0 1 tt (inl refl) in omega (arith, ints, a, b)

    power_low : (k : ℕ) → 1 ≤ power_of_two k
    power_low zero = omega arith
    power_low (suc k) = let p = power_low k in omega (arith, p)

    times : (n w v : ℕ) → 0 < n → 1 ≤ w → v ≤ (n * w) * v
    times n w v a b = let c = product n w a b in let le = mul-le-mul_right v c in let one : 1 * v ≡ v = omega arith in omega (arith, le, one) where
      product : (n w : ℕ) → 0 < n → 1 ≤ w → 1 ≤ n * w
      product n w a b = grind (arith, a, b)

    go : (c w : ℤ) (v all : ℕ) → w ≤ℤ pos v → v ≤ all → (c +ℤ w) ≤ℤ (c +ℤ pos all)
    go c w v all a b = omega (arith, ints, a, b)

  up_by : (y w : ℤ) → ((y -ℤ w) +ℤ w) ≤ℤ y
  up_by y w = omega (arith, ints)

  bank_fine : (s : Shape) → IsWireInBank plan kit wire tracks f s → Fine s
  bank_fine s (inl channel) = let n = m.column.each s channel in of_net m.column.channel tracks.column n.0 n.1.interval n.1.t s (forward m.column.channel m.column.intervals n.0 n.1.interval m.column.nets n.1.has.there) (m.column.count.below n.0 n.1.t n.1.has.on) n.1.wires
  bank_fine s (inr (inl tap)) = elim tap.drawn [
    | inl box ↦ box_wide (slice_index wire.metals 2) tap.x tap.y tap.end (tap.y +ℤ wire.width) s box (tap_long tap.x tap.y tap.end tap.tap) (same (tap.y +ℤ wire.width))
    | inr via ↦ via_wide 2 tap.x tap.y s (omega arith) via
  ]
  bank_fine s (inr (inr (inl rail))) = box_wide (slice_index wire.metals 3) rail.x f.write_y (rail.x +ℤ wire.width) (rail.y +ℤ wire.width) s rail.drawn (same (rail.x +ℤ wire.width)) (longer f.write_y rail.y wire.width (tap_low plan kit wire tracks f rail.x rail.y rail.end m rail.tap))
  bank_fine s (inr (inr (inr (inl out)))) =
      box_wide (slice_index wire.metals 3) out.rect.x1 f.write_y (out.rect.x1 +ℤ wire.width) f.sense_y s out.drawn (same (out.rect.x1 +ℤ wire.width))
      (go f.write_y f.sense_y wire.width (write_height plan kit) (kit.height Write) m.stands.sense_y (written_all plan.write_size (kit.height Write) m.laid.written) (m.pins.cells Write))
    where
      go : (y s w : ℤ) (h k : ℕ) → s ≡ y +ℤ pos h → h ≡ k → w ≤ℤ pos k → (y +ℤ w) ≤ℤ s
      go y s w h k e q le = omega (arith, ints, e, q, le)
  bank_fine s (inr (inr (inr (inr (inl joiner))))) = box_wide (slice_index wire.metals 0) (columns_x plan kit f) (f.sense_y -ℤ wire.width) (columns_end plan kit f) f.sense_y s joiner.1 columns_wide (up_by f.sense_y wire.width)
  bank_fine s (inr (inr (inr (inr (inr joiner))))) = box_wide (slice_index wire.metals 0) f.row_x (f.array_y -ℤ wire.width) (columns_end plan kit f) f.array_y s joiner (let a = columns_wide in let b = s_of.columns in omega (arith, ints, a, b)) (up_by f.array_y wire.width)

  -- bars begin left of their trunk
  pub contents : (x : ℤ) → x ≤ℤ columns_x plan kit f → (x +ℤ wire.width) ≤ℤ (trunk_x plan kit wire f +ℤ wire.width)
  contents x le = let e = s_of.bank in let w = m.laid.sizes.space.from in go x (columns_x plan kit f) f.bank_width (pos (banks_of plan) *ℤ f.bank_width) (f.logic_x +ℤ pos (total_width plan kit (logic_cells plan))) wire.space wire.width (columns_of plan * bit_width kit) le e (once (banks_of plan) f.bank_width (power_low plan.bank_bits) s_of.wide) w where
    power_low : (k : ℕ) → 1 ≤ power_of_two k
    power_low zero = omega arith
    power_low (suc k) = let p = power_low k in omega (arith, p)

    go : (x c q all lx s w : ℤ) (n : ℕ) → x ≤ℤ c → q ≡ c +ℤ pos n → q ≤ℤ all → pos 1 ≤ℤ s → (x +ℤ w) ≤ℤ ((int_max all lx +ℤ s) +ℤ w)
    go x c q all lx s w n a e b d = omega (arith, ints, clamps, a, e, b, d)

  pub ground : (x : ℤ) → (x +ℤ wire.width) ≤ℤ (trunk_x plan kit wire f +ℤ wire.width) → (x +ℤ wire.width) ≤ℤ (ground_x plan kit wire f +ℤ wire.width)
  ground x le = let a = m.laid.sizes.width.from in let b = m.laid.sizes.space.from in go x (trunk_x plan kit wire f) wire.width wire.space le a b where
    go : (x t w s : ℤ) → (x +ℤ w) ≤ℤ (t +ℤ w) → pos 1 ≤ℤ w → pos 1 ≤ℤ s → (x +ℤ w) ≤ℤ ((t +ℤ (w +ℤ s)) +ℤ w)
    go x t w s a b c = omega (arith, ints, a, b, c)

  from_logic : f.logic_x ≤ℤ columns_x plan kit f
  from_logic = let a = m.stands.logic_x in let b = s_of.row in let c = s_of.columns in omega (arith, ints, a, b, c)

  from_row : f.row_x ≤ℤ columns_x plan kit f
  from_row = s_of.columns

  pub power_from : (x y : ℤ) → IsPowerBarAt plan kit wire f x y → x ≤ℤ columns_x plan kit f
  power_from x y (inl at) = subst (λ (z : ℤ). z ≤ℤ columns_x plan kit f) (sym at.0) from_logic
  power_from x y (inr (inl at)) = subst (λ (z : ℤ). z ≤ℤ columns_x plan kit f) (sym at.1) (same (columns_x plan kit f))
  power_from x y (inr (inr (inl at))) = subst (λ (z : ℤ). z ≤ℤ columns_x plan kit f) (sym at.0) (same (columns_x plan kit f))
  power_from x y (inr (inr (inr (inl at)))) = subst (λ (z : ℤ). z ≤ℤ columns_x plan kit f) (sym at.0) (same (columns_x plan kit f))
  power_from x y (inr (inr (inr (inr (inl (r, lt, odd, e, at)))))) = subst (λ (z : ℤ). z ≤ℤ columns_x plan kit f) (sym e) from_row
  power_from x y (inr (inr (inr (inr (inr at))))) = subst (λ (z : ℤ). z ≤ℤ columns_x plan kit f) (sym at.0) (same (columns_x plan kit f))

  pub ground_from : (x y : ℤ) → IsGroundBarAt plan kit f x y → x ≤ℤ columns_x plan kit f
  ground_from x y (inl at) = subst (λ (z : ℤ). z ≤ℤ columns_x plan kit f) (sym at.0) from_logic
  ground_from x y (inr (inl at)) = subst (λ (z : ℤ). z ≤ℤ columns_x plan kit f) (sym at.0) (same (columns_x plan kit f))
  ground_from x y (inr (inr (inl (r, lt, even, e, at)))) = subst (λ (z : ℤ). z ≤ℤ columns_x plan kit f) (sym e) from_row
  ground_from x y (inr (inr (inr at))) = subst (λ (z : ℤ). z ≤ℤ columns_x plan kit f) (sym at.0) from_row

  bar_fine : (trunk x y : ℤ) (s : Shape) → (x +ℤ wire.width) ≤ℤ (trunk +ℤ wire.width) → IsBar wire trunk x y s → Fine s
  bar_fine trunk x y s le (inl box) = box_wide (slice_index wire.metals 0) x y (trunk +ℤ wire.width) (y +ℤ wire.width) s box le (same (y +ℤ wire.width))
  bar_fine trunk x y s le (inr via) = via_wide 0 trunk y s (omega arith) via

  supply_fine : (x : ℤ) (s : Shape) → IsSupplyTrunk kit wire f x s → Fine s
  supply_fine x s is =
      box_wide (slice_index wire.metals 1) x (pos 0) (x +ℤ wire.width) (upper_y kit f) s is (same (x +ℤ wire.width))
      (let a = l.sense in let b = l.channel in let c = l.column in let d = l.array in let e = l.precharge in go wire.width wire.space f.write_y f.sense_y (column_channel_y kit f) f.column_y f.array_y f.precharge_y (kit.height Precharge) a b c d e m.laid.sizes.space.from write_low (m.pins.cells Precharge))
    where
      write_low : pos 0 ≤ℤ f.write_y
      write_low = low (kit.height Inv) f.write_y (channel_height wire tracks.main) wire.space (pos tracks.main *ℤ pitch wire) m.stands.write_y m.laid.sizes.space.from (times_low tracks.main (pitch wire) (pitch_low wire m.laid.sizes)) where
        low : (h : ℕ) (y c s t : ℤ) → y ≡ pos h +ℤ (s +ℤ t) → pos 1 ≤ℤ s → pos 0 ≤ℤ t → pos 0 ≤ℤ y
        low h y c s t e a b = omega (arith, ints, e, a, b)

      go : (w sp wy sy cy oy ay py : ℤ) (h : ℕ) → wy ≤ℤ sy → sy ≤ℤ cy → (cy +ℤ sp) ≤ℤ oy → oy ≤ℤ ay → ay ≤ℤ py → pos 1 ≤ℤ sp → pos 0 ≤ℤ wy → w ≤ℤ pos h → (pos 0 +ℤ w) ≤ℤ (py +ℤ pos h)
      go w sp wy sy cy oy ay py h a b c d e sp1 low le = omega (arith, ints, a, b, c, d, e, sp1, low, le)

  fine : (s : Shape) → IsDrawnWire plan kit wire tracks f s → Fine s
  fine s (inl (inl channel)) = let n = m.main.each s channel in of_net m.main.channel tracks.main n.0 n.1.interval n.1.t s (forward m.main.channel m.main.intervals n.0 n.1.interval m.main.nets n.1.has.there) (m.main.count.below n.0 n.1.t n.1.has.on) n.1.wires
  fine s (inl (inr (inl (inl trunk)))) = supply_fine (trunk_x plan kit wire f) s trunk
  fine s (inl (inr (inl (inr (x, y, at, bar))))) = bar_fine (trunk_x plan kit wire f) x y s (contents x (power_from x y at)) bar
  fine s (inl (inr (inr (inl trunk)))) = supply_fine (ground_x plan kit wire f) s trunk
  fine s (inl (inr (inr (inr (x, y, at, bar))))) = bar_fine (ground_x plan kit wire f) x y s (ground x (contents x (ground_from x y at))) bar
  fine s (inr banks) = moved_fine banks.bank banks.inner s banks.shifted (bank_fine banks.inner banks.is)

pub wires_are_wide : WiresAreWide
wires_are_wide plan kit wire tracks f m words s is = fine plan kit wire tracks f m words s is
