-- A tap stands in a small memory too, as far as a frame around a zone goes.
use Rattle.std.proofs.Common.{◌≡◌, ◌⊎◌, inl, inr, ◌∙◌, ℕ, zero, suc, ◌+◌, ◌-◌, ◌*◌, ◌<◌, ◌≤◌, ℤ, pos, ◌+ℤ◌, ◌-ℤ◌, ◌*ℤ◌, ◌≤ℤ◌, ◌<ℤ◌, sym, ap, subst, arith}
use Rattle.std.specs.Int.{int_min}
use Rattle.std.proofs.Math.Nat.{mul_assoc, mul-le-mul_right}
use Rattle.std.proofs.lemmas.Bool.{cases_lt}
use Rattle.std.proofs.lemmas.Int.{ints}
use Rattle.or_geom.specs.declared.shape.Rect.{Rect}
use Rattle.or_geom.specs.declared.shape.Shape.{Shape}
use Rattle.shape_bins.specs.Meets.{Overlap}
use Rattle.tech_rules.specs.declared.tech.Wire.{Wire}
use Rattle.sram_netlist.specs.Organization.{Organization, power_of_two, banks_of, columns_of, words_per_row}
use Rattle.sram_netlist.specs.Instances.{PrechargeAt, SenseAt}
use Rattle.macro_layout.specs.LayoutKit.{LayoutKit}
use Rattle.macro_layout.specs.Places.{Floorplan, bank_x, column_x, columns_x, bit_width}
use Rattle.macro_layout.specs.Floorplan.{Tracks}
use Rattle.macro_layout.specs.Wires.{IsPinTap, IsTapOfNet, IsTapAt}
use Rattle.good_places.specs.Leaves.{Zone, LiesNear}
use Rattle.good_places.specs.Seen.{IsMovedZone}
use Rattle.good_places.specs.Windows.{with_bits}
use Rattle.good_wires.specs.Drawn.{IsDrawnMemory, IsDrawnWire}
use Rattle.good_wires.proofs.LevelLaws.{Sides, sides}
use Rattle.good_wires.proofs.ClearLaws.{IsBankZone, column_in, front_in, slice_in}
use Rattle.good_wires.proofs.ThirdLaws.{IsTap}
use Rattle.tap_spaces.proofs.TailLaws.{IsPlacedAt, tail_places}
use Rattle.good_places.specs.Kinds.{AreColumns, AreFronts, AreSlices}
use Rattle.tap_spaces.proofs.TapImageLaws.{up, slice_up, over, same_row, same_columns, rail_moves, nand_moves, driver_moves, precharge_moves, sense_moves, tap_wire}
use Rattle.tap_spaces.proofs.TapKindLaws.{IsRowTap, IsPrechargeTap, IsSenseTap, rail_left, row_ends, precharge_from, sense_from, same_bank}
use Rattle.tap_spaces.proofs.TapEndLaws.{same_end, tail_end, front_end}

-- what stands in the other memory for a tap: it begins left of the frame, stands as high, and ends alike as far as the frame goes
pub record HasTapImage (dx dy : ℤ) (frame : Rect) (IsWire : Shape → Type 0) (b : Shape) : Type 0 where
  pub image : Shape
  pub drawn : IsWire image
  pub layer : image.layer ≡ b.layer
  pub left : b.rect.x1 ≤ℤ frame.x1
  pub left_there : image.rect.x1 ≤ℤ (frame.x1 +ℤ dx)
  pub low : image.rect.y1 ≡ b.rect.y1 +ℤ dy
  pub high : image.rect.y2 ≡ b.rect.y2 +ℤ dy
  pub right : int_min (b.rect.x2 +ℤ dx) (frame.x2 +ℤ dx) ≡ int_min image.rect.x2 (frame.x2 +ℤ dx)

-- Numbers

last_of : (d n : ℕ) → d < n → (n - 1) + 1 ≡ n
last_of d n lt = omega (arith, lt)

before_end : (d n : ℕ) → d < n → n - 1 < n
before_end d n lt = omega (arith, lt)

power_low : (k : ℕ) → 1 ≤ power_of_two k
power_low zero = omega arith
power_low (suc k) = let p = power_low k in omega (arith, p)

at_least : (n v : ℕ) → 1 ≤ n → v ≤ n * v
at_least n v some = let le = mul-le-mul_right v some in let one : 1 * v ≡ v = omega arith in omega (arith, le, one)

columns_beside : (x y p q dx : ℤ) (c d : ℕ) → x ≡ y → c ≡ 0 → d ≡ 0 → dx ≡ ((y +ℤ pos d) +ℤ q) -ℤ ((x +ℤ pos c) +ℤ p) → q ≡ p +ℤ dx
columns_beside x y p q dx c d e a b is = omega (arith, ints, e, a, b, is)

fronts_beside : (x y p q dx : ℤ) → x ≡ y → dx ≡ (y +ℤ q) -ℤ (x +ℤ p) → q ≡ p +ℤ dx
fronts_beside x y p q dx e is = omega (arith, ints, e, is)

fronts_apart : (x y p q dx : ℤ) → x ≡ y → dx ≡ (y +ℤ q) -ℤ (x +ℤ p) → dx ≡ q -ℤ p
fronts_apart x y p q dx e is = omega (arith, ints, e, is)

-- what ends before the columns isn't near a column behind the first
too_far : (left min x end p q hl b2 : ℤ) (c w : ℕ) → w ≤ c → p ≡ q → end ≤ℤ x → hl ≡ (x +ℤ pos c) +ℤ q → b2 ≡ end +ℤ p → left <ℤ b2 → hl ≤ℤ (left +ℤ min) → min ≤ℤ pos w → ⊥
too_far left min x end p q hl b2 c w le e ends h d cover from less = omega (arith, ints, le, e, ends, h, d, cover, from, less)

-- the last of so many is the first, or stands behind it, as in the other memory
pub ends_alike : (w n p q k : ℕ) → (1 ≡ n → 1 ≡ k) → (1 ≡ k → 1 ≡ n) → p + 1 ≡ n → q + 1 ≡ k → ((p * w ≡ 0) × (q * w ≡ 0)) ⊎ ((w ≤ p * w) × (w ≤ q * w))
ends_alike w n p q k to from a b = elim (cases_lt 0 p) [
  | inl some ↦ inr (at_least p w some, at_least q w (more (cases_lt 0 q) some))
  | inr none ↦ let z : p ≡ 0 = omega (arith, none) in let e = to (omega (arith, z, a)) in inl (nothing p z, nothing q (omega (arith, e, b)))
] where
  nothing : (p : ℕ) → p ≡ 0 → p * w ≡ 0
  nothing p z = let e : 0 * w ≡ 0 = omega arith in ap (λ (k : ℕ). k * w) z ∙ e

  more : (0 < q) ⊎ (q ≤ 0) → 0 < p → 0 < q
  more (inl some) behind = some
  more (inr none) behind = let e = from (omega (arith, none, b)) in absurd (omega (arith, e, a, behind))

module _ (base : Organization) (kit : LayoutKit) (wire : Wire) (w1 r1 m1 w2 r2 m2 : ℕ) (tracks many : Tracks) (f g : Floorplan) (m : IsDrawnMemory (with_bits base w1 r1 m1) kit wire tracks f) (n : IsDrawnMemory (with_bits base w2 r2 m2) kit wire many g)
    (min dx dy : ℤ) (some : pos 1 ≤ℤ min) (small : min ≤ℤ (wire.space +ℤ wire.width)) (narrow : min ≤ℤ pos (bit_width kit)) (here there : Zone) (same : IsMovedZone dx dy here there) (frame : Rect) (around : LiesNear min here frame) where
  abbrev plan : Organization
  plan = with_bits base w1 r1 m1

  abbrev other : Organization
  other = with_bits base w2 r2 m2

  abbrev IsThere : Shape → Type 0
  IsThere = IsDrawnWire other kit wire many g

  abbrev Tap : Shape → Type 0
  Tap b = IsTap plan kit wire tracks f m b

  abbrev offset : ℕ → ℤ
  offset b = pos b *ℤ f.bank_width

  abbrev offset_there : ℕ → ℤ
  offset_there b = pos b *ℤ g.bank_width

  abbrev wpr : ℕ
  wpr = words_per_row base

  s_of : Sides plan kit wire f
  s_of = sides plan kit wire tracks f m.laid.sizes m.stands

  -- The image of a tap

  -- what the zones say of a bank's taps
  pub record AreOfBank (bank : ℕ) : Type 0 where
    pub below : bank < banks_of base
    pub here_left : (f.row_x +ℤ offset bank) ≤ℤ here.left
    pub there_left : (g.row_x +ℤ offset_there bank) ≤ℤ there.left

  pub put : (b : Shape) (t : Tap b) (bank : ℕ) → t.bank ≡ bank → AreOfBank bank → (y end : ℤ) → y ≡ t.y +ℤ dy → IsTapAt other kit wire many.column g t.x y end → f.row_x ≤ℤ end → int_min ((t.end +ℤ offset bank) +ℤ dx) (frame.x2 +ℤ dx) ≡ int_min (end +ℤ offset_there bank) (frame.x2 +ℤ dx)
      → HasTapImage dx dy frame IsThere b
  put b t bank is zones y end at tap from ends =
      let left = rail_left plan kit wire tracks f m t.x t.y t.end min t.tap small in
      let w = tap_wire other kit wire many g n bank zones.below t.x y end tap (long left) in
      let e : offset t.bank ≡ offset bank = ap offset is in
      record {
        image = w.image;
        drawn = w.drawn;
        layer = w.box.on ∙ sym t.drawn.on;
        left = begins b.rect.x1 t.x (offset t.bank) (offset bank) f.row_x here.left t.drawn.left e left zones.here_left around.left;
        left_there = begins_there w.image.rect.x1 t.x (offset_there bank) f.row_x g.row_x here.left there.left w.box.left (same_row base kit wire w1 r1 m1 w2 r2 m2 tracks many f g m n) left zones.there_left same.left around.left;
        low = w.box.low ∙ at ∙ sym (ap (λ (z : ℤ). z +ℤ dy) t.drawn.low);
        high = raised w.image.rect.y2 y b.rect.y2 t.y wire.width w.box.high at t.drawn.high;
        right = subst (λ (z : ℤ). int_min (b.rect.x2 +ℤ dx) (frame.x2 +ℤ dx) ≡ int_min z (frame.x2 +ℤ dx)) (sym w.box.right)
            (subst (λ (z : ℤ). int_min (z +ℤ dx) (frame.x2 +ℤ dx) ≡ int_min (end +ℤ offset_there bank) (frame.x2 +ℤ dx)) (sym (t.drawn.right ∙ ap (λ (z : ℤ). t.end +ℤ z) e)) ends);
      }
    where
      long : (t.x +ℤ min) ≤ℤ f.row_x → t.x <ℤ end
      long left = omega (arith, ints, left, from, some)

      begins : (b1 x p q row hl : ℤ) → b1 ≡ x +ℤ p → p ≡ q → (x +ℤ min) ≤ℤ row → (row +ℤ q) ≤ℤ hl → hl ≤ℤ (frame.x1 +ℤ min) → b1 ≤ℤ frame.x1
      begins b1 x p q row hl is e left zl ar = omega (arith, ints, is, e, left, zl, ar)

      begins_there : (i1 x q row rowg hl tl : ℤ) → i1 ≡ x +ℤ q → row ≡ rowg → (x +ℤ min) ≤ℤ row → (rowg +ℤ q) ≤ℤ tl → tl ≡ hl +ℤ dx → hl ≤ℤ (frame.x1 +ℤ min) → i1 ≤ℤ (frame.x1 +ℤ dx)
      begins_there i1 x q row rowg hl tl is e left zl s ar = omega (arith, ints, is, e, left, zl, s, ar)

      raised : (i2 y b2 z w : ℤ) → i2 ≡ y +ℤ w → y ≡ z +ℤ dy → b2 ≡ z +ℤ w → i2 ≡ b2 +ℤ dy
      raised i2 y b2 z w p q r = omega (arith, ints, p, q, r)

  -- taps of rows
  pub row_put : (b : Shape) (t : Tap b) (bank : ℕ) → t.bank ≡ bank → AreOfBank bank → g.column_y -ℤ f.column_y ≡ dy → offset_there bank ≡ offset bank +ℤ dx → IsRowTap plan kit wire tracks f m t.tap.net t.y t.end → HasTapImage dx dy frame IsThere b
  row_put b t bank is zones rise moved row =
      let ends = row_ends plan kit wire tracks f m t.tap.net t.y t.end row in
      put b t bank is zones (t.y +ℤ up base kit wire w1 r1 m1 w2 r2 m2 tracks many f g m n) (t.end +ℤ pos 0) (ap (λ (z : ℤ). t.y +ℤ z) rise)
      (record { net = t.tap.net; rail = rail_moves base kit wire w1 r1 m1 w2 r2 m2 tracks many f g m n t.tap.net t.x t.tap.rail; tap = tap_there row })
      (stays f.row_x t.end ends.0) (same_end (t.end +ℤ offset bank) ((t.end +ℤ pos 0) +ℤ offset_there bank) dx frame.x2 (moves t.end (offset bank) (offset_there bank) moved))
    where
      tap_there : IsRowTap plan kit wire tracks f m t.tap.net t.y t.end → IsTapOfNet other kit wire many.column g t.tap.net t.x (t.y +ℤ up base kit wire w1 r1 m1 w2 r2 m2 tracks many f g m n) (t.end +ℤ pos 0)
      tap_there (inl (r, p)) = inl (r, nand_moves base kit wire w1 r1 m1 w2 r2 m2 tracks many f g m n r t.tap.net t.y t.end p)
      tap_there (inr (r, p)) = inr (inl (r, driver_moves base kit wire w1 r1 m1 w2 r2 m2 tracks many f g m n r t.tap.net t.y t.end p))

      stays : (row end : ℤ) → row ≤ℤ end → row ≤ℤ (end +ℤ pos 0)
      stays row end le = omega (arith, ints, le)

      moves : (end p q : ℤ) → q ≡ p +ℤ dx → (end +ℤ pos 0) +ℤ q ≡ (end +ℤ p) +ℤ dx
      moves end p q e = omega (arith, ints, e)

  behind_rows : (end : ℤ) (p q : ℕ) → (columns_x plan kit f +ℤ pos p) ≤ℤ end → f.row_x ≤ℤ (end +ℤ (pos q -ℤ pos p))
  behind_rows end p q from = go f.row_x (columns_x plan kit f) s_of.columns from where
    go : (row x : ℤ) → row ≤ℤ x → (x +ℤ pos p) ≤ℤ end → row ≤ℤ (end +ℤ (pos q -ℤ pos p))
    go row x a b = omega (arith, ints, a, b)

  -- the tap of the last precharge cell
  pub precharge_put : (b : Shape) (t : Tap b) (bank c d : ℕ) → t.bank ≡ bank → AreOfBank bank → g.column_y -ℤ f.column_y ≡ dy → IsPinTap plan kit f (PrechargeAt 0 c) t.tap.net t.y t.end → d + 1 ≡ columns_of other
      → int_min ((t.end +ℤ offset bank) +ℤ dx) (frame.x2 +ℤ dx) ≡ int_min ((t.end +ℤ (pos (d * bit_width kit) -ℤ pos (c * bit_width kit))) +ℤ offset_there bank) (frame.x2 +ℤ dx) → HasTapImage dx dy frame IsThere b
  precharge_put b t bank c d is zones rise p last ends =
      put b t bank is zones (t.y +ℤ up base kit wire w1 r1 m1 w2 r2 m2 tracks many f g m n) (t.end +ℤ over base kit wire w1 r1 m1 w2 r2 m2 tracks many f g m n c d) (ap (λ (z : ℤ). t.y +ℤ z) rise)
      (record {
        net = t.tap.net;
        rail = rail_moves base kit wire w1 r1 m1 w2 r2 m2 tracks many f g m n t.tap.net t.x t.tap.rail;
        tap = inr (inr (inr (inl (d, last, precharge_moves base kit wire w1 r1 m1 w2 r2 m2 tracks many f g m n c d t.tap.net t.x t.y t.end t.tap.rail (omega (arith, last)) p))));
      })
      (behind_rows t.end (c * bit_width kit) (d * bit_width kit) (precharge_from plan kit wire tracks f m t.tap.net t.y t.end c p)) ends

  -- the tap of the last sense cell
  pub sense_put : (b : Shape) (t : Tap b) (bank i j : ℕ) → t.bank ≡ bank → AreOfBank bank → g.write_y -ℤ f.write_y ≡ dy → IsPinTap plan kit f (SenseAt 0 i) t.tap.net t.y t.end → j + 1 ≡ other.word_size
      → int_min ((t.end +ℤ offset bank) +ℤ dx) (frame.x2 +ℤ dx) ≡ int_min ((t.end +ℤ (pos ((j * wpr) * bit_width kit) -ℤ pos ((i * wpr) * bit_width kit))) +ℤ offset_there bank) (frame.x2 +ℤ dx) → HasTapImage dx dy frame IsThere b
  sense_put b t bank i j is zones rise p last ends =
      put b t bank is zones (t.y +ℤ slice_up base kit wire w1 r1 m1 w2 r2 m2 tracks many f g m n) (t.end +ℤ over base kit wire w1 r1 m1 w2 r2 m2 tracks many f g m n (i * wpr) (j * wpr)) (ap (λ (z : ℤ). t.y +ℤ z) rise)
      (record {
        net = t.tap.net;
        rail = rail_moves base kit wire w1 r1 m1 w2 r2 m2 tracks many f g m n t.tap.net t.x t.tap.rail;
        tap = inr (inr (inl (j, last, sense_moves base kit wire w1 r1 m1 w2 r2 m2 tracks many f g m n i j t.tap.net t.x t.y t.end t.tap.rail (omega (arith, last)) p)));
      })
      (behind_rows t.end ((i * wpr) * bit_width kit) ((j * wpr) * bit_width kit) (sense_from plan kit wire tracks f m t.tap.net t.y t.end i p)) ends

  -- Near a zone of a bank

  of_bank : (bank : ℕ) → bank < banks_of base → IsBankZone plan kit wire tracks f m bank here → IsBankZone other kit wire many g n bank there → AreOfBank bank
  of_bank bank below z z2 = record { below = below; here_left = z.left; there_left = z2.left }

  bank_is : (b : Shape) (t : Tap b) (bank : ℕ) → IsBankZone plan kit wire tracks f m bank here → Overlap b.rect frame → t.bank ≡ bank
  bank_is b t bank z cover =
      same_bank plan kit wire tracks f m bank t.bank here t.x t.y t.end frame.x1 frame.x2 min z t.tap small around.left around.right
      (subst (λ (q : ℤ). frame.x1 <ℤ q) t.drawn.right cover.right) (subst (λ (q : ℤ). q <ℤ frame.x2) t.drawn.left cover.left)

  risen : (p q hl tl : ℤ) → hl ≡ p → tl ≡ q → tl ≡ hl +ℤ dy → q -ℤ p ≡ dy
  risen p q hl tl a b e = omega (arith, ints, a, b, e)

  moved_by : (hl tl p q : ℤ) → hl ≡ p → tl ≡ q → tl ≡ hl +ℤ dx → dx ≡ q -ℤ p
  moved_by hl tl p q a b e = omega (arith, ints, a, b, e)

  cols : columns_x plan kit f ≡ columns_x other kit g
  cols = same_columns base kit wire w1 r1 m1 w2 r2 m2 tracks many f g m n

  pub columns : (b : Shape) (t : Tap b) → Overlap b.rect frame → AreColumns plan other kit f g here there → IsRowTap plan kit wire tracks f m t.tap.net t.y t.end ⊎ IsPrechargeTap plan kit wire tracks f m t.tap.net t.y t.end → HasTapImage dx dy frame IsThere b
  columns b t cover z kind =
      let zone = subst (IsBankZone plan kit wire tracks f m z.bank) (sym z.here_is) (column_in plan kit wire tracks f m z.bank z.c z.below z.edge.here) in
      let zone_there = subst (IsBankZone other kit wire many g n z.bank) (sym z.there_is) (column_in other kit wire many g n z.bank z.d z.below z.edge.there) in
      let is = bank_is b t z.bank zone cover in
      let zones = of_bank z.bank z.below zone zone_there in
      let rise = risen f.column_y g.column_y here.low there.low (ap (λ (q : Zone). q.low) z.here_is) (ap (λ (q : Zone). q.low) z.there_is) same.low in
      let moved = moved_by here.left there.left (bank_x f z.bank (column_x plan kit f z.c)) (bank_x g z.bank (column_x other kit g z.d)) (ap (λ (q : Zone). q.left) z.here_is) (ap (λ (q : Zone). q.left) z.there_is) same.left in
      elim kind [
        | inl row ↦
            let first = first_column z t is cover row in
            row_put b t z.bank is zones rise (columns_beside (columns_x plan kit f) (columns_x other kit g) (offset z.bank) (offset_there z.bank) dx (z.c * bit_width kit) (z.d * bit_width kit) cols (nothing z.c first) (nothing z.d (z.edge.first.0 first)) moved) row
        | inr (c, last, p) ↦
            let d = columns_of other - 1 in
            let end = last_of z.d (columns_of other) z.edge.there in
            precharge_put b t z.bank c d is zones rise p end
            (tail_end (columns_x plan kit f) (columns_x other kit g) (offset z.bank) (offset_there z.bank) dx t.end frame.x2 min (bit_width kit) (z.c * bit_width kit) (z.d * bit_width kit) (c * bit_width kit) (d * bit_width kit)
            (tail_places (bit_width kit) (columns_of plan) z.c (columns_of other) z.d c d z.edge z.next last end) cols moved (subst (λ (q : ℤ). frame.x2 ≤ℤ (q +ℤ min)) (ap (λ (q : Zone). q.right) z.here_is) around.right) narrow (precharge_from plan kit wire tracks f m t.tap.net t.y t.end c p))
      ]
    where
      nothing : (c : ℕ) → c ≡ 0 → c * bit_width kit ≡ 0
      nothing c e = let zero_is : 0 * bit_width kit ≡ 0 = omega arith in ap (λ (k : ℕ). k * bit_width kit) e ∙ zero_is

      -- the taps of rows end before the columns
      first_column : (z : AreColumns plan other kit f g here there) (t : Tap b) → t.bank ≡ z.bank → Overlap b.rect frame → IsRowTap plan kit wire tracks f m t.tap.net t.y t.end → z.c ≡ 0
      first_column z t is cover row =
          let ends = row_ends plan kit wire tracks f m t.tap.net t.y t.end row in
          elim (cases_lt 0 z.c) [
            | inl later ↦ absurd (too_far frame.x1 min (columns_x plan kit f) t.end (offset t.bank) (offset z.bank) here.left b.rect.x2 (z.c * bit_width kit) (bit_width kit) (at_least z.c (bit_width kit) later) (ap offset is) ends.1 (ap (λ (q : Zone). q.left) z.here_is) t.drawn.right cover.right around.left narrow)
            | inr none ↦ omega (arith, none)
          ]

  pub fronts : (b : Shape) (t : Tap b) → Overlap b.rect frame → AreFronts plan other kit f g here there → IsRowTap plan kit wire tracks f m t.tap.net t.y t.end ⊎ IsPrechargeTap plan kit wire tracks f m t.tap.net t.y t.end → HasTapImage dx dy frame IsThere b
  fronts b t cover z kind =
      let zone = subst (IsBankZone plan kit wire tracks f m z.bank) (sym z.here_is) (front_in plan kit wire tracks f m z.bank z.below) in
      let zone_there = subst (IsBankZone other kit wire many g n z.bank) (sym z.there_is) (front_in other kit wire many g n z.bank z.below) in
      let is = bank_is b t z.bank zone cover in
      let zones = of_bank z.bank z.below zone zone_there in
      let rise = risen f.column_y g.column_y here.low there.low (ap (λ (q : Zone). q.low) z.here_is) (ap (λ (q : Zone). q.low) z.there_is) same.low in
      let moved = moved_by here.left there.left (bank_x f z.bank f.row_x) (bank_x g z.bank g.row_x) (ap (λ (q : Zone). q.left) z.here_is) (ap (λ (q : Zone). q.left) z.there_is) same.left in
      elim kind [
        | inl row ↦ row_put b t z.bank is zones rise (fronts_beside f.row_x g.row_x (offset z.bank) (offset_there z.bank) dx (same_row base kit wire w1 r1 m1 w2 r2 m2 tracks many f g m n) moved) row
        | inr (c, last, p) ↦
            let d = columns_of other - 1 in
            let end = last_of 0 (columns_of other) z.edge.there in
            precharge_put b t z.bank c d is zones rise p end
            (front_end (columns_x plan kit f) (columns_x other kit g) (offset z.bank) (offset_there z.bank) dx t.end frame.x2 min (bit_width kit) (c * bit_width kit) (d * bit_width kit)
            (ends_alike (bit_width kit) (columns_of plan) c d (columns_of other) z.edge.last.0 z.edge.last.1 last end) cols (fronts_apart f.row_x g.row_x (offset z.bank) (offset_there z.bank) dx (same_row base kit wire w1 r1 m1 w2 r2 m2 tracks many f g m n) moved)
            (subst (λ (q : ℤ). frame.x2 ≤ℤ (q +ℤ min)) (ap (λ (q : Zone). q.right) z.here_is) around.right) narrow (precharge_from plan kit wire tracks f m t.tap.net t.y t.end c p))
      ]

  pub slice_places : (c d i j : ℕ) → IsPlacedAt (wpr * bit_width kit) (c * (wpr * bit_width kit)) (d * (wpr * bit_width kit)) (i * (wpr * bit_width kit)) (j * (wpr * bit_width kit))
      → IsPlacedAt (wpr * bit_width kit) ((c * wpr) * bit_width kit) ((d * wpr) * bit_width kit) ((i * wpr) * bit_width kit) ((j * wpr) * bit_width kit)
  slice_places c d i j p =
      subst (λ (z : ℕ). IsPlacedAt (wpr * bit_width kit) z ((d * wpr) * bit_width kit) ((i * wpr) * bit_width kit) ((j * wpr) * bit_width kit)) (sym (mul_assoc c wpr (bit_width kit)))
      (subst (λ (z : ℕ). IsPlacedAt (wpr * bit_width kit) (c * (wpr * bit_width kit)) z ((i * wpr) * bit_width kit) ((j * wpr) * bit_width kit)) (sym (mul_assoc d wpr (bit_width kit)))
      (subst (λ (z : ℕ). IsPlacedAt (wpr * bit_width kit) (c * (wpr * bit_width kit)) (d * (wpr * bit_width kit)) z ((j * wpr) * bit_width kit)) (sym (mul_assoc i wpr (bit_width kit)))
      (subst (λ (z : ℕ). IsPlacedAt (wpr * bit_width kit) (c * (wpr * bit_width kit)) (d * (wpr * bit_width kit)) (i * (wpr * bit_width kit)) z) (sym (mul_assoc j wpr (bit_width kit))) p)))

  pub slices : (b : Shape) (t : Tap b) → Overlap b.rect frame → AreSlices plan other kit f g here there → IsSenseTap plan kit wire tracks f m t.tap.net t.y t.end → HasTapImage dx dy frame IsThere b
  slices b t cover z kind =
      let zone = subst (IsBankZone plan kit wire tracks f m z.bank) (sym z.here_is) (slice_in plan kit wire tracks f m z.bank z.i z.below z.edge.here) in
      let zone_there = subst (IsBankZone other kit wire many g n z.bank) (sym z.there_is) (slice_in other kit wire many g n z.bank z.j z.below z.edge.there) in
      let is = bank_is b t z.bank zone cover in
      let zones = of_bank z.bank z.below zone zone_there in
      let rise = risen f.write_y g.write_y here.low there.low (ap (λ (q : Zone). q.low) z.here_is) (ap (λ (q : Zone). q.low) z.there_is) same.low in
      let moved = moved_by here.left there.left (bank_x f z.bank (column_x plan kit f (z.i * wpr))) (bank_x g z.bank (column_x other kit g (z.j * wpr))) (ap (λ (q : Zone). q.left) z.here_is) (ap (λ (q : Zone). q.left) z.there_is) same.left in
      let j = other.word_size - 1 in
      let end = last_of z.j other.word_size z.edge.there in
      sense_put b t z.bank kind.0 j is zones rise kind.2 end
      (tail_end (columns_x plan kit f) (columns_x other kit g) (offset z.bank) (offset_there z.bank) dx t.end frame.x2 min (wpr * bit_width kit) ((z.i * wpr) * bit_width kit) ((z.j * wpr) * bit_width kit) ((kind.0 * wpr) * bit_width kit) ((j * wpr) * bit_width kit)
      (slice_places z.i z.j kind.0 j (tail_places (wpr * bit_width kit) plan.word_size z.i other.word_size z.j kind.0 j z.edge z.next kind.1 end)) cols moved (subst (λ (q : ℤ). frame.x2 ≤ℤ (q +ℤ min)) (ap (λ (q : Zone). q.right) z.here_is) around.right)
      (wide (bit_width kit) (wpr * bit_width kit) (at_least wpr (bit_width kit) (power_low base.col_bits)) narrow) (sense_from plan kit wire tracks f m t.tap.net t.y t.end kind.0 kind.2))
    where
      wide : (v w : ℕ) → v ≤ w → min ≤ℤ pos v → min ≤ℤ pos w
      wide v w le less = omega (arith, ints, le, less)
