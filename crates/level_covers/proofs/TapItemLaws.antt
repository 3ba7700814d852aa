-- A cell that a tap of rows, of precharge or of sense cells covers near a zone in one memory is covered by a tap, moved, in another.
use Rattle.std.proofs.Common.{◌≡◌, ◌⊎◌, inl, inr, ◌∙◌, ℕ, zero, suc, ◌+◌, ◌-◌, ◌*◌, ◌<◌, ◌≤◌, ℤ, pos, ◌+ℤ◌, ◌-ℤ◌, ◌*ℤ◌, ◌≤ℤ◌, ◌<ℤ◌, sym, ap, subst, arith}
use Rattle.std.specs.Int.{int_min}
use Rattle.std.proofs.Math.Nat.{mul_assoc, mul-le-mul_right}
use Rattle.std.proofs.lemmas.Bool.{cases_lt}
use Rattle.std.proofs.lemmas.Int.{ints}
use Rattle.or_geom.specs.declared.shape.Shape.{Shape}
use Rattle.or_geom.specs.Covered.{HasCell}
use Rattle.tech_rules.specs.declared.tech.Wire.{Wire}
use Rattle.wire_drawing.specs.Drawing.{pitch}
use Rattle.sram_netlist.specs.Organization.{Organization, power_of_two, columns_of, words_per_row}
use Rattle.sram_netlist.specs.Instances.{PrechargeAt, SenseAt}
use Rattle.macro_layout.specs.LayoutKit.{LayoutKit}
use Rattle.macro_layout.specs.Places.{Floorplan, columns_x, bit_width}
use Rattle.macro_layout.specs.Floorplan.{Tracks}
use Rattle.macro_layout.specs.Wires.{IsPinTap, IsTapOfNet, IsTapAt}
use Rattle.good_places.specs.Beside.{AreAtOneEdge}
use Rattle.good_places.specs.Kinds.{AreColumns, AreFronts, AreSlices}
use Rattle.good_places.specs.Leaves.{Zone}
use Rattle.good_places.specs.Seen.{IsMovedZone}
use Rattle.good_places.specs.Windows.{with_bits}
use Rattle.good_places.proofs.NumberLaws.{all_of}
use Rattle.good_wires.specs.Drawn.{IsDrawnMemory}
use Rattle.good_wires.proofs.LevelLaws.{Sides, sides}
use Rattle.good_wires.proofs.ClearLaws.{IsBankZone, banks_left, column_in, front_in, slice_in}
use Rattle.good_wires.proofs.ThirdLaws.{IsTap, tap_from}
use Rattle.tap_spaces.proofs.TailLaws.{tail_places}
use Rattle.tap_spaces.proofs.TapImageLaws.{up, slice_up, over, same_row, same_columns, rail_moves, nand_moves, driver_moves, precharge_moves, sense_moves}
use Rattle.tap_spaces.proofs.TapKindLaws.{IsRowTap, IsPrechargeTap, IsSenseTap, rail_left, row_ends, precharge_from, sense_from}
use Rattle.tap_spaces.proofs.TapEndLaws.{tail_end, front_end}
use Rattle.tap_spaces.proofs.TapPutLaws.{ends_alike}
use Rattle.level_covers.proofs.TapCellLaws.{HasTapCell, IsItem, IsCellNear, put, put_moved, bank_cases, next_bank, before_rows, row_right, tail_right, later_left, first_moved, too_far}

-- Of so many that are so wide

zero_times : (c w : ℕ) → c ≡ 0 → c * w ≡ 0
zero_times c w e = let none : 0 * w ≡ 0 = omega arith in ap (λ (k : ℕ). k * w) e ∙ none

at_least : (c w : ℕ) → 0 < c → w ≤ c * w
at_least c w some = let le = mul-le-mul_right w some in let one : 1 * w ≡ w = omega arith in omega (arith, le, one)

next_times : (c w : ℕ) → (c + 1) * w ≡ c * w + w
next_times c w = grind arith

item_first : (w n c k d : ℕ) → AreAtOneEdge n c k d → ((c * w ≡ 0) × (d * w ≡ 0)) ⊎ ((w ≤ c * w) × (w ≤ d * w))
item_first w n c k d edge = elim (cases_lt 0 c) [
  | inl some ↦ inr (at_least c w some, at_least d w (more (cases_lt 0 d) some))
  | inr none ↦ let e : c ≡ 0 = omega (arith, none) in inl (zero_times c w e, zero_times d w (edge.first.0 e))
] where
  more : (0 < d) ⊎ (d ≤ 0) → 0 < c → 0 < d
  more (inl behind) some = behind
  more (inr none) some = let e = edge.first.1 (omega (arith, none)) in absurd (omega (arith, e, some))

item_last : (w n c k d : ℕ) → AreAtOneEdge n c k d → ((c * w + w ≡ n * w) × (d * w + w ≡ k * w)) ⊎ (c * w + (w + w) ≤ n * w)
item_last w n c k d edge = elim (cases_lt (c + 1) n) [
  | inl inner ↦ let le = all_of (c + 1) n w inner in let e = next_times c w in inr (omega (arith, le, e))
  | inr late ↦
      let here = edge.here in
      let e : c + 1 ≡ n = omega (arith, late, here) in
      inl (sym (next_times c w) ∙ ap (λ (j : ℕ). j * w) e, sym (next_times d w) ∙ ap (λ (j : ℕ). j * w) (edge.last.0 e))
]

last_of : (d n : ℕ) → d < n → (n - 1) + 1 ≡ n
last_of d n lt = omega (arith, lt)

module _ (base : Organization) (kit : LayoutKit) (wire : Wire) (w1 r1 m1 w2 r2 m2 : ℕ) (tracks many : Tracks) (f g : Floorplan) (m : IsDrawnMemory (with_bits base w1 r1 m1) kit wire tracks f) (n : IsDrawnMemory (with_bits base w2 r2 m2) kit wire many g)
    (dx dy d : ℤ) (here there : Zone) (same : IsMovedZone dx dy here there) (low_rows : d ≤ℤ f.row_x) (narrow : d ≤ℤ pos (bit_width kit)) where
  abbrev plan : Organization
  plan = with_bits base w1 r1 m1

  abbrev other : Organization
  other = with_bits base w2 r2 m2

  abbrev Tap : Shape → Type 0
  Tap b = IsTap plan kit wire tracks f m b

  abbrev offset : ℕ → ℤ
  offset b = pos b *ℤ f.bank_width

  abbrev offset_there : ℕ → ℤ
  offset_there b = pos b *ℤ g.bank_width

  abbrev wpr : ℕ
  wpr = words_per_row base

  abbrev Near : ℤ → Type 0
  Near x = IsCellNear base kit wire w1 r1 m1 w2 r2 m2 tracks many f g m n dx dy d here there same low_rows x

  abbrev Item : ℕ → ℕ → ℕ → ℕ → ℕ → ℕ → Type 0
  Item bank w cu all du all_there = IsItem base kit wire w1 r1 m1 w2 r2 m2 tracks many f g m n dx dy d here there same low_rows bank w cu all du all_there

  abbrev Found : ℤ → ℤ → Type 0
  Found x y = HasTapCell base kit wire w1 r1 m1 w2 r2 m2 tracks many f g m n dx dy d here there same low_rows x y

  s_of : Sides plan kit wire f
  s_of = sides plan kit wire tracks f m.laid.sizes m.stands

  cols : columns_x plan kit f ≡ columns_x other kit g
  cols = same_columns base kit wire w1 r1 m1 w2 r2 m2 tracks many f g m n

  -- Taps in the other memory

  row_tap : (b : Shape) (t : Tap b) → IsRowTap plan kit wire tracks f m t.tap.net t.y t.end → IsTapAt other kit wire many.column g t.x (t.y +ℤ up base kit wire w1 r1 m1 w2 r2 m2 tracks many f g m n) (t.end +ℤ pos 0)
  row_tap b t row = record { net = t.tap.net; rail = rail_moves base kit wire w1 r1 m1 w2 r2 m2 tracks many f g m n t.tap.net t.x t.tap.rail; tap = there_is row } where
    there_is : IsRowTap plan kit wire tracks f m t.tap.net t.y t.end → IsTapOfNet other kit wire many.column g t.tap.net t.x (t.y +ℤ up base kit wire w1 r1 m1 w2 r2 m2 tracks many f g m n) (t.end +ℤ pos 0)
    there_is (inl (r, p)) = inl (r, nand_moves base kit wire w1 r1 m1 w2 r2 m2 tracks many f g m n r t.tap.net t.y t.end p)
    there_is (inr (r, p)) = inr (inl (r, driver_moves base kit wire w1 r1 m1 w2 r2 m2 tracks many f g m n r t.tap.net t.y t.end p))

  precharge_tap : (b : Shape) (t : Tap b) (c e : ℕ) → IsPinTap plan kit f (PrechargeAt 0 c) t.tap.net t.y t.end → e + 1 ≡ columns_of other
      → IsTapAt other kit wire many.column g t.x (t.y +ℤ up base kit wire w1 r1 m1 w2 r2 m2 tracks many f g m n) (t.end +ℤ over base kit wire w1 r1 m1 w2 r2 m2 tracks many f g m n c e)
  precharge_tap b t c e p last = record {
    net = t.tap.net;
    rail = rail_moves base kit wire w1 r1 m1 w2 r2 m2 tracks many f g m n t.tap.net t.x t.tap.rail;
    tap = inr (inr (inr (inl (e, last, precharge_moves base kit wire w1 r1 m1 w2 r2 m2 tracks many f g m n c e t.tap.net t.x t.y t.end t.tap.rail (omega (arith, last)) p))));
  }

  sense_tap : (b : Shape) (t : Tap b) (i j : ℕ) → IsPinTap plan kit f (SenseAt 0 i) t.tap.net t.y t.end → j + 1 ≡ other.word_size
      → IsTapAt other kit wire many.column g t.x (t.y +ℤ slice_up base kit wire w1 r1 m1 w2 r2 m2 tracks many f g m n) (t.end +ℤ over base kit wire w1 r1 m1 w2 r2 m2 tracks many f g m n (i * wpr) (j * wpr))
  sense_tap b t i j p last = record {
    net = t.tap.net;
    rail = rail_moves base kit wire w1 r1 m1 w2 r2 m2 tracks many f g m n t.tap.net t.x t.tap.rail;
    tap = inr (inr (inl (j, last, sense_moves base kit wire w1 r1 m1 w2 r2 m2 tracks many f g m n i j t.tap.net t.x t.y t.end t.tap.rail (omega (arith, last)) p)));
  }

  -- they end behind the rows
  behind_rows : (end : ℤ) (p q : ℕ) → (columns_x plan kit f +ℤ pos p) ≤ℤ end → f.row_x ≤ℤ (end +ℤ (pos q -ℤ pos p))
  behind_rows end p q from = go f.row_x (columns_x plan kit f) s_of.columns from where
    go : (row x : ℤ) → row ≤ℤ x → (x +ℤ pos p) ≤ℤ end → row ≤ℤ (end +ℤ (pos q -ℤ pos p))
    go row x a b = omega (arith, ints, a, b)

  risen : (p q hl tl : ℤ) → hl ≡ p → tl ≡ q → tl ≡ hl +ℤ dy → q -ℤ p ≡ dy
  risen p q hl tl a b e = omega (arith, ints, a, b, e)

  -- Of an item: a tap that ends at the item's last one, or before all of them

  last_cell : (bank w cu all du all_there : ℕ) → Item bank w cu all du all_there → (b : Shape) (t : Tap b) (x y tap_y end : ℤ) → HasCell b.rect x y → Near x → IsTapAt other kit wire many.column g t.x tap_y end → tap_y ≡ t.y +ℤ dy → f.row_x ≤ℤ end
      → int_min ((t.end +ℤ offset bank) +ℤ dx) ((x +ℤ pos 1) +ℤ dx) ≡ int_min (end +ℤ offset_there bank) ((x +ℤ pos 1) +ℤ dx) → Found (x +ℤ dx) (y +ℤ dy)
  last_cell bank w cu all du all_there item b t x y tap_y end has near tap at behind ends = elim (bank_cases base kit wire w1 r1 m1 w2 r2 m2 tracks many f g m n dx dy d here there same low_rows bank item.zone b t x y has near) [
    | inr later ↦
        let next = next_bank base kit wire w1 r1 m1 w2 r2 m2 tracks many f g m n dx dy d here there same low_rows bank w cu all du all_there item b t x y has near later in
        put_moved base kit wire w1 r1 m1 w2 r2 m2 tracks many f g m n dx dy d here there same low_rows b t x y tap_y end has tap at next.moved
        (before_rows dx x here.right d (offset t.bank) (offset_there t.bank) (offset bank) f.bank_width f.row_x end near.to item.zone.right low_rows next.offset_is next.moved behind)
    | inl is ↦
        put base kit wire w1 r1 m1 w2 r2 m2 tracks many f g m n dx dy d here there same low_rows b t x y tap_y end has tap at (subst (λ (j : ℕ). (t.x +ℤ offset_there j) ≤ℤ (x +ℤ dx)) (sym is) (left is item.first))
        (subst (λ (j : ℕ). (x +ℤ dx) <ℤ (end +ℤ offset_there j)) (sym is) (tail_right dx x b.rect.x2 t.end (offset bank) end (offset_there bank) has.right (t.drawn.right ∙ ap (λ (j : ℕ). t.end +ℤ offset j) is) ends))
  ] where
    begins : (b1 tx q v : ℤ) → b1 ≡ tx +ℤ q → b1 ≤ℤ x → v ≡ q +ℤ dx → (tx +ℤ v) ≤ℤ (x +ℤ dx)
    begins b1 tx q v e le moved = omega (arith, ints, e, le, moved)

    left : t.bank ≡ bank → ((cu ≡ 0) × (du ≡ 0)) ⊎ ((w ≤ cu) × (w ≤ du)) → (t.x +ℤ offset_there bank) ≤ℤ (x +ℤ dx)
    left is (inl first) =
        begins b.rect.x1 t.x (offset bank) (offset_there bank) (t.drawn.left ∙ ap (λ (j : ℕ). t.x +ℤ offset j) is) has.left
        (first_moved dx here.left there.left (columns_x plan kit f) (columns_x other kit g) (offset bank) (offset_there bank) cu du same.left item.left item.left_there cols first.0 first.1)
    left is (inr behind_first) =
        later_left dx x here.left there.left (columns_x plan kit f) (columns_x other kit g) (offset bank) (offset_there bank) d t.x f.row_x du w near.from same.left item.left_there behind_first.1 item.wide
        (before t.x f.row_x (rail_left plan kit wire tracks f m t.x t.y t.end wire.space t.tap (let wd = m.laid.sizes.width.from in omega (arith, ints, wd))) m.laid.sizes.space.from) (subst (λ (z : ℤ). f.row_x ≤ℤ z) cols s_of.columns)
      where
        before : (x row : ℤ) → (x +ℤ wire.space) ≤ℤ row → pos 1 ≤ℤ wire.space → x ≤ℤ row
        before x row a k = omega (arith, ints, a, k)

  -- a tap of a row
  row_cell : (bank w cu all du all_there : ℕ) → Item bank w cu all du all_there → (b : Shape) (t : Tap b) (x y : ℤ) → HasCell b.rect x y → Near x → up base kit wire w1 r1 m1 w2 r2 m2 tracks many f g m n ≡ dy → IsRowTap plan kit wire tracks f m t.tap.net t.y t.end → Found (x +ℤ dx) (y +ℤ dy)
  row_cell bank w cu all du all_there item b t x y has near rise row = elim (bank_cases base kit wire w1 r1 m1 w2 r2 m2 tracks many f g m n dx dy d here there same low_rows bank item.zone b t x y has near) [
    | inr later ↦ moved (next_bank base kit wire w1 r1 m1 w2 r2 m2 tracks many f g m n dx dy d here there same low_rows bank w cu all du all_there item b t x y has near later).moved
    | inl is ↦ elim item.first [
      | inl first ↦
          moved (subst (λ (j : ℕ). offset_there j ≡ offset j +ℤ dx) (sym is) (first_moved dx here.left there.left (columns_x plan kit f) (columns_x other kit g) (offset bank) (offset_there bank) cu du same.left item.left item.left_there cols first.0 first.1))
      | inr behind ↦
          absurd (too_far x b.rect.x2 here.left (columns_x plan kit f) (offset bank) d t.end cu w near.from item.left behind.0 item.wide has.right (t.drawn.right ∙ ap (λ (j : ℕ). t.end +ℤ offset j) is) (row_ends plan kit wire tracks f m t.tap.net t.y t.end row).1)
    ]
  ] where
    moved : offset_there t.bank ≡ offset t.bank +ℤ dx → Found (x +ℤ dx) (y +ℤ dy)
    moved e =
        put_moved base kit wire w1 r1 m1 w2 r2 m2 tracks many f g m n dx dy d here there same low_rows b t x y (t.y +ℤ up base kit wire w1 r1 m1 w2 r2 m2 tracks many f g m n) (t.end +ℤ pos 0) has (row_tap b t row) (ap (λ (z : ℤ). t.y +ℤ z) rise) e
        (row_right dx x b.rect.x2 t.end (offset t.bank) (offset_there t.bank) has.right t.drawn.right e)

  -- Columns

  moved_by : (hl tl p q : ℤ) → hl ≡ p → tl ≡ q → tl ≡ hl +ℤ dx → dx ≡ q -ℤ p
  moved_by hl tl p q a b e = omega (arith, ints, a, b, e)

  frame_to : (x hr r w : ℤ) → x <ℤ (hr +ℤ d) → hr ≡ r +ℤ w → (x +ℤ pos 1) ≤ℤ ((r +ℤ w) +ℤ d)
  frame_to x hr r w lt e = omega (arith, ints, lt, e)

  column_item : (z : AreColumns plan other kit f g here there) → Item z.bank (bit_width kit) (z.c * bit_width kit) (columns_of plan * bit_width kit) (z.d * bit_width kit) (columns_of other * bit_width kit)
  column_item z = record {
    zone = subst (IsBankZone plan kit wire tracks f m z.bank) (sym z.here_is) (column_in plan kit wire tracks f m z.bank z.c z.below z.edge.here);
    left = ap (λ (q : Zone). q.left) z.here_is;
    right = ap (λ (q : Zone). q.right) z.here_is ∙ sym (ap (λ (q : Zone). q.left +ℤ pos (bit_width kit)) z.here_is);
    left_there = ap (λ (q : Zone). q.left) z.there_is;
    bank_end = m.stands.bank_width;
    bank_end_there = n.stands.bank_width;
    last = item_last (bit_width kit) (columns_of plan) z.c (columns_of other) z.d z.edge;
    first = item_first (bit_width kit) (columns_of plan) z.c (columns_of other) z.d z.edge;
    wide = narrow;
  }

  pub columns_cell : (b : Shape) (t : Tap b) (x y : ℤ) → HasCell b.rect x y → Near x → AreColumns plan other kit f g here there → IsRowTap plan kit wire tracks f m t.tap.net t.y t.end ⊎ IsPrechargeTap plan kit wire tracks f m t.tap.net t.y t.end → Found (x +ℤ dx) (y +ℤ dy)
  columns_cell b t x y has near z kind =
      let rise = risen f.column_y g.column_y here.low there.low (ap (λ (q : Zone). q.low) z.here_is) (ap (λ (q : Zone). q.low) z.there_is) same.low in
      let item = column_item z in
      elim kind [
        | inl row ↦ row_cell z.bank (bit_width kit) (z.c * bit_width kit) (columns_of plan * bit_width kit) (z.d * bit_width kit) (columns_of other * bit_width kit) item b t x y has near rise row
        | inr (c, last, p) ↦
            let e = columns_of other - 1 in
            let end = last_of z.d (columns_of other) z.edge.there in
            last_cell z.bank (bit_width kit) (z.c * bit_width kit) (columns_of plan * bit_width kit) (z.d * bit_width kit) (columns_of other * bit_width kit) item b t x y (t.y +ℤ up base kit wire w1 r1 m1 w2 r2 m2 tracks many f g m n) (t.end +ℤ over base kit wire w1 r1 m1 w2 r2 m2 tracks many f g m n c e) has near
            (precharge_tap b t c e p end) (ap (λ (q : ℤ). t.y +ℤ q) rise) (behind_rows t.end (c * bit_width kit) (e * bit_width kit) (precharge_from plan kit wire tracks f m t.tap.net t.y t.end c p))
            (tail_end (columns_x plan kit f) (columns_x other kit g) (offset z.bank) (offset_there z.bank) dx t.end (x +ℤ pos 1) d (bit_width kit) (z.c * bit_width kit) (z.d * bit_width kit) (c * bit_width kit) (e * bit_width kit)
            (tail_places (bit_width kit) (columns_of plan) z.c (columns_of other) z.d c e z.edge z.next last end) cols (moved_by here.left there.left _ _ item.left item.left_there same.left) (frame_to x here.right ((columns_x plan kit f +ℤ pos (z.c * bit_width kit)) +ℤ offset z.bank) (pos (bit_width kit)) near.to (item.right ∙ ap (λ (q : ℤ). q +ℤ pos (bit_width kit)) item.left)) narrow
            (precharge_from plan kit wire tracks f m t.tap.net t.y t.end c p))
      ]

  -- Slices

  abbrev unit : ℕ
  unit = wpr * bit_width kit

  power_low : (k : ℕ) → 0 < power_of_two k
  power_low zero = omega arith
  power_low (suc k) = let p = power_low k in omega (arith, p)

  unit_wide : d ≤ℤ pos unit
  unit_wide = go (bit_width kit) unit (at_least wpr (bit_width kit) (power_low base.col_bits)) narrow where
    go : (v w : ℕ) → v ≤ w → d ≤ℤ pos v → d ≤ℤ pos w
    go v w le less = omega (arith, ints, le, less)

  of_unit : (i : ℕ) → (i * wpr) * bit_width kit ≡ i * unit
  of_unit i = mul_assoc i wpr (bit_width kit)

  slice_item : (z : AreSlices plan other kit f g here there) → Item z.bank unit (z.i * unit) (plan.word_size * unit) (z.j * unit) (other.word_size * unit)
  slice_item z = record {
    zone = subst (IsBankZone plan kit wire tracks f m z.bank) (sym z.here_is) (slice_in plan kit wire tracks f m z.bank z.i z.below z.edge.here);
    left = ap (λ (q : Zone). q.left) z.here_is ∙ ap (λ (k : ℕ). (columns_x plan kit f +ℤ pos k) +ℤ offset z.bank) (of_unit z.i);
    right = ap (λ (q : Zone). q.right) z.here_is ∙ sym (ap (λ (q : Zone). q.left +ℤ pos unit) z.here_is);
    left_there = ap (λ (q : Zone). q.left) z.there_is ∙ ap (λ (k : ℕ). (columns_x other kit g +ℤ pos k) +ℤ offset_there z.bank) (of_unit z.j);
    bank_end = m.stands.bank_width ∙ ap (λ (k : ℕ). columns_x plan kit f +ℤ pos k) (of_unit plan.word_size);
    bank_end_there = n.stands.bank_width ∙ ap (λ (k : ℕ). columns_x other kit g +ℤ pos k) (of_unit other.word_size);
    last = item_last unit plan.word_size z.i other.word_size z.j z.edge;
    first = item_first unit plan.word_size z.i other.word_size z.j z.edge;
    wide = unit_wide;
  }

  pub slices_cell : (b : Shape) (t : Tap b) (x y : ℤ) → HasCell b.rect x y → Near x → AreSlices plan other kit f g here there → IsSenseTap plan kit wire tracks f m t.tap.net t.y t.end → Found (x +ℤ dx) (y +ℤ dy)
  slices_cell b t x y has near z (i, last, p) =
      let rise = risen f.write_y g.write_y here.low there.low (ap (λ (q : Zone). q.low) z.here_is) (ap (λ (q : Zone). q.low) z.there_is) same.low in
      let item = slice_item z in
      let j = other.word_size - 1 in
      let end = last_of z.j other.word_size z.edge.there in
      let from = sense_from plan kit wire tracks f m t.tap.net t.y t.end i p in
      let tail = tail_end (columns_x plan kit f) (columns_x other kit g) (offset z.bank) (offset_there z.bank) dx t.end (x +ℤ pos 1) d unit (z.i * unit) (z.j * unit) (i * unit) (j * unit)
      (tail_places unit plan.word_size z.i other.word_size z.j i j z.edge z.next last end) cols (moved_by here.left there.left _ _ item.left item.left_there same.left)
      (frame_to x here.right ((columns_x plan kit f +ℤ pos (z.i * unit)) +ℤ offset z.bank) (pos unit) near.to (item.right ∙ ap (λ (q : ℤ). q +ℤ pos unit) item.left)) unit_wide (subst (λ (k : ℕ). (columns_x plan kit f +ℤ pos k) ≤ℤ t.end) (of_unit i) from) in
      last_cell z.bank unit (z.i * unit) (plan.word_size * unit) (z.j * unit) (other.word_size * unit) item b t x y (t.y +ℤ slice_up base kit wire w1 r1 m1 w2 r2 m2 tracks many f g m n) (t.end +ℤ over base kit wire w1 r1 m1 w2 r2 m2 tracks many f g m n (i * wpr) (j * wpr)) has near
      (sense_tap b t i j p end) (ap (λ (q : ℤ). t.y +ℤ q) rise) (behind_rows t.end ((i * wpr) * bit_width kit) ((j * wpr) * bit_width kit) from)
      (tail ∙ ap (λ (q : ℤ). int_min ((t.end +ℤ q) +ℤ offset_there z.bank) ((x +ℤ pos 1) +ℤ dx)) (sym (λ k. pos (of_unit j k) -ℤ pos (of_unit i k))))

  -- The front of a bank's rows

  not_front : (p tx b1 x v q bank hr col : ℤ) (w all : ℕ) → pos 1 ≤ℤ p → p ≤ℤ tx → b1 ≡ tx +ℤ v → b1 ≤ℤ x → (q +ℤ bank) ≤ℤ v → x <ℤ (hr +ℤ d) → hr ≡ col +ℤ q → d ≤ℤ pos w → bank ≡ col +ℤ pos all → w ≤ all → ⊥
  not_front p tx b1 x v q bank hr col w all one from e le g lt r wide is fits = omega (arith, ints, one, from, e, le, g, lt, r, wide, is, fits)

  front_moved : (hl tl row row2 q q2 : ℤ) → tl ≡ hl +ℤ dx → hl ≡ row +ℤ q → tl ≡ row2 +ℤ q2 → row ≡ row2 → q2 ≡ q +ℤ dx
  front_moved hl tl row row2 q q2 m l t e = omega (arith, ints, m, l, t, e)

  front_apart : (q q2 : ℤ) → q2 ≡ q +ℤ dx → dx ≡ q2 -ℤ q
  front_apart q q2 e = omega (arith, ints, e)

  front_to : (x hr r : ℤ) → x <ℤ (hr +ℤ d) → hr ≡ r → (x +ℤ pos 1) ≤ℤ (r +ℤ d)
  front_to x hr r lt e = omega (arith, ints, lt, e)

  pub fronts_cell : (b : Shape) (t : Tap b) (x y : ℤ) → HasCell b.rect x y → Near x → AreFronts plan other kit f g here there → IsRowTap plan kit wire tracks f m t.tap.net t.y t.end ⊎ IsPrechargeTap plan kit wire tracks f m t.tap.net t.y t.end → Found (x +ℤ dx) (y +ℤ dy)
  fronts_cell b t x y has near z kind = elim (bank_cases base kit wire w1 r1 m1 w2 r2 m2 tracks many f g m n dx dy d here there same low_rows z.bank zone b t x y has near) [
    | inr later ↦ absurd (not_front (pitch wire) t.x b.rect.x1 x (offset t.bank) (offset z.bank) f.bank_width here.right (columns_x plan kit f) (bit_width kit) (columns_of plan * bit_width kit) pitch_one (tap_from plan kit wire tracks f m t.x t.y t.end t.tap) t.drawn.left has.left (banks_left plan kit wire tracks f m z.bank t.bank later) near.to
        (ap (λ (q : Zone). q.right) z.here_is) narrow m.stands.bank_width (at_least (columns_of plan) (bit_width kit) z.edge.here))
    | inl is ↦ elim kind [
      | inl row ↦
          put_moved base kit wire w1 r1 m1 w2 r2 m2 tracks many f g m n dx dy d here there same low_rows b t x y (t.y +ℤ up base kit wire w1 r1 m1 w2 r2 m2 tracks many f g m n) (t.end +ℤ pos 0) has (row_tap b t row) (ap (λ (q : ℤ). t.y +ℤ q) rise) (of_bank is)
          (row_right dx x b.rect.x2 t.end (offset t.bank) (offset_there t.bank) has.right t.drawn.right (of_bank is))
      | inr (c, last, p) ↦
          let e = columns_of other - 1 in
          let end = last_of 0 (columns_of other) z.edge.there in
          put_moved base kit wire w1 r1 m1 w2 r2 m2 tracks many f g m n dx dy d here there same low_rows b t x y (t.y +ℤ up base kit wire w1 r1 m1 w2 r2 m2 tracks many f g m n) (t.end +ℤ over base kit wire w1 r1 m1 w2 r2 m2 tracks many f g m n c e) has (precharge_tap b t c e p end) (ap (λ (q : ℤ). t.y +ℤ q) rise) (of_bank is)
          (subst (λ (j : ℕ). (x +ℤ dx) <ℤ ((t.end +ℤ over base kit wire w1 r1 m1 w2 r2 m2 tracks many f g m n c e) +ℤ offset_there j)) (sym is)
          (tail_right dx x b.rect.x2 t.end (offset z.bank) (t.end +ℤ over base kit wire w1 r1 m1 w2 r2 m2 tracks many f g m n c e) (offset_there z.bank) has.right (t.drawn.right ∙ ap (λ (j : ℕ). t.end +ℤ offset j) is)
          (front_end (columns_x plan kit f) (columns_x other kit g) (offset z.bank) (offset_there z.bank) dx t.end (x +ℤ pos 1) d (bit_width kit) (c * bit_width kit) (e * bit_width kit)
          (ends_alike (bit_width kit) (columns_of plan) c e (columns_of other) z.edge.last.0 z.edge.last.1 last end) cols (front_apart (offset z.bank) (offset_there z.bank) moved) (front_to x here.right (columns_x plan kit f +ℤ offset z.bank) near.to (ap (λ (q : Zone). q.right) z.here_is)) narrow
          (precharge_from plan kit wire tracks f m t.tap.net t.y t.end c p))))
    ]
  ] where
    zone : IsBankZone plan kit wire tracks f m z.bank here
    zone = subst (IsBankZone plan kit wire tracks f m z.bank) (sym z.here_is) (front_in plan kit wire tracks f m z.bank z.below)

    pitch_one : pos 1 ≤ℤ pitch wire
    pitch_one = let w = m.laid.sizes.width.from in let s = m.laid.sizes.space.from in omega (arith, ints, w, s)

    rise : g.column_y -ℤ f.column_y ≡ dy
    rise = risen f.column_y g.column_y here.low there.low (ap (λ (q : Zone). q.low) z.here_is) (ap (λ (q : Zone). q.low) z.there_is) same.low

    moved : offset_there z.bank ≡ offset z.bank +ℤ dx
    moved = front_moved here.left there.left f.row_x g.row_x (offset z.bank) (offset_there z.bank) same.left (ap (λ (q : Zone). q.left) z.here_is) (ap (λ (q : Zone). q.left) z.there_is) (same_row base kit wire w1 r1 m1 w2 r2 m2 tracks many f g m n)

    of_bank : t.bank ≡ z.bank → offset_there t.bank ≡ offset t.bank +ℤ dx
    of_bank is = subst (λ (j : ℕ). offset_there j ≡ offset j +ℤ dx) (sym is) moved
