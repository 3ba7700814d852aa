-- The list of a bank's taps has exactly the stated taps.
use Rattle.std.proofs.Common.{◌≡◌, inl, inr, ℕ, suc, ◌+◌, ◌-◌, ◌*◌, ◌%◌, ◌<◌, ◌≤◌, ℤ, pos, negsuc, ◌+ℤ◌, ◌-ℤ◌, ◌*ℤ◌, ◌≤ℤ◌, List, [], ◌∷◌, ◌++◌, Some, Option, option_map, true, refl, ap, sym, subst, ◌∙◌, arith}
use Rattle.std.specs.Prelude.{◌==◌, Contains, slice_get, slice_index}
use Rattle.std.proofs.lemmas.Int.{ints}
use Rattle.std.proofs.lemmas.Nat.{mul-le}
use Rattle.std.proofs.lemmas.Option.{slice_get-get_or}
use Rattle.std.proofs.lemmas.List.Elements.{Contains-append_cases}
use Rattle.or_geom.specs.declared.shape.Point.{Point}
use Rattle.or_geom.specs.declared.shape.Rect.{Rect}
use Rattle.or_geom.specs.declared.place.Place.{Place}
use Rattle.or_geom.proofs.ListLaws.{contains_none, contains_cases}
use Rattle.cell_roles.specs.declared.role.Role.TheVariants.{Driver, Sense, Precharge}
use Rattle.wire_drawing.specs.declared.route.Tap.{Tap}
use Rattle.tech_rules.specs.declared.tech.Wire.{Wire}
use Rattle.channel_router.specs.declared.channel.Routed.{Routed}
use Rattle.sram_netlist.specs.Organization.{Organization, bank_rows, columns_of, words_per_row}
use Rattle.sram_netlist.specs.Nets.{Net, Clkb, Control, Line, Zb}
use Rattle.sram_netlist.specs.Instances.{LeafInstance, NandAt, DriverAt, SenseAt, PrechargeAt}
use Rattle.sram_netlist.specs.Netlist.{role, row_gate, row_lines, ports, wlen_at, sen_at, supply_nets}
use Rattle.sram_netlist.specs.InstanceList.{tabulate}
use Rattle.sram_netlist.specs.Membership.{HasLeafInstance}
use Rattle.memory_laws.proofs.Decode.{twice_some}
use Rattle.leaf_shapes.specs.declared.pins.LeafPin.{LeafPin}
use Rattle.leaf_shapes.proofs.PinLaws.{exists_at}
use Rattle.leaf_tables.specs.declared.kit.Kit.{Kit}
use Rattle.leaf_tables.specs.declared.kit.Leaf.{Leaf}
use Rattle.leaf_tables.specs.Kits.{IsKit}
use Rattle.macro_layout.specs.LayoutKit.{LayoutKit}
use Rattle.macro_layout.specs.Places.{Floorplan, IsPlaceOf, upright, in_row_at, bank_x, columns_x, gate_width, bit_width, bit_height}
use Rattle.macro_layout.specs.Floorplan.{line_count, choice_count, rail_x}
use Rattle.macro_layout.specs.Cells.{slice_x}
use Rattle.macro_layout.specs.Pins.{rail_nets}
use Rattle.macro_layout.specs.Wires.{IsPinTap, IsTapOfNet}
use Rattle.floorplan.specs.LeafSides.{side_of}
use Rattle.floorplan.specs.LayoutOfKit.{layout_kit}
use Rattle.port_data.specs.Column.{IsColumnRouted}
use Rattle.row_decoder.specs.RowTaps.{RowLeaves, AreRowLeaves, AreTapsOfRows, lower_end, right_end, corner_at, pin_tap, row_place, input_taps, row_taps}
use Rattle.leaf_tables.proofs.RoleLaws.{near_in_kit}
use Rattle.bank_layout.specs.BankTaps.{IsLeafPin, sense_tap, precharge_tap, choice_tap, channel_low, AreBankTaps}
use Rattle.bank_layout.proofs.ListLaws.{in_tabulate, IsInLists, in_lists}
use Rattle.bank_layout.proofs.LineLaws.{IsInputTap, input_of}
use Rattle.bank_layout.proofs.SiteLaws.{IsSite, heights_same, same_height}
use Rattle.bank_layout.proofs.NetLaws.{in_front}
use Rattle.bank_layout.proofs.PinTapLaws.{IsPlaced, placed_upright, placed_in_row, lower_down, right_same, tap_of_pin, pin_of_tap, gate_input, driver_enable, sense_enable, precharge_enable}
use Rattle.bank_layout.proofs.RailNetLaws.{choice_has, rows_long, line_rail, other_rail}

-- what the taps of a bank are drawn of
pub record IsTapSite (kit : Kit) (plan : Organization) (wire : Wire) (fl : Floorplan) (routed : Routed) : Type 0 where
  pub site : IsSite kit plan wire fl routed.track
  pub wired : kit.tech.wire ≡ Some wire
  pub column : IsColumnRouted plan (layout_kit kit) wire fl routed

-- a stated tap of bank 0, by the number of its rail
pub record IsTapOfRail (plan : Organization) (kit : LayoutKit) (wire : Wire) (tracks : ℕ) (fl : Floorplan) (rail : ℕ) (y end : ℤ) : Type 0 where
  pub net : Net
  pub on : slice_get (rail_nets plan 0) rail ≡ Some net
  pub tap : IsTapOfNet plan kit wire tracks fl net (rail_x wire rail) y end

-- a listed tap, by the number of its rail
pub record IsTapAmong (taps : List Tap) (rail : ℕ) (y end : ℤ) : Type 0 where
  pub tap : Tap
  pub listed : Contains taps tap
  pub of_rail : tap.rail ≡ rail
  pub at : tap.y ≡ y
  pub ends : tap.end ≡ end

-- a listed tap is a stated one
abbrev pub IsStated : Organization → LayoutKit → Wire → ℕ → Floorplan → Tap → Type 0
IsStated plan kit wire tracks fl tap = (y : ℤ) → tap.y ≡ y -ℤ fl.write_y → IsTapOfRail plan kit wire tracks fl tap.rail y tap.end

-- Places

-- a cell's place further down
pub record IsLower (low high : Place) (w : ℤ) (p : Rect) : Type 0 where
  pub y : lower_end low p ≡ lower_end high p -ℤ w
  pub end : right_end low p ≡ right_end high p

pub row_lower : (kit : LayoutKit) (fl : Floorplan) (h corner x : ℤ) (r : ℕ) (p : Rect) → h ≡ pos (bit_height kit) → x ≡ corner → IsLower (row_place h (corner_at corner (fl.array_y -ℤ fl.write_y)) r) (in_row_at kit fl.array_y r x) fl.write_y p
row_lower kit fl h corner x r p high at =
    let w = fl.write_y in
    let low = fl.array_y -ℤ fl.write_y in
    let near : pos r *ℤ h ≡ pos (r * bit_height kit) = ap (λ (z : ℤ). pos r *ℤ z) high in
    let far : pos (r + 1) *ℤ h ≡ pos ((r + 1) * bit_height kit) = ap (λ (z : ℤ). pos (r + 1) *ℤ z) high in
    subst (λ (z : ℤ). IsLower (row_place h (corner_at corner low) r) (in_row_at kit fl.array_y r z) w p) (sym at) (record {
      y = lower_down (r % 2 == 0) corner (fl.array_y +ℤ pos (r * bit_height kit)) (fl.array_y +ℤ pos ((r + 1) * bit_height kit)) w (low +ℤ (pos r *ℤ h)) (low +ℤ (pos (r + 1) *ℤ h)) p (omega (arith, ints, near)) (omega (arith, ints, far));
      end = right_same (r % 2 == 0) corner (fl.array_y +ℤ pos (r * bit_height kit)) (fl.array_y +ℤ pos ((r + 1) * bit_height kit)) (low +ℤ (pos r *ℤ h)) (low +ℤ (pos (r + 1) *ℤ h)) p;
    })

pub upright_lower : (x y z w : ℤ) (p : Rect) → z ≡ x → IsLower (upright x (y -ℤ w)) (upright z y) w p
upright_lower x y z w p at = subst (λ (u : ℤ). IsLower (upright x (y -ℤ w)) (upright u y) w p) (sym at) (record { y = lower_down true x y y w (y -ℤ w) (y -ℤ w) p refl refl; end = right_same true x y y (y -ℤ w) (y -ℤ w) p })

pub first_bank : (fl : Floorplan) (x : ℤ) → bank_x fl 0 x ≡ x
first_bank fl x = let none : pos 0 *ℤ fl.bank_width ≡ pos 0 = omega (arith, ints) in omega (arith, ints, none)

side_is : (z : ℤ) → pos 0 ≤ℤ z → z ≡ pos (side_of (Some z))
side_is (pos n) le = refl
side_is (negsuc n) le = absurd (omega (arith, ints, le))

-- a row is as high as a bitcell
pub row_high : (kit : Kit) (groups : List ℕ) (leaves : RowLeaves) → IsKit kit → AreRowLeaves kit.leaves groups leaves → leaves.height ≡ pos (bit_height (layout_kit kit))
row_high kit groups leaves is of =
    let same = same_height kit Driver of.driver leaves.height of.is_driver (heights_same kit is groups).1 of.height in
    let above = (near_in_kit kit Driver of.driver is of.is_driver).height.above in
    side_is leaves.height (omega (arith, ints, above, same)) ∙ ap (λ (h : Option ℤ). pos (side_of h)) (sym of.height)

-- a driver stands behind its gate
row_wide : (kit : Kit) (plan : Organization) (leaves : RowLeaves) → IsKit kit → AreRowLeaves kit.leaves plan.groups leaves → leaves.gate_width ≡ pos (gate_width plan (layout_kit kit))
row_wide kit plan leaves is of =
    let above = (near_in_kit kit (row_gate plan.groups) of.gate is of.is_gate).width.above in
    of.gate_width ∙ (side_is of.gate.width above ∙ ap (λ (found : Option Leaf). pos (side_of (option_map (λ (l : Leaf). l.width) found))) (sym of.is_gate))

-- Between listed and stated taps of one pin

-- a listed tap of a pin is a stated one
there_of_pin : (kit : Kit) (plan : Organization) (fl : Floorplan) (leaf : LeafInstance) (net : Net) (port : ℕ) (low high : Place) (pin : LeafPin) (y : ℤ) → HasLeafInstance plan leaf → slice_get (ports plan leaf) port ≡ Some net → IsPlaceOf plan (layout_kit kit) fl leaf high
    → (layout_kit kit).pin (role plan leaf) port 2 ≡ pin.rect → IsPlaced high pin.rect → IsLower low high fl.write_y pin.rect → lower_end low pin.rect ≡ y -ℤ fl.write_y → IsPinTap plan (layout_kit kit) fl leaf net y (right_end low pin.rect)
there_of_pin kit plan fl leaf net port low high pin y has on stands is placed down at =
    let t = tap_of_pin plan (layout_kit kit) fl leaf net port high pin.rect has on stands is placed in
    let lower = down.y in
    let same : y ≡ lower_end high pin.rect = omega (arith, ints, lower, at) in
    record { port = t.port; rect = t.rect; pin = t.pin; at = same ∙ t.at; ends = down.end ∙ t.ends }

-- a stated tap of a pin lies as the listed one
pub back_of_pin : (kit : Kit) (plan : Organization) (fl : Floorplan) (leaf : LeafInstance) (net : Net) (y end : ℤ) (low high : Place) (pin : LeafPin) (t : IsPinTap plan (layout_kit kit) fl leaf net y end) → t.pin.place ≡ high
    → (layout_kit kit).pin (role plan leaf) t.port 2 ≡ pin.rect → IsLower low high fl.write_y pin.rect → (lower_end low pin.rect ≡ y -ℤ fl.write_y) × (right_end low pin.rect ≡ end)
back_of_pin kit plan fl leaf net y end low high pin t stands is down =
    let of = pin_of_tap plan (layout_kit kit) fl leaf net y end t high pin.rect stands is in
    let at = of.low in
    let lower = down.y in
    (omega (arith, ints, at, lower), down.end ∙ sym of.ends)

-- Forward: each listed tap is a stated one

input_there : (kit : Kit) (plan : Organization) (wire : Wire) (fl : Floorplan) (routed : Routed) → IsTapSite kit plan wire fl routed → (leaves : RowLeaves) (of : AreRowLeaves kit.leaves plan.groups leaves) (r : ℕ) → r < bank_rows plan
    → (tap : Tap) → IsInputTap (row_place leaves.height (corner_at fl.row_x (fl.array_y -ℤ fl.write_y)) r) leaves.inputs plan.groups 0 r tap → IsStated plan (layout_kit kit) wire routed.tracks fl tap
input_there kit plan wire fl routed s leaves of r lt tap i = subst (IsStated plan lk wire routed.tracks fl) (sym i.is) (λ y at. record {
  net = line.0;
  on = line_rail plan r i.group i.below ∙ line.1;
  tap = inl (r, there_of_pin kit plan fl (NandAt 0 r) line.0 i.group low high i.pin y (twice_some plan.bank_bits, lt) ported refl pinned (placed_in_row (r % 2 == 0) (bank_x fl 0 fl.row_x) _ _ i.pin.rect) down at);
}) where
  lk : LayoutKit
  lk = layout_kit kit

  low : Place
  low = row_place leaves.height (corner_at fl.row_x (fl.array_y -ℤ fl.write_y)) r

  high : Place
  high = in_row_at (layout_kit kit) fl.array_y r (bank_x fl 0 fl.row_x)

  line : (net : Net) × (slice_get (row_lines plan.groups plan.col_bits r) i.group ≡ Some net)
  line = let long = rows_long plan.groups plan.col_bits r in let below = i.below in exists_at (row_lines plan.groups plan.col_bits r) i.group (omega (arith, long, below))

  ported : slice_get (row_lines plan.groups plan.col_bits r ++ (Zb 0 r ∷ supply_nets)) i.group ≡ Some line.0
  ported = let long = rows_long plan.groups plan.col_bits r in let below = i.below in in_front (row_lines plan.groups plan.col_bits r) (Zb 0 r ∷ supply_nets) i.group (omega (arith, long, below)) ∙ line.1

  pinned : (layout_kit kit).pin (row_gate plan.groups) i.group 2 ≡ i.pin.rect
  pinned = gate_input kit wire plan.groups i.group i.pin s.site.is s.wired s.site.built.groups i.below (record { leaf = of.gate; there = of.is_gate; at = subst (λ (l : List LeafPin). slice_get l i.group ≡ Some i.pin) of.inputs i.at })

  down : IsLower low high fl.write_y i.pin.rect
  down = row_lower (layout_kit kit) fl leaves.height fl.row_x (bank_x fl 0 fl.row_x) r i.pin.rect (row_high kit plan.groups leaves s.site.is of) (first_bank fl fl.row_x)

-- where the driver's enable is tapped
abbrev pub driver_low : Floorplan → RowLeaves → ℕ → Place
driver_low fl leaves r = row_place leaves.height (corner_at (fl.row_x +ℤ leaves.gate_width) (fl.array_y -ℤ fl.write_y)) r

abbrev pub driver_high : Organization → LayoutKit → Floorplan → ℕ → Place
driver_high plan kit fl r = in_row_at kit fl.array_y r (bank_x fl 0 (fl.row_x +ℤ pos (gate_width plan kit)))

pub driver_down : (kit : Kit) (plan : Organization) (fl : Floorplan) (leaves : RowLeaves) (r : ℕ) → IsKit kit → AreRowLeaves kit.leaves plan.groups leaves → IsLower (driver_low fl leaves r) (driver_high plan (layout_kit kit) fl r) fl.write_y leaves.enable.rect
driver_down kit plan fl leaves r is of =
    let x = fl.row_x +ℤ pos (gate_width plan (layout_kit kit)) in
    let wide = row_wide kit plan leaves is of in
    let first = first_bank fl x in
    row_lower (layout_kit kit) fl leaves.height (fl.row_x +ℤ leaves.gate_width) (bank_x fl 0 x) r leaves.enable.rect (row_high kit plan.groups leaves is of) (omega (arith, ints, first, wide))

pub driver_pinned : (kit : Kit) (plan : Organization) (wire : Wire) (leaves : RowLeaves) → IsKit kit → kit.tech.wire ≡ Some wire → AreRowLeaves kit.leaves plan.groups leaves → (layout_kit kit).pin Driver 1 2 ≡ leaves.enable.rect
driver_pinned kit plan wire leaves is wired of = driver_enable kit wire leaves.enable is wired (record { leaf = of.driver; there = of.is_driver; at = of.enable })

driver_there : (kit : Kit) (plan : Organization) (wire : Wire) (fl : Floorplan) (routed : Routed) → IsTapSite kit plan wire fl routed → (leaves : RowLeaves) (of : AreRowLeaves kit.leaves plan.groups leaves) (r : ℕ) → r < bank_rows plan
    → IsStated plan (layout_kit kit) wire routed.tracks fl (pin_tap (line_count plan.groups) (driver_low fl leaves r) leaves.enable)
driver_there kit plan wire fl routed s leaves of r lt y at =
    let x = bank_x fl 0 (fl.row_x +ℤ pos (gate_width plan (layout_kit kit))) in
    record {
      net = wlen_at plan.bank_bits 0;
      on = other_rail plan 0 (line_count plan.groups) (omega arith);
      tap = inr (inl (
        r,
        there_of_pin kit plan fl (DriverAt 0 r) (wlen_at plan.bank_bits 0) 1 (driver_low fl leaves r) (driver_high plan (layout_kit kit) fl r) leaves.enable y (twice_some plan.bank_bits, lt) refl refl
            (driver_pinned kit plan wire leaves s.site.is s.wired of) (placed_in_row (r % 2 == 0) x _ _ leaves.enable.rect) (driver_down kit plan fl leaves r s.site.is of) at,
      ));
    }

rows_there : (kit : Kit) (plan : Organization) (wire : Wire) (fl : Floorplan) (routed : Routed) → IsTapSite kit plan wire fl routed → (rows : List Tap) → AreTapsOfRows kit.leaves plan (corner_at fl.row_x (fl.array_y -ℤ fl.write_y)) rows
    → (tap : Tap) → Contains rows tap → IsStated plan (layout_kit kit) wire routed.tracks fl tap
rows_there kit plan wire fl routed s rows are tap among = elim (Contains-append_cases (input_taps gate_at are.leaves.inputs plan.groups 0 here.k) (enable ∷ []) tap here.among) [
  | inl input ↦ input_there kit plan wire fl routed s are.leaves are.of here.k here.below tap (input_of gate_at are.leaves.inputs plan.groups 0 here.k tap input)
  | inr last ↦ elim (contains_cases enable [] tap last) [ inl e ↦ subst (IsStated plan (layout_kit kit) wire routed.tracks fl) (sym e) (driver_there kit plan wire fl routed s are.leaves are.of here.k here.below) | inr none ↦ absurd (contains_none tap none) ]
] where
  corner : Point
  corner = corner_at fl.row_x (fl.array_y -ℤ fl.write_y)

  here : IsInLists (bank_rows plan) (row_taps plan.groups are.leaves corner) tap
  here = in_lists (bank_rows plan) (row_taps plan.groups are.leaves corner) tap (subst (λ (l : List Tap). Contains l tap) are.are among)

  gate_at : Place
  gate_at = row_place are.leaves.height corner here.k

  enable : Tap
  enable = pin_tap (line_count plan.groups) (driver_low fl are.leaves here.k) are.leaves.enable

-- the last column
some_columns : (plan : Organization) → 0 < plan.word_size → 0 < columns_of plan
some_columns plan some =
    let words : 1 ≤ words_per_row plan = twice_some plan.col_bits in
    let most : 1 * 1 ≤ plan.word_size * words_per_row plan = mul-le 1 1 plan.word_size (words_per_row plan) (omega (arith, some)) words in
    omega (arith, most)

-- where the last sense cell and the last precharge cell stand
abbrev pub sense_x : Organization → LayoutKit → Floorplan → ℤ
sense_x plan kit fl = columns_x plan kit fl +ℤ pos (slice_x plan kit (plan.word_size - 1))

abbrev pub precharge_x : Organization → LayoutKit → Floorplan → ℤ
precharge_x plan kit fl = columns_x plan kit fl +ℤ pos ((columns_of plan - 1) * bit_width kit)

sense_there : (kit : Kit) (plan : Organization) (wire : Wire) (fl : Floorplan) (routed : Routed) → IsTapSite kit plan wire fl routed → (pin : LeafPin) → IsLeafPin kit.leaves Sense 3 pin → IsStated plan (layout_kit kit) wire routed.tracks fl (sense_tap plan (layout_kit kit) fl pin)
sense_there kit plan wire fl routed s pin is y at =
    let i = plan.word_size - 1 in
    let x = sense_x plan (layout_kit kit) fl in
    let words = s.site.built.words in
    record {
      net = sen_at plan.bank_bits 0;
      on = other_rail plan 1 (line_count plan.groups + 1) refl;
      tap = inr (inr (inl (
        i,
        omega (arith, words),
        there_of_pin kit plan fl (SenseAt 0 i) (sen_at plan.bank_bits 0) 3 (upright x (fl.sense_y -ℤ fl.write_y)) (upright (bank_x fl 0 x) fl.sense_y) pin y (twice_some plan.bank_bits, omega (arith, words)) refl refl
            (sense_enable kit wire pin s.site.is s.wired is) (placed_upright (bank_x fl 0 x) fl.sense_y pin.rect) (upright_lower x fl.sense_y (bank_x fl 0 x) fl.write_y pin.rect (first_bank fl x)) at,
      )));
    }

precharge_there : (kit : Kit) (plan : Organization) (wire : Wire) (fl : Floorplan) (routed : Routed) → IsTapSite kit plan wire fl routed → (pin : LeafPin) → IsLeafPin kit.leaves Precharge 2 pin → IsStated plan (layout_kit kit) wire routed.tracks fl (precharge_tap plan (layout_kit kit) fl pin)
precharge_there kit plan wire fl routed s pin is y at =
    let c = columns_of plan - 1 in
    let x = precharge_x plan (layout_kit kit) fl in
    let some = some_columns plan s.site.built.words in
    record {
      net = Control Clkb;
      on = other_rail plan 2 (line_count plan.groups + 2) refl;
      tap = inr (inr (inr (inl (
        c,
        omega (arith, some),
        there_of_pin kit plan fl (PrechargeAt 0 c) (Control Clkb) 2 (upright x (fl.precharge_y -ℤ fl.write_y)) (upright (bank_x fl 0 x) fl.precharge_y) pin y (twice_some plan.bank_bits, omega (arith, some)) refl refl
            (precharge_enable kit wire pin s.site.is s.wired is) (placed_upright (bank_x fl 0 x) fl.precharge_y pin.rect) (upright_lower x fl.precharge_y (bank_x fl 0 x) fl.write_y pin.rect (first_bank fl x)) at,
      ))));
    }

choice_there : (kit : Kit) (plan : Organization) (wire : Wire) (fl : Floorplan) (routed : Routed) → IsTapSite kit plan wire fl routed → (k : ℕ) → k < choice_count plan.col_bits
    → IsStated plan (layout_kit kit) wire routed.tracks fl (choice_tap wire (channel_low (layout_kit kit) fl) (line_count plan.groups + 3) routed.track k)
choice_there kit plan wire fl routed s k lt y at =
    let each = s.site.tracks.each in
    let on = slice_get-get_or routed.track k 0 (omega (arith, lt, each)) in
    let choice = choice_has plan.col_bits k lt in
    record {
      net = Line 0 plan.col_bits k;
      on = other_rail plan (suc (suc (suc k))) (line_count plan.groups + 3 + k) (omega arith) ∙ choice;
      tap = inr (inr (inr (inr (record { number = k; choice = choice; trunk = (s.column.trunks k y).1 (slice_index routed.track k, on, omega (arith, ints, at)); ends = refl }))));
    }

-- each listed tap
pub taps_there : (kit : Kit) (plan : Organization) (wire : Wire) (fl : Floorplan) (routed : Routed) (taps : List Tap) → IsTapSite kit plan wire fl routed → AreBankTaps kit.leaves plan (layout_kit kit) wire fl routed.track taps
    → (tap : Tap) → Contains taps tap → IsStated plan (layout_kit kit) wire routed.tracks fl tap
taps_there kit plan wire fl routed taps s are tap among = elim (Contains-append_cases are.rows (sense ∷ behind) tap (subst (λ (l : List Tap). Contains l tap) are.are among)) [
  | inl row ↦ rows_there kit plan wire fl routed s are.rows are.of_rows tap row
  | inr other ↦ elim (contains_cases sense behind tap other) [
    | inl e ↦ subst stated (sym e) (sense_there kit plan wire fl routed s are.sense are.is_sense)
    | inr rest ↦ elim (contains_cases precharge choices tap rest) [
      | inl e ↦ subst stated (sym e) (precharge_there kit plan wire fl routed s are.precharge are.is_precharge)
      | inr choice ↦
          (let t = in_tabulate (choice_count plan.col_bits) (choice_tap wire (channel_low (layout_kit kit) fl) (line_count plan.groups + 3) routed.track) tap choice in
          subst stated (sym t.is) (choice_there kit plan wire fl routed s t.k t.below))
    ]
  ]
] where
  stated : Tap → Type 0
  stated = IsStated plan (layout_kit kit) wire routed.tracks fl

  sense : Tap
  sense = sense_tap plan (layout_kit kit) fl are.sense

  precharge : Tap
  precharge = precharge_tap plan (layout_kit kit) fl are.precharge

  choices : List Tap
  choices = tabulate (choice_count plan.col_bits) (choice_tap wire (channel_low (layout_kit kit) fl) (line_count plan.groups + 3) routed.track)

  behind : List Tap
  behind = precharge ∷ choices
