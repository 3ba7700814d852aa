-- The taps of a bank, all of them.
use Rattle.std.proofs.Common.{◌≡◌, inl, inr, ℕ, ◌+◌, ◌-◌, ◌*◌, ◌<◌, ◌≤◌, ℤ, pos, ◌+ℤ◌, ◌-ℤ◌, ◌*ℤ◌, ◌≤ℤ◌, List, [], ◌∷◌, length, Some, option_map, refl, ap, sym, subst, ◌∙◌, arith}
use Rattle.std.specs.Prelude.{Contains, slice_get, slice_index}
use Rattle.std.proofs.lemmas.Int.{ints}
use Rattle.std.proofs.lemmas.Nat.{mul-le}
use Rattle.std.proofs.lemmas.Option.{same_Some, slice_get-get_or}
use Rattle.std.proofs.lemmas.List.Elements.{Contains-append_left, Contains-append_right, Contains-append_cases}
use Rattle.or_geom.specs.declared.shape.Point.{Point}
use Rattle.or_geom.specs.declared.place.Place.{Place}
use Rattle.or_geom.proofs.ListLaws.{contains_none, contains_cases, contains_first, contains_later}
use Rattle.cell_roles.specs.declared.role.Role.{Role}
use Rattle.cell_roles.specs.declared.role.Role.TheVariants.{Bitcell, Precharge, Sense, Driver}
use Rattle.wire_drawing.specs.declared.route.Tap.{Tap}
use Rattle.tech_rules.specs.declared.tech.Wire.{Wire}
use Rattle.wire_drawing.specs.Drawing.{pitch}
use Rattle.tech_rules.specs.Facts.{AreSizes}
use Rattle.sram_netlist.specs.Organization.{Organization, IsBuildable, bank_rows, columns_of, total_bits}
use Rattle.sram_netlist.specs.Netlist.{row_gate}
use Rattle.sram_netlist.specs.InstanceList.{tabulate}
use Rattle.memory_laws.proofs.Decode.{twice_some}
use Rattle.leaf_shapes.specs.declared.pins.LeafPin.{LeafPin}
use Rattle.leaf_shapes.proofs.PinLaws.{exists_at}
use Rattle.leaf_tables.specs.declared.kit.Kit.{Kit}
use Rattle.leaf_tables.specs.declared.kit.Leaf.{Leaf}
use Rattle.leaf_tables.specs.Alignment.{leaf_in, height_in}
use Rattle.leaf_tables.specs.Kits.{IsKit}
use Rattle.macro_layout.specs.Places.{Floorplan, columns_x, bit_width, upright}
use Rattle.macro_layout.specs.Cells.{slice_x}
use Rattle.macro_layout.specs.Floorplan.{line_count, choice_count, rail_count, rail_x}
use Rattle.floorplan.specs.LayoutOfKit.{layout_kit}
use Rattle.row_decoder.specs.RowTaps.{AreTapsOfRows, corner_at, pin_tap, row_place, input_taps, row_taps}
use Rattle.leaf_tables.proofs.RoleLaws.{near_in_kit, pins_in_kit}
use Rattle.row_decoder.proofs.TapLaws.{enough_inputs}
use Rattle.bank_layout.specs.Near.{HasTracks}
use Rattle.bank_layout.specs.BankTaps.{IsLeafPin, sense_tap, precharge_tap, choice_tap, channel_low, AreBankTaps}
use Rattle.bank_layout.proofs.PinLaws.{inside_leaf, in_cell}
use Rattle.bank_layout.proofs.ListLaws.{in_tabulate, tabulate_has, IsInLists, in_lists, lists_have}
use Rattle.bank_layout.proofs.LineLaws.{line_at, le_or_lt, IsInputTap, input_of, input_in, line_below, HasRow, has_row}
use Rattle.bank_layout.proofs.GoodLaws.{IsGoodTap, pos_of, rail_near, upright_spot, row_spot, good_pin}

-- a bank that is drawn of a kit: its numbers are near
pub record IsSite (kit : Kit) (plan : Organization) (wire : Wire) (fl : Floorplan) (track : List ℕ) : Type 0 where
  pub is : IsKit kit
  pub built : IsBuildable plan
  pub sizes : AreSizes wire
  pub few : rail_count plan ≤ 64
  pub row_x : fl.row_x ≡ rail_x wire (rail_count plan)
  pub array : pos 0 ≤ℤ (fl.array_y -ℤ fl.write_y)
  pub array_near : (fl.array_y -ℤ fl.write_y) ≤ℤ pos 1073741824
  pub sense : pos 0 ≤ℤ (fl.sense_y -ℤ fl.write_y)
  pub sense_near : (fl.sense_y -ℤ fl.write_y) ≤ℤ pos 1073741824
  pub precharge : pos 0 ≤ℤ (fl.precharge_y -ℤ fl.write_y)
  pub precharge_near : (fl.precharge_y -ℤ fl.write_y) ≤ℤ pos 1073741824
  pub low : pos 0 ≤ℤ channel_low (layout_kit kit) fl
  pub low_near : channel_low (layout_kit kit) fl ≤ℤ pos 1048576
  pub slice_near : (columns_x plan (layout_kit kit) fl +ℤ pos (slice_x plan (layout_kit kit) (plan.word_size - 1))) ≤ℤ pos 33554432
  pub column_near : (columns_x plan (layout_kit kit) fl +ℤ pos ((columns_of plan - 1) * bit_width (layout_kit kit))) ≤ℤ pos 33554432
  pub tracks : HasTracks (choice_count plan.col_bits) track

-- the height of a row's leaf cells
pub heights_same : (kit : Kit) → IsKit kit → (groups : List ℕ) → (height_in kit.leaves (row_gate groups) ≡ height_in kit.leaves Bitcell) × (height_in kit.leaves Driver ≡ height_in kit.leaves Bitcell)
heights_same kit is [] = (is.aligned.heights.0, is.aligned.heights.1.1.0)
heights_same kit is (a ∷ []) = (is.aligned.heights.0, is.aligned.heights.1.1.0)
heights_same kit is (a ∷ b ∷ []) = (is.aligned.heights.0, is.aligned.heights.1.1.0)
heights_same kit is (a ∷ b ∷ c ∷ bs) = (is.aligned.heights.1.0, is.aligned.heights.1.1.0)

pub same_height : (kit : Kit) (role : Role) (leaf : Leaf) (h : ℤ) → leaf_in kit.leaves role ≡ Some leaf → height_in kit.leaves role ≡ height_in kit.leaves Bitcell → height_in kit.leaves Bitcell ≡ Some h → leaf.height ≡ h
same_height kit role leaf h there same is = same_Some leaf.height h (sym (ap (option_map (λ (l : Leaf). l.height)) there) ∙ (same ∙ is))

row_x_near : (kit : Kit) (plan : Organization) (wire : Wire) (fl : Floorplan) (track : List ℕ) → IsSite kit plan wire fl track → (pos 0 ≤ℤ fl.row_x) × (fl.row_x ≤ℤ pos 8519680)
row_x_near kit plan wire fl track s =
    let near = rail_near wire (rail_count plan) s.sizes s.few in
    let low = near.0 in
    let high = near.1 in
    let is = s.row_x in
    (omega (arith, ints, low, is), omega (arith, ints, high, is))

-- a tap of a cell in a row
row_good : (kit : Kit) (plan : Organization) (wire : Wire) (fl : Floorplan) (track : List ℕ) → IsSite kit plan wire fl track → (role : Role) (leaf : Leaf) (k : ℕ) (pin : LeafPin) (height : ℤ) (corner : Point) (r rail : ℕ)
    → leaf_in kit.leaves role ≡ Some leaf → slice_get leaf.pins k ≡ Some pin → leaf.height ≡ height → corner.y ≡ fl.array_y -ℤ fl.write_y → fl.row_x ≤ℤ corner.x → corner.x ≤ℤ pos 33554432 → r < bank_rows plan → rail < rail_count plan
    → IsGoodTap wire (rail_count plan) (pin_tap rail (row_place height corner r) pin)
row_good kit plan wire fl track s role leaf k pin height corner r rail there at high low behind near below lt =
    let inside = inside_leaf kit role leaf k pin s.is there at in
    let y1 = inside.low in
    let y2 = inside.high in
    let flat = inside.flat in
    let tall = pin.rect.tall in
    let h = pos_of height (omega (arith, ints, y1, y2, tall, high)) in
    let is = h.is in
    let rows = s.built.rows in
    let most : (r + 1) * h.n ≤ 256 * 65536 = mul-le (r + 1) h.n 256 65536 (omega (arith, below, rows)) (omega (arith, ints, is, flat, high)) in
    let spot = row_spot h.n corner r pin.rect (in_cell leaf pin.rect inside) (omega (arith, ints, y2, high, is)) in
    let array = s.array in
    let array_near = s.array_near in
    subst (λ (z : ℤ). IsGoodTap wire (rail_count plan) (pin_tap rail (row_place z corner r) pin)) (sym is)
    (good_pin wire (rail_count plan) rail fl.row_x corner.x corner.y _ _ pin s.sizes s.row_x lt behind near (row_x_near kit plan wire fl track s).0 (omega (arith, ints, low, array)) (omega (arith, ints, low, array_near, most)) spot)

rows_good : (kit : Kit) (plan : Organization) (wire : Wire) (fl : Floorplan) (track : List ℕ) (rows : List Tap) → IsSite kit plan wire fl track → AreTapsOfRows kit.leaves plan (corner_at fl.row_x (fl.array_y -ℤ fl.write_y)) rows
    → (tap : Tap) → Contains rows tap → IsGoodTap wire (rail_count plan) tap
rows_good kit plan wire fl track rows s are tap among =
    elim (Contains-append_cases (input_taps gate_at are.leaves.inputs plan.groups 0 here.k) (enable ∷ []) tap here.among) [
      | inl input ↦ from_input (input_of gate_at are.leaves.inputs plan.groups 0 here.k tap input)
      | inr last ↦ elim (contains_cases enable [] tap last) [ inl e ↦ subst (IsGoodTap wire (rail_count plan)) (sym e) enable_good | inr none ↦ absurd (contains_none tap none) ]
    ] where
      corner : Point
      corner = corner_at fl.row_x (fl.array_y -ℤ fl.write_y)

      here : IsInLists (bank_rows plan) (row_taps plan.groups are.leaves corner) tap
      here = in_lists (bank_rows plan) (row_taps plan.groups are.leaves corner) tap (subst (λ (l : List Tap). Contains l tap) are.are among)

      gate_at : Place
      gate_at = row_place are.leaves.height corner here.k

      beside : Point
      beside = corner_at (fl.row_x +ℤ are.leaves.gate_width) (fl.array_y -ℤ fl.write_y)

      enable : Tap
      enable = pin_tap (line_count plan.groups) (row_place are.leaves.height beside here.k) are.leaves.enable

      x_near : (pos 0 ≤ℤ fl.row_x) × (fl.row_x ≤ℤ pos 8519680)
      x_near = row_x_near kit plan wire fl track s

      same : (height_in kit.leaves (row_gate plan.groups) ≡ height_in kit.leaves Bitcell) × (height_in kit.leaves Driver ≡ height_in kit.leaves Bitcell)
      same = heights_same kit s.is plan.groups

      from_input : IsInputTap gate_at are.leaves.inputs plan.groups 0 here.k tap → IsGoodTap wire (rail_count plan) tap
      from_input i =
          let lower = line_below plan.groups 0 here.k i.group i.below in
          let right = x_near.1 in
          subst (IsGoodTap wire (rail_count plan)) (sym i.is)
          (row_good kit plan wire fl track s (row_gate plan.groups) are.of.gate i.group i.pin are.leaves.height corner here.k (line_at plan.groups 0 here.k i.group) are.of.is_gate (subst (λ (l : List LeafPin). slice_get l i.group ≡ Some i.pin) are.of.inputs i.at)
          (same_height kit (row_gate plan.groups) are.of.gate are.leaves.height are.of.is_gate same.0 are.of.height) refl (omega (arith, ints)) (omega (arith, ints, right)) here.below (omega (arith, lower)))

      enable_good : IsGoodTap wire (rail_count plan) enable
      enable_good =
          let gate = near_in_kit kit (row_gate plan.groups) are.of.gate s.is are.of.is_gate in
          let wide = are.of.gate_width in
          let above = gate.width.above in
          let narrow = gate.width.below in
          let right = x_near.1 in
          row_good kit plan wire fl track s Driver are.of.driver 1 are.leaves.enable are.leaves.height beside here.k (line_count plan.groups) are.of.is_driver are.of.enable
          (same_height kit Driver are.of.driver are.leaves.height are.of.is_driver same.1 are.of.height) refl (omega (arith, ints, wide, above)) (omega (arith, ints, right, wide, narrow)) here.below (omega arith)

-- a tap of a cell that stands upright
leaf_good : (kit : Kit) (plan : Organization) (wire : Wire) (fl : Floorplan) (track : List ℕ) → IsSite kit plan wire fl track → (role : Role) (place : ℕ) (pin : LeafPin) (rail : ℕ) (x y : ℤ) → IsLeafPin kit.leaves role place pin
    → fl.row_x ≤ℤ x → x ≤ℤ pos 33554432 → pos 0 ≤ℤ y → y ≤ℤ pos 1073741824 → rail < rail_count plan → IsGoodTap wire (rail_count plan) (pin_tap rail (upright x y) pin)
leaf_good kit plan wire fl track s role place pin rail x y is behind near low high lt =
    good_pin wire (rail_count plan) rail fl.row_x x y (y +ℤ pos 65536) (upright x y) pin s.sizes s.row_x lt behind near (row_x_near kit plan wire fl track s).0 low (omega (arith, ints, high))
    (upright_spot x y pin.rect (in_cell is.leaf pin.rect (inside_leaf kit role is.leaf place pin s.is is.there is.at)))

choice_good : (kit : Kit) (plan : Organization) (wire : Wire) (fl : Floorplan) (track : List ℕ) → IsSite kit plan wire fl track → (k : ℕ) → k < choice_count plan.col_bits
    → IsGoodTap wire (rail_count plan) (choice_tap wire (channel_low (layout_kit kit) fl) (line_count plan.groups + 3) track k)
choice_good kit plan wire fl track s k lt =
    let each = s.tracks.each in
    let few = s.tracks.few k (slice_index track k) (slice_get-get_or track k 0 (omega (arith, lt, each))) in
    let width = s.sizes.width in
    let space = s.sizes.space in
    let p = pos_of (pitch wire) (omega (arith, ints, width.from, space.from)) in
    let step = p.is in
    let t : ℕ = slice_index track k in
    let far : pos t *ℤ pitch wire ≡ pos (t * p.n) = ap (λ (z : ℤ). pos t *ℤ z) step in
    let most : t * p.n ≤ 1024 * 131072 = mul-le t p.n 1024 131072 (omega (arith, few)) (omega (arith, ints, step, width.to, space.to)) in
    let rails = s.few in
    let low = s.low in
    let low_near = s.low_near in
    let x = rail_near wire ((line_count plan.groups + 3) + k) s.sizes (omega (arith, lt, rails)) in
    let x_near = x.1 in
    record {
      rail = omega (arith, lt);
      low = omega (arith, ints, low, space.from, far);
      high = omega (arith, ints, low_near, space.to, far, most);
      begins = omega (arith, ints);
      right = (let x_low = x.0 in omega (arith, ints, x_low, width.from));
      ends = omega (arith, ints, x_near, width.to);
    }

-- all taps of a bank
pub bank_good : (kit : Kit) (plan : Organization) (wire : Wire) (fl : Floorplan) (track : List ℕ) (taps : List Tap) → IsSite kit plan wire fl track → AreBankTaps kit.leaves plan (layout_kit kit) wire fl track taps
    → (tap : Tap) → Contains taps tap → IsGoodTap wire (rail_count plan) tap
bank_good kit plan wire fl track taps s are tap among =
    elim (Contains-append_cases are.rows (sense ∷ behind) tap (subst (λ (l : List Tap). Contains l tap) are.are among)) [
      | inl row ↦ rows_good kit plan wire fl track are.rows s are.of_rows tap row
      | inr other ↦ elim (contains_cases sense behind tap other) [
        | inl e ↦ subst (IsGoodTap wire (rail_count plan)) (sym e) sense_good
        | inr rest ↦ elim (contains_cases precharge choices tap rest) [
          | inl e ↦ subst (IsGoodTap wire (rail_count plan)) (sym e) precharge_good
          | inr choice ↦
              (let t = in_tabulate (choice_count plan.col_bits) (choice_tap wire (channel_low (layout_kit kit) fl) (line_count plan.groups + 3) track) tap choice in
              subst (IsGoodTap wire (rail_count plan)) (sym t.is) (choice_good kit plan wire fl track s t.k t.below))
        ]
      ]
    ] where
      sense : Tap
      sense = sense_tap plan (layout_kit kit) fl are.sense

      precharge : Tap
      precharge = precharge_tap plan (layout_kit kit) fl are.precharge

      choices : List Tap
      choices = tabulate (choice_count plan.col_bits) (choice_tap wire (channel_low (layout_kit kit) fl) (line_count plan.groups + 3) track)

      behind : List Tap
      behind = precharge ∷ choices

      sense_good : IsGoodTap wire (rail_count plan) (sense_tap plan (layout_kit kit) fl are.sense)
      sense_good = leaf_good kit plan wire fl track s Sense 3 are.sense _ _ _ are.is_sense (omega (arith, ints)) s.slice_near s.sense s.sense_near (omega arith)

      precharge_good : IsGoodTap wire (rail_count plan) (precharge_tap plan (layout_kit kit) fl are.precharge)
      precharge_good = leaf_good kit plan wire fl track s Precharge 2 are.precharge _ _ _ are.is_precharge (omega (arith, ints)) s.column_near s.precharge s.precharge_near (omega arith)

-- a tap of the rail is listed
pub record IsListed (taps : List Tap) (rail : ℕ) : Type 0 where
  pub tap : Tap
  pub listed : Contains taps tap
  pub of_rail : tap.rail ≡ rail

rows_tapped : (kit : Kit) (plan : Organization) (wire : Wire) (fl : Floorplan) (track : List ℕ) (rows : List Tap) → IsSite kit plan wire fl track → AreTapsOfRows kit.leaves plan (corner_at fl.row_x (fl.array_y -ℤ fl.write_y)) rows
    → (rail : ℕ) → rail < line_count plan.groups → IsListed rows rail
rows_tapped kit plan wire fl track rows s are rail lt = record {
  tap = tap;
  listed = subst (λ (l : List Tap). Contains l tap) (sym are.are) (lists_have (bank_rows plan) (row_taps plan.groups are.leaves corner) row.row tap row.row_below
      (Contains-append_left (input_taps gate_at are.leaves.inputs plan.groups 0 row.row) _ tap (input_in gate_at are.leaves.inputs plan.groups 0 row.row row.group pin.0 row.group_below pin.1)));
  of_rail = row.is;
} where
  corner : Point
  corner = corner_at fl.row_x (fl.array_y -ℤ fl.write_y)

  row : HasRow plan.groups rail
  row = has_row plan.groups rail lt

  gate_at : Place
  gate_at = row_place are.leaves.height corner row.row

  pin : (x : LeafPin) × (slice_get are.leaves.inputs row.group ≡ Some x)
  pin =
      let enough = enough_inputs plan.groups s.built.groups in
      let sized = pins_in_kit kit (row_gate plan.groups) are.of.gate s.is are.of.is_gate in
      let same = ap length are.of.inputs in
      let below = row.group_below in
      exists_at are.leaves.inputs row.group (omega (arith, enough, sized, same, below))

  tap : Tap
  tap = pin_tap (line_at plan.groups 0 row.row row.group) gate_at pin.0

enable_tapped : (kit : Kit) (plan : Organization) (fl : Floorplan) (rows : List Tap) → AreTapsOfRows kit.leaves plan (corner_at fl.row_x (fl.array_y -ℤ fl.write_y)) rows → IsListed rows (line_count plan.groups)
enable_tapped kit plan fl rows are = record {
  tap = tap;
  listed = subst (λ (l : List Tap). Contains l tap) (sym are.are) (lists_have (bank_rows plan) (row_taps plan.groups are.leaves corner) 0 tap (twice_some (total_bits plan.groups))
      (Contains-append_right (input_taps (row_place are.leaves.height corner 0) are.leaves.inputs plan.groups 0 0) (tap ∷ []) tap (contains_first tap [])));
  of_rail = refl;
} where
  corner : Point
  corner = corner_at fl.row_x (fl.array_y -ℤ fl.write_y)

  tap : Tap
  tap = pin_tap (line_count plan.groups) (row_place are.leaves.height (corner_at (fl.row_x +ℤ are.leaves.gate_width) (fl.array_y -ℤ fl.write_y)) 0) are.leaves.enable

-- each rail has a tap
pub bank_tapped : (kit : Kit) (plan : Organization) (wire : Wire) (fl : Floorplan) (track : List ℕ) (taps : List Tap) → IsSite kit plan wire fl track → AreBankTaps kit.leaves plan (layout_kit kit) wire fl track taps
    → (rail : ℕ) → rail < rail_count plan → IsListed taps rail
bank_tapped kit plan wire fl track taps s are rail lt = elim (le_or_lt (lines + 1) rail) [
  | inr low ↦ in_rows (elim (le_or_lt lines rail) [
    | inr line ↦ rows_tapped kit plan wire fl track are.rows s are.of_rows rail line
    | inl above ↦ subst (IsListed are.rows) (omega (arith, low, above)) (enable_tapped kit plan fl are.rows are.of_rows)
  ])
  | inl first ↦ elim (le_or_lt (lines + 2) rail) [
    | inr low ↦ in_others (record { tap = sense; listed = contains_first sense behind; of_rail = omega (arith, low, first) })
    | inl second ↦ elim (le_or_lt (lines + 3) rail) [
      | inr low ↦ in_others (record { tap = precharge; listed = contains_later sense behind precharge (contains_first precharge choices); of_rail = omega (arith, low, second) })
      | inl third ↦
          (let k = rail - (lines + 3) in
          let choice = choice_tap wire (channel_low (layout_kit kit) fl) (lines + 3) track k in
          in_others (record {
            tap = choice;
            listed = contains_later sense behind choice (contains_later precharge choices choice (tabulate_has (choice_count plan.col_bits) (choice_tap wire (channel_low (layout_kit kit) fl) (lines + 3) track) k (omega (arith, third, lt))));
            of_rail = omega (arith, third);
          }))
    ]
  ]
] where
  lines : ℕ
  lines = line_count plan.groups

  sense : Tap
  sense = sense_tap plan (layout_kit kit) fl are.sense

  precharge : Tap
  precharge = precharge_tap plan (layout_kit kit) fl are.precharge

  choices : List Tap
  choices = tabulate (choice_count plan.col_bits) (choice_tap wire (channel_low (layout_kit kit) fl) (lines + 3) track)

  behind : List Tap
  behind = precharge ∷ choices

  others : List Tap
  others = sense ∷ behind

  in_rows : IsListed are.rows rail → IsListed taps rail
  in_rows i = record { tap = i.tap; listed = subst (λ (l : List Tap). Contains l i.tap) (sym are.are) (Contains-append_left are.rows others i.tap i.listed); of_rail = i.of_rail }

  in_others : IsListed others rail → IsListed taps rail
  in_others i = record { tap = i.tap; listed = subst (λ (l : List Tap). Contains l i.tap) (sym are.are) (Contains-append_right are.rows others i.tap i.listed); of_rail = i.of_rail }
