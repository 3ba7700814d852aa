-- How high a bank's rails are: only that of the inverted clock is tapped as high as the precharge cells.
use Rattle.std.proofs.Common.{◌≡◌, ◌⊎◌, inl, inr, ℕ, ◌+◌, ◌*◌, ◌<◌, ◌≤◌, ◌%◌, ◌==◌, ℤ, pos, ◌+ℤ◌, ◌-ℤ◌, ◌*ℤ◌, ◌≤ℤ◌, ◌<ℤ◌, List, [], ◌∷◌, length, Bool, true, false, cond, Some, refl, ap, sym, subst, ◌∙◌, arith}
use Rattle.std.specs.Prelude.{◌≢◌, Contains, slice_get, slice_index}
use Rattle.std.specs.Int.{int_max, int_min}
use Rattle.std.specs.Ordering.{int_eq}
use Rattle.std.proofs.lemmas.Bool.Decides.{Decides-eqb}
use Rattle.std.proofs.lemmas.Int.{ints, clamps}
use Rattle.std.proofs.lemmas.Nat.{mul-le}
use Rattle.std.proofs.lemmas.Option.{same_Some, slice_get-get_or}
use Rattle.std.proofs.lemmas.List.Elements.{Contains-append_right, Contains-append_cases}
use Rattle.or_geom.specs.declared.shape.Point.{Point}
use Rattle.or_geom.specs.declared.shape.Rect.{Rect}
use Rattle.or_geom.specs.declared.place.Place.{Place}
use Rattle.or_geom.proofs.ListLaws.{contains_none, contains_cases, contains_first, contains_later}
use Rattle.cell_roles.specs.declared.role.Role.{Role}
use Rattle.cell_roles.specs.declared.role.Role.TheVariants.{Driver, Precharge, Sense}
use Rattle.wire_drawing.specs.declared.route.Tap.{Tap}
use Rattle.tech_rules.specs.declared.tech.Wire.{Wire}
use Rattle.wire_drawing.specs.Drawing.{pitch}
use Rattle.tech_rules.specs.Facts.{AreSizes}
use Rattle.channel_router.specs.Tracks.{AreTracksBelow}
use Rattle.channel_router.specs.Wires.{channel_height}
use Rattle.sram_netlist.specs.Organization.{Organization, bank_rows}
use Rattle.sram_netlist.specs.Netlist.{row_gate}
use Rattle.sram_netlist.specs.InstanceList.{tabulate}
use Rattle.sram_deck.specs.Deck.{bank_ports}
use Rattle.leaf_shapes.specs.declared.pins.LeafPin.{LeafPin}
use Rattle.leaf_tables.specs.declared.kit.Kit.{Kit}
use Rattle.leaf_tables.specs.declared.kit.Leaf.{Leaf}
use Rattle.leaf_tables.specs.Alignment.{leaf_in}
use Rattle.leaf_tables.specs.Kits.{IsKit}
use Rattle.macro_layout.specs.Places.{Floorplan, bit_height, upright, mirrored_at}
use Rattle.macro_layout.specs.Floorplan.{line_count, choice_count, rail_count, upper_y}
use Rattle.floorplan.specs.LayoutOfKit.{layout_kit}
use Rattle.row_decoder.specs.RowTaps.{lower_end, pin_tap, row_place, row_taps, input_taps, corner_at, AreTapsOfRows}
use Rattle.part_edges.specs.PartPins.{ends_at}
use Rattle.part_edges.proofs.PinLaws.{other_numbers}
use Rattle.bank_layout.specs.BankTaps.{IsLeafPin, AreBankTaps, sense_tap, precharge_tap, choice_tap, channel_low}
use Rattle.bank_layout.specs.BankPart.{highest_tap, rail_pin}
use Rattle.bank_layout.specs.BankEdges.{rail_edge}
use Rattle.leaf_tables.proofs.RoleLaws.{in_kit}
use Rattle.bank_layout.proofs.PinLaws.{inside_leaf}
use Rattle.bank_layout.proofs.ListLaws.{in_tabulate, IsInLists, in_lists}
use Rattle.bank_layout.proofs.LineLaws.{IsInputTap, input_of, line_below, line_at}
use Rattle.bank_layout.proofs.GoodLaws.{pos_of}
use Rattle.bank_layout.proofs.SiteLaws.{heights_same, same_height}
use Rattle.bank_layout.proofs.RailListLaws.{row_high}
use Rattle.bank_layout.proofs.WithinLaws.{high_as}
use Rattle.bank_layout.proofs.ShownLaws.{shown, one_made, equal_moved}

-- The highest tap

false_is_true : false ≡ true → ⊥
false_is_true e = cc

none_true : {b : Bool} → b ≡ false → b ≡ true → ⊥
none_true {b} first second = false_is_true (sym first ∙ second)

-- no tap of the rail is above it
pub highest_most : (taps : List Tap) (rail : ℕ) (m : ℤ) → pos 0 ≤ℤ m → ((tap : Tap) → Contains taps tap → tap.rail ≡ rail → tap.y ≤ℤ m) → highest_tap taps rail ≤ℤ m
highest_most [] rail m above each = above
highest_most (t ∷ ts) rail m above each = by (t.rail == rail) refl (highest_most ts rail m above (λ tap h of. each tap (contains_later t ts tap h) of)) where
  by : (b : Bool) → (t.rail == rail) ≡ b → highest_tap ts rail ≤ℤ m → cond b (int_max t.y (highest_tap ts rail)) (highest_tap ts rail) ≤ℤ m
  by true same rest = let here = each t (contains_first t ts) ((Decides-eqb t.rail rail).0 same) in omega (arith, ints, clamps, here, rest)
  by false same rest = rest

-- it is not below a tap of the rail
pub highest_least : (taps : List Tap) (rail : ℕ) (tap : Tap) → Contains taps tap → tap.rail ≡ rail → tap.y ≤ℤ highest_tap taps rail
highest_least [] rail tap h of = absurd (contains_none tap h)
highest_least (t ∷ ts) rail tap h of = by (t.rail == rail) refl (λ later. highest_least ts rail tap later of) where
  here : tap ≡ t → t.rail ≡ rail
  here e = sym (ap (λ (x : Tap). x.rail) e) ∙ of

  by : (b : Bool) → (t.rail == rail) ≡ b → (Contains ts tap → tap.y ≤ℤ highest_tap ts rail) → tap.y ≤ℤ cond b (int_max t.y (highest_tap ts rail)) (highest_tap ts rail)
  by true same rest = elim (contains_cases t ts tap h) [
    | inl e ↦ (let at = ap (λ (x : Tap). x.y) e in omega (arith, ints, clamps, at))
    | inr later ↦ (let more = rest later in omega (arith, ints, clamps, more))
  ]
  by false same rest = elim (contains_cases t ts tap h) [
    | inl e ↦ absurd (none_true same ((Decides-eqb t.rail rail).1 (here e)))
    | inr later ↦ rest later
  ]

-- The taps of a bank

-- a kit, and a floorplan on which it is drawn
pub record IsRaised (kit : Kit) (plan : Organization) (wire : Wire) (track : List ℕ) (fl : Floorplan) : Type 0 where
  pub is : IsKit kit
  pub wired : kit.tech.wire ≡ Some wire
  pub sizes : AreSizes wire
  pub tracks : ℕ
  pub below : AreTracksBelow track tracks
  pub each : choice_count plan.col_bits ≤ length track
  pub channel : channel_low (layout_kit kit) fl +ℤ channel_height wire tracks ≡ fl.column_y -ℤ fl.write_y
  pub sense : channel_low (layout_kit kit) fl ≡ (fl.sense_y -ℤ fl.write_y) +ℤ pos ((layout_kit kit).height Sense)
  pub column : (fl.column_y -ℤ fl.write_y) ≤ℤ (fl.array_y -ℤ fl.write_y)
  pub array : fl.precharge_y ≡ fl.array_y +ℤ pos (bank_rows plan * bit_height (layout_kit kit))
  pub above : pos 0 <ℤ (fl.precharge_y -ℤ fl.write_y)
  pub rows : pos 0 <ℤ (fl.array_y -ℤ fl.write_y)

-- a tap of another rail, below the precharge cells
pub record IsOtherTap (plan : Organization) (fl : Floorplan) (tap : Tap) : Type 0 where
  pub rail : tap.rail ≢ line_count plan.groups + 2
  pub below : tap.y <ℤ (fl.precharge_y -ℤ fl.write_y)

-- a pin of an upright cell, and one in a row
pub upright_low : (x y : ℤ) (r : Rect) → lower_end (upright x y) r ≡ y +ℤ r.y1
upright_low x y r = let tall = r.tall in let low : int_min (r.y1 +ℤ y) (r.y2 +ℤ y) ≡ y +ℤ r.y1 = omega (arith, ints, clamps, tall) in low

pub mirrored_low : (x y : ℤ) (r : Rect) → lower_end (mirrored_at x y) r ≡ y -ℤ r.y2
mirrored_low x y r = let tall = r.tall in let low : int_min ((pos 0 -ℤ r.y1) +ℤ y) ((pos 0 -ℤ r.y2) +ℤ y) ≡ y -ℤ r.y2 = omega (arith, ints, clamps, tall) in low

in_row_below : (h : ℕ) (corner : Point) (r : ℕ) (rect : Rect) → pos 0 ≤ℤ rect.y1 → rect.y2 ≤ℤ pos h → lower_end (row_place (pos h) corner r) rect <ℤ (corner.y +ℤ pos ((r + 1) * h))
in_row_below h corner r rect low high = by (r % 2 == 0) where
  split : (r + 1) * h ≡ r * h + h
  split = omega arith

  tall : rect.y1 <ℤ rect.y2
  tall = rect.tall

  by : (t : Bool) → lower_end (cond t (upright corner.x (corner.y +ℤ (pos r *ℤ pos h))) (mirrored_at corner.x (corner.y +ℤ (pos (r + 1) *ℤ pos h)))) rect <ℤ (corner.y +ℤ pos ((r + 1) * h))
  by true = subst (λ (z : ℤ). z <ℤ (corner.y +ℤ pos ((r + 1) * h))) (sym (upright_low corner.x (corner.y +ℤ pos (r * h)) rect)) (omega (arith, ints, tall, high, split))
  by false = subst (λ (z : ℤ). z <ℤ (corner.y +ℤ pos ((r + 1) * h))) (sym (mirrored_low corner.x (corner.y +ℤ pos ((r + 1) * h)) rect)) (omega (arith, ints, tall, low))

row_below : (kit : Kit) (plan : Organization) (wire : Wire) (track : List ℕ) (fl : Floorplan) → IsRaised kit plan wire track fl → (role : Role) (leaf : Leaf) (k : ℕ) (pin : LeafPin) (height x : ℤ) (r rail : ℕ) → leaf_in kit.leaves role ≡ Some leaf → slice_get leaf.pins k ≡ Some pin → leaf.height ≡ height
    → height ≡ pos (bit_height (layout_kit kit)) → r < bank_rows plan → rail ≤ line_count plan.groups → IsOtherTap plan fl (pin_tap rail (row_place height (corner_at x (fl.array_y -ℤ fl.write_y)) r) pin)
row_below kit plan wire track fl s role leaf k pin height x r rail there at high is below few =
    let inside = inside_leaf kit role leaf k pin s.is there at in
    let h = bit_height (layout_kit kit) in
    let y2 = inside.high in
    let in_row = in_row_below h (corner_at x (fl.array_y -ℤ fl.write_y)) r pin.rect inside.low (omega (arith, ints, y2, high, is)) in
    let rows : (r + 1) * h ≤ bank_rows plan * h = mul-le (r + 1) h (bank_rows plan) h (omega (arith, below)) (omega arith) in
    let array = s.array in
    subst (λ (z : ℤ). IsOtherTap plan fl (pin_tap rail (row_place z (corner_at x (fl.array_y -ℤ fl.write_y)) r) pin)) (sym is) (record {
      rail = λ e. omega (arith, e, few);
      below = omega (arith, ints, in_row, rows, array);
    })

rows_below : (kit : Kit) (plan : Organization) (wire : Wire) (track : List ℕ) (fl : Floorplan) (rows : List Tap) → IsRaised kit plan wire track fl → AreTapsOfRows kit.leaves plan (corner_at fl.row_x (fl.array_y -ℤ fl.write_y)) rows
    → (tap : Tap) → Contains rows tap → IsOtherTap plan fl tap
rows_below kit plan wire track fl rows s are tap among =
    elim (Contains-append_cases (input_taps gate_at are.leaves.inputs plan.groups 0 here.k) (enable ∷ []) tap here.among) [
      | inl input ↦ from_input (input_of gate_at are.leaves.inputs plan.groups 0 here.k tap input)
      | inr last ↦ elim (contains_cases enable [] tap last) [ inl e ↦ subst (IsOtherTap plan fl) (sym e) enable_low | inr none ↦ absurd (contains_none tap none) ]
    ] where
      corner : Point
      corner = corner_at fl.row_x (fl.array_y -ℤ fl.write_y)

      here : IsInLists (bank_rows plan) (row_taps plan.groups are.leaves corner) tap
      here = in_lists (bank_rows plan) (row_taps plan.groups are.leaves corner) tap (subst (λ (l : List Tap). Contains l tap) are.are among)

      gate_at : Place
      gate_at = row_place are.leaves.height corner here.k

      enable : Tap
      enable = pin_tap (line_count plan.groups) (row_place are.leaves.height (corner_at (fl.row_x +ℤ are.leaves.gate_width) (fl.array_y -ℤ fl.write_y)) here.k) are.leaves.enable

      high : are.leaves.height ≡ pos (bit_height (layout_kit kit))
      high = row_high kit plan.groups are.leaves s.is are.of

      from_input : IsInputTap gate_at are.leaves.inputs plan.groups 0 here.k tap → IsOtherTap plan fl tap
      from_input i =
          let lower = line_below plan.groups 0 here.k i.group i.below in
          subst (IsOtherTap plan fl) (sym i.is)
          (row_below kit plan wire track fl s (row_gate plan.groups) are.of.gate i.group i.pin are.leaves.height fl.row_x here.k (line_at plan.groups 0 here.k i.group) are.of.is_gate (subst (λ (l : List LeafPin). slice_get l i.group ≡ Some i.pin) are.of.inputs i.at)
          (same_height kit (row_gate plan.groups) are.of.gate are.leaves.height are.of.is_gate (heights_same kit s.is plan.groups).0 are.of.height) high here.below (omega (arith, lower)))

      enable_low : IsOtherTap plan fl enable
      enable_low = row_below kit plan wire track fl s Driver are.of.driver 1 are.leaves.enable are.leaves.height (fl.row_x +ℤ are.leaves.gate_width) here.k (line_count plan.groups) are.of.is_driver are.of.enable
          (same_height kit Driver are.of.driver are.leaves.height are.of.is_driver (heights_same kit s.is plan.groups).1 are.of.height) high here.below (omega arith)

sense_below : (kit : Kit) (plan : Organization) (wire : Wire) (track : List ℕ) (fl : Floorplan) (pin : LeafPin) → IsRaised kit plan wire track fl → IsLeafPin kit.leaves Sense 3 pin → IsOtherTap plan fl (sense_tap plan (layout_kit kit) fl pin)
sense_below kit plan wire track fl pin s p =
    let inside = inside_leaf kit Sense p.leaf 3 pin s.is p.there p.at in
    let high = inside.high in
    let h = high_as kit Sense p.leaf s.is p.there in
    let tall = pin.rect.tall in
    let space = s.sizes.space in
    let width = s.sizes.width in
    let q = pos_of (pitch wire) (omega (arith, ints, width.from, space.from)) in
    let step = q.is in
    let far : pos s.tracks *ℤ pitch wire ≡ pos (s.tracks * q.n) = ap (λ (z : ℤ). pos s.tracks *ℤ z) step in
    let channel = s.channel in
    let sense = s.sense in
    let column = s.column in
    let array = s.array in
    record {
      rail = λ e. omega (arith, e);
      below = subst (λ (z : ℤ). z <ℤ (fl.precharge_y -ℤ fl.write_y)) (sym (upright_low (pos 0) (fl.sense_y -ℤ fl.write_y) pin.rect)) (omega (arith, ints, high, h, tall, space.from, far, channel, sense, column, array));
    }

choice_below : (kit : Kit) (plan : Organization) (wire : Wire) (track : List ℕ) (fl : Floorplan) → IsRaised kit plan wire track fl → (k : ℕ) → k < choice_count plan.col_bits → IsOtherTap plan fl (choice_tap wire (channel_low (layout_kit kit) fl) (line_count plan.groups + 3) track k)
choice_below kit plan wire track fl s k lt =
    let each = s.each in
    let t : ℕ = slice_index track k in
    let few = s.below k t (slice_get-get_or track k 0 (omega (arith, lt, each))) in
    let space = s.sizes.space in
    let width = s.sizes.width in
    let q = pos_of (pitch wire) (omega (arith, ints, width.from, space.from)) in
    let step = q.is in
    let far : pos s.tracks *ℤ pitch wire ≡ pos (s.tracks * q.n) = ap (λ (z : ℤ). pos s.tracks *ℤ z) step in
    let near : pos t *ℤ pitch wire ≡ pos (t * q.n) = ap (λ (z : ℤ). pos t *ℤ z) step in
    let rows : (t + 1) * q.n ≤ s.tracks * q.n = mul-le (t + 1) q.n s.tracks q.n (omega (arith, few)) (omega arith) in
    let split : (t + 1) * q.n ≡ t * q.n + q.n = omega arith in
    let channel = s.channel in
    let column = s.column in
    let array = s.array in
    record {
      rail = λ e. omega (arith, e);
      below = omega (arith, ints, near, far, rows, split, step, space.from, width.from, channel, column, array);
    }

-- each tap is another, or that of the precharge cells
pub tap_cases : (kit : Kit) (plan : Organization) (wire : Wire) (track : List ℕ) (fl : Floorplan) (taps : List Tap) → IsRaised kit plan wire track fl → (are : AreBankTaps kit.leaves plan (layout_kit kit) wire fl track taps)
    → (tap : Tap) → Contains taps tap → IsOtherTap plan fl tap ⊎ (tap ≡ precharge_tap plan (layout_kit kit) fl are.precharge)
tap_cases kit plan wire track fl taps s are tap among =
    elim (Contains-append_cases are.rows (sense ∷ behind) tap (subst (λ (l : List Tap). Contains l tap) are.are among)) [
      | inl row ↦ inl (rows_below kit plan wire track fl are.rows s are.of_rows tap row)
      | inr other ↦ elim (contains_cases sense behind tap other) [
        | inl e ↦ inl (subst (IsOtherTap plan fl) (sym e) (sense_below kit plan wire track fl are.sense s are.is_sense))
        | inr rest ↦ elim (contains_cases precharge choices tap rest) [
          | inl e ↦ inr e
          | inr choice ↦
              (let t = in_tabulate (choice_count plan.col_bits) (choice_tap wire (channel_low (layout_kit kit) fl) (line_count plan.groups + 3) track) tap choice in
              inl (subst (IsOtherTap plan fl) (sym t.is) (choice_below kit plan wire track fl s t.k t.below)))
        ]
      ]
    ] where
      sense : Tap
      sense = sense_tap plan (layout_kit kit) fl are.sense

      precharge : Tap
      precharge = precharge_tap plan (layout_kit kit) fl are.precharge

      choices : List Tap
      choices = tabulate (choice_count plan.col_bits) (choice_tap wire (channel_low (layout_kit kit) fl) (line_count plan.groups + 3) track)

      behind : List Tap
      behind = precharge ∷ choices

-- the precharge cells' enable is as high as a wire is wide, and so are they at least
pub enable_high : (kit : Kit) (wire : Wire) (pin : LeafPin) → IsKit kit → kit.tech.wire ≡ Some wire → IsLeafPin kit.leaves Precharge 2 pin → wire.width ≤ℤ pos ((layout_kit kit).height Precharge)
enable_high kit wire pin is wired p =
    let up = ((in_kit kit Precharge p.leaf is p.there).pins.each 2 _ pin refl p.at).is.has.1 in
    let same : is.wire.width ≡ wire.width = ap (λ (w : Wire). w.width) (one_wire is.wire (sym is.wired ∙ wired)) in
    let inside = inside_leaf kit Precharge p.leaf 2 pin is p.there p.at in
    let low = inside.low in
    let high = inside.high in
    let h = high_as kit Precharge p.leaf is p.there in
    omega (arith, ints, up, same, low, high, h) where
      one_wire : (w : Wire) → Some w ≡ Some wire → w ≡ wire
      one_wire w e = same_Some w wire e

-- the rails at the upper side of the bank
pub rails_shown : (kit : Kit) (plan : Organization) (wire : Wire) (track : List ℕ) (fl : Floorplan) (taps : List Tap) → IsRaised kit plan wire track fl → (are : AreBankTaps kit.leaves plan (layout_kit kit) wire fl track taps)
    → shown (ends_at (upper_y (layout_kit kit) fl -ℤ fl.write_y)) (tabulate (rail_count plan) (rail_pin plan wire taps))
    ≡ cond (int_eq (are.precharge.rect.y1 +ℤ wire.width) (pos ((layout_kit kit).height Precharge))) (rail_edge wire (bank_ports plan) (line_count plan.groups + 2) ∷ []) []
rails_shown kit plan wire track fl taps s are =
    one_made (ends_at (upper_y (layout_kit kit) fl -ℤ fl.write_y)) (rail_count plan) (line_count plan.groups + 2) (rail_pin plan wire taps) (int_eq (are.precharge.rect.y1 +ℤ wire.width) (pos ((layout_kit kit).height Precharge))) (omega arith) others here where
      above : pos 0 <ℤ (fl.precharge_y -ℤ fl.write_y)
      above = s.above

      wide : wire.width ≤ℤ pos ((layout_kit kit).height Precharge)
      wide = enable_high kit wire are.precharge s.is s.wired are.is_precharge

      others : (j : ℕ) → j < rail_count plan → j ≢ line_count plan.groups + 2 → int_eq (highest_tap taps j +ℤ wire.width) (upper_y (layout_kit kit) fl -ℤ fl.write_y) ≡ false
      others j lt differ =
          let most = highest_most taps j ((fl.precharge_y -ℤ fl.write_y) -ℤ pos 1) (omega (arith, ints, above)) (λ tap h of. elim (tap_cases kit plan wire track fl taps s are tap h) [
            | inl other ↦ (let below = other.below in omega (arith, ints, below))
            | inr e ↦ absurd (differ (sym of ∙ ap (λ (x : Tap). x.rail) e))
          ]) in
          other_numbers (highest_tap taps j +ℤ wire.width) (upper_y (layout_kit kit) fl -ℤ fl.write_y) (λ e. omega (arith, ints, most, wide, e))

      at : (precharge_tap plan (layout_kit kit) fl are.precharge).y ≡ (fl.precharge_y -ℤ fl.write_y) +ℤ are.precharge.rect.y1
      at = upright_low (pos 0) (fl.precharge_y -ℤ fl.write_y) are.precharge.rect

      begins : pos 0 ≤ℤ are.precharge.rect.y1
      begins = (inside_leaf kit Precharge are.is_precharge.leaf 2 are.precharge s.is are.is_precharge.there are.is_precharge.at).low

      listed : Contains taps (precharge_tap plan (layout_kit kit) fl are.precharge)
      listed = subst (λ (l : List Tap). Contains l (precharge_tap plan (layout_kit kit) fl are.precharge)) (sym are.are)
          (Contains-append_right are.rows
          (sense_tap plan (layout_kit kit) fl are.sense ∷ precharge_tap plan (layout_kit kit) fl are.precharge ∷ tabulate (choice_count plan.col_bits) (choice_tap wire (channel_low (layout_kit kit) fl) (line_count plan.groups + 3) track))
          (precharge_tap plan (layout_kit kit) fl are.precharge)
          (contains_later (sense_tap plan (layout_kit kit) fl are.sense) (precharge_tap plan (layout_kit kit) fl are.precharge ∷ tabulate (choice_count plan.col_bits) (choice_tap wire (channel_low (layout_kit kit) fl) (line_count plan.groups + 3) track))
          (precharge_tap plan (layout_kit kit) fl are.precharge) (contains_first (precharge_tap plan (layout_kit kit) fl are.precharge) (tabulate (choice_count plan.col_bits) (choice_tap wire (channel_low (layout_kit kit) fl) (line_count plan.groups + 3) track)))))

      reached : highest_tap taps (line_count plan.groups + 2) ≡ (fl.precharge_y -ℤ fl.write_y) +ℤ are.precharge.rect.y1
      reached =
          let least = highest_least taps (line_count plan.groups + 2) (precharge_tap plan (layout_kit kit) fl are.precharge) listed refl in
          let most = highest_most taps (line_count plan.groups + 2) ((fl.precharge_y -ℤ fl.write_y) +ℤ are.precharge.rect.y1) (omega (arith, ints, above, begins)) (λ tap h of. elim (tap_cases kit plan wire track fl taps s are tap h) [
            | inl other ↦ absurd (other.rail of)
            | inr e ↦ (let y = ap (λ (x : Tap). x.y) e in omega (arith, ints, y, at))
          ]) in
          omega (arith, ints, least, most, at)

      here : int_eq (highest_tap taps (line_count plan.groups + 2) +ℤ wire.width) (upper_y (layout_kit kit) fl -ℤ fl.write_y) ≡ int_eq (are.precharge.rect.y1 +ℤ wire.width) (pos ((layout_kit kit).height Precharge))
      here = equal_moved (are.precharge.rect.y1 +ℤ wire.width) (pos ((layout_kit kit).height Precharge)) (fl.precharge_y -ℤ fl.write_y)
          (highest_tap taps (line_count plan.groups + 2) +ℤ wire.width) (upper_y (layout_kit kit) fl -ℤ fl.write_y) (let r = reached in omega (arith, ints, r)) (omega (arith, ints))
