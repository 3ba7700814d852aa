-- Each stated tap of a bank is listed, so that the list has exactly the stated ones.
use Rattle.std.proofs.Common.{◌≡◌, ◌⊎◌, inl, inr, ℕ, zero, suc, ◌+◌, ◌-◌, ◌<◌, ℤ, ◌+ℤ◌, ◌-ℤ◌, List, [], ◌∷◌, ◌++◌, length, Some, refl, ap, sym, subst, ◌∙◌, arith}
use Rattle.std.specs.Prelude.{Contains, slice_get, slice_index}
use Rattle.std.proofs.lemmas.Int.{ints}
use Rattle.std.proofs.lemmas.Option.{same_Some, slice_get-get_or, slice_get_within}
use Rattle.std.proofs.lemmas.List.Elements.{Contains-append_left, Contains-append_right}
use Rattle.or_geom.specs.declared.shape.Point.{Point}
use Rattle.or_geom.specs.declared.place.Place.{Place}
use Rattle.or_geom.proofs.ListLaws.{contains_first, contains_later}
use Rattle.cell_roles.specs.declared.role.Role.TheVariants.{Driver, Sense, Precharge}
use Rattle.wire_drawing.specs.declared.route.Tap.{Tap}
use Rattle.tech_rules.specs.declared.tech.Wire.{Wire}
use Rattle.tech_rules.specs.Facts.{AreSizes}
use Rattle.channel_router.specs.declared.channel.Routed.{Routed}
use Rattle.channel_router.specs.Wires.{channel_height}
use Rattle.sram_netlist.specs.Organization.{Organization, bank_rows, columns_of}
use Rattle.sram_netlist.specs.Nets.{Net, Zb}
use Rattle.sram_netlist.specs.Instances.{NandAt, DriverAt, SenseAt, PrechargeAt}
use Rattle.sram_netlist.specs.Netlist.{row_gate, row_lines, ports, supply_nets}
use Rattle.sram_netlist.specs.InstanceList.{tabulate}
use Rattle.leaf_shapes.specs.declared.pins.LeafPin.{LeafPin}
use Rattle.leaf_shapes.proofs.PinLaws.{exists_at}
use Rattle.leaf_tables.specs.declared.kit.Kit.{Kit}
use Rattle.macro_layout.specs.Places.{Floorplan, upright, in_row_at, bank_x}
use Rattle.macro_layout.specs.Floorplan.{line_count, choice_count, rail_count, rail_x}
use Rattle.macro_layout.specs.Pins.{choice_nets, rail_nets}
use Rattle.macro_layout.specs.Wires.{IsPinTap, IsChoiceTap, IsTapOfNet, IsTapAt}
use Rattle.macro_layout.specs.RailLists.{HasTap, AreRailLists}
use Rattle.floorplan.specs.LayoutOfKit.{layout_kit}
use Rattle.row_decoder.specs.RowTaps.{AreTapsOfRows, corner_at, pin_tap, row_place, input_taps, row_taps}
use Rattle.leaf_tables.proofs.RoleLaws.{pins_in_kit}
use Rattle.row_decoder.proofs.TapLaws.{enough_inputs}
use Rattle.bank_layout.specs.BankTaps.{IsLeafPin, sense_tap, precharge_tap, choice_tap, channel_low, AreBankTaps}
use Rattle.bank_layout.proofs.ListLaws.{tabulate_has, at_tabulated, tabulated_at, lists_have}
use Rattle.bank_layout.proofs.LineLaws.{line_at, input_in}
use Rattle.bank_layout.proofs.GoodLaws.{rail_before}
use Rattle.bank_layout.proofs.NetLaws.{split_at, others, one_rail}
use Rattle.bank_layout.proofs.PinTapLaws.{gate_input, sense_enable, precharge_enable}
use Rattle.bank_layout.proofs.RailNetLaws.{on_rail, choices_long, rails_long, rows_long, line_rail, other_rail, gate_off, driver_port, sense_port, precharge_port}
use Rattle.bank_layout.proofs.RailListLaws.{IsTapSite, IsTapOfRail, IsTapAmong, IsLower, row_lower, upright_lower, first_bank, row_high, back_of_pin, driver_low, driver_high, driver_down, driver_pinned, sense_x, precharge_x, taps_there}

-- the tap of a pin is listed, for the tap that lies so
among_pins : (taps : List Tap) (rail number : ℕ) (place : Place) (pin : LeafPin) (y end : ℤ) → Contains taps (pin_tap number place pin) → number ≡ rail → ((pin_tap number place pin).y ≡ y) × ((pin_tap number place pin).end ≡ end) → IsTapAmong taps rail y end
among_pins taps rail number place pin y end listed same lies = record { tap = pin_tap number place pin; listed = listed; of_rail = same; at = lies.0; ends = lies.1 }

gate_back : (kit : Kit) (plan : Organization) (wire : Wire) (fl : Floorplan) (routed : Routed) → IsTapSite kit plan wire fl routed → (rows : List Tap) → AreTapsOfRows kit.leaves plan (corner_at fl.row_x (fl.array_y -ℤ fl.write_y)) rows
    → (rail : ℕ) (net : Net) (r : ℕ) (y end : ℤ) → slice_get (rail_nets plan 0) rail ≡ Some net → IsPinTap plan (layout_kit kit) fl (NandAt 0 r) net y end → IsTapAmong rows rail (y -ℤ fl.write_y) end
gate_back kit plan wire fl routed s rows are rail net r y end on t = elim (split_at (row_lines plan.groups plan.col_bits r) (Zb 0 r ∷ supply_nets) t.port net t.pin.on) [
  | inl line ↦ of_line line
  | inr other ↦ absurd (gate_off r other.k net other.at (on_rail plan rail net on))
] where
  corner : Point
  corner = corner_at fl.row_x (fl.array_y -ℤ fl.write_y)

  low : Place
  low = row_place are.leaves.height corner r

  high : Place
  high = in_row_at (layout_kit kit) fl.array_y r (bank_x fl 0 fl.row_x)

  of_pin : slice_get (row_lines plan.groups plan.col_bits r) t.port ≡ Some net → t.port < length plan.groups → (pin : LeafPin) → slice_get are.leaves.inputs t.port ≡ Some pin → IsTapAmong rows rail (y -ℤ fl.write_y) end
  of_pin line below pin at =
      let leaf_pin : IsLeafPin kit.leaves (row_gate plan.groups) t.port pin = record { leaf = are.of.gate; there = are.of.is_gate; at = subst (λ (l : List LeafPin). slice_get l t.port ≡ Some pin) are.of.inputs at } in
      let pinned = gate_input kit wire plan.groups t.port pin s.site.is s.wired s.site.built.groups below leaf_pin in
      let down : IsLower low high fl.write_y pin.rect = row_lower (layout_kit kit) fl are.leaves.height fl.row_x (bank_x fl 0 fl.row_x) r pin.rect (row_high kit plan.groups are.leaves s.site.is are.of) (first_bank fl fl.row_x) in
      let tap = pin_tap (line_at plan.groups 0 r t.port) low pin in
      among_pins rows rail (line_at plan.groups 0 r t.port) low pin (y -ℤ fl.write_y) end
      (subst (λ (l : List Tap). Contains l tap) (sym are.are) (lists_have (bank_rows plan) (row_taps plan.groups are.leaves corner) r tap t.pin.has.1
      (Contains-append_left (input_taps low are.leaves.inputs plan.groups 0 r) _ tap (input_in low are.leaves.inputs plan.groups 0 r t.port pin below at))))
      (one_rail plan (line_at plan.groups 0 r t.port) rail net s.site.built (line_rail plan r t.port below ∙ line) on)
      (back_of_pin kit plan fl (NandAt 0 r) net y end low high pin t t.pin.stands pinned down)

  of_line : slice_get (row_lines plan.groups plan.col_bits r) t.port ≡ Some net → IsTapAmong rows rail (y -ℤ fl.write_y) end
  of_line line =
      let within = slice_get_within (row_lines plan.groups plan.col_bits r) t.port net line in
      let long = rows_long plan.groups plan.col_bits r in
      let enough = enough_inputs plan.groups s.site.built.groups in
      let sized = pins_in_kit kit (row_gate plan.groups) are.of.gate s.site.is are.of.is_gate in
      let same = ap length are.of.inputs in
      let pin = exists_at are.leaves.inputs t.port (omega (arith, within, long, enough, sized, same)) in
      of_pin line (omega (arith, within, long)) pin.0 pin.1

driver_back : (kit : Kit) (plan : Organization) (wire : Wire) (fl : Floorplan) (routed : Routed) → IsTapSite kit plan wire fl routed → (rows : List Tap) → AreTapsOfRows kit.leaves plan (corner_at fl.row_x (fl.array_y -ℤ fl.write_y)) rows
    → (rail : ℕ) (net : Net) (r : ℕ) (y end : ℤ) → slice_get (rail_nets plan 0) rail ≡ Some net → IsPinTap plan (layout_kit kit) fl (DriverAt 0 r) net y end → IsTapAmong rows rail (y -ℤ fl.write_y) end
driver_back kit plan wire fl routed s rows are rail net r y end on t =
    let corner = corner_at fl.row_x (fl.array_y -ℤ fl.write_y) in
    let port = driver_port plan r t.port net t.pin.on (on_rail plan rail net on) in
    let carried : slice_get (ports plan (DriverAt 0 r)) 1 ≡ Some net = subst (λ (k : ℕ). slice_get (ports plan (DriverAt 0 r)) k ≡ Some net) port t.pin.on in
    let pinned = ap (λ (k : ℕ). (layout_kit kit).pin Driver k 2) port ∙ driver_pinned kit plan wire are.leaves s.site.is s.wired are.of in
    let low = driver_low fl are.leaves r in
    let tap = pin_tap (line_count plan.groups) low are.leaves.enable in
    among_pins rows rail (line_count plan.groups) low are.leaves.enable (y -ℤ fl.write_y) end
    (subst (λ (l : List Tap). Contains l tap) (sym are.are) (lists_have (bank_rows plan) (row_taps plan.groups are.leaves corner) r tap t.pin.has.1
    (Contains-append_right (input_taps (row_place are.leaves.height corner r) are.leaves.inputs plan.groups 0 r) (tap ∷ []) tap (contains_first tap []))))
    (one_rail plan (line_count plan.groups) rail net s.site.built (other_rail plan 0 (line_count plan.groups) (omega arith) ∙ carried) on)
    (back_of_pin kit plan fl (DriverAt 0 r) net y end low (driver_high plan (layout_kit kit) fl r) are.leaves.enable t t.pin.stands pinned (driver_down kit plan fl are.leaves r s.site.is are.of))

-- the one before
pred_of : (i n : ℕ) → i + 1 ≡ n → i ≡ n - 1
pred_of i n e = omega (arith, e)

sense_back : (kit : Kit) (plan : Organization) (wire : Wire) (fl : Floorplan) (routed : Routed) → IsTapSite kit plan wire fl routed → (pin : LeafPin) → IsLeafPin kit.leaves Sense 3 pin → (taps : List Tap) → Contains taps (sense_tap plan (layout_kit kit) fl pin)
    → (rail : ℕ) (net : Net) (i : ℕ) (y end : ℤ) → i ≡ plan.word_size - 1 → slice_get (rail_nets plan 0) rail ≡ Some net → IsPinTap plan (layout_kit kit) fl (SenseAt 0 i) net y end → IsTapAmong taps rail (y -ℤ fl.write_y) end
sense_back kit plan wire fl routed s pin is taps listed rail net i y end last on t =
    let of : IsPinTap plan (layout_kit kit) fl (SenseAt 0 (plan.word_size - 1)) net y end = subst (λ (k : ℕ). IsPinTap plan (layout_kit kit) fl (SenseAt 0 k) net y end) last t in
    let port = sense_port plan (plan.word_size - 1) of.port net of.pin.on (on_rail plan rail net on) in
    let carried : slice_get (ports plan (SenseAt 0 (plan.word_size - 1))) 3 ≡ Some net = subst (λ (k : ℕ). slice_get (ports plan (SenseAt 0 (plan.word_size - 1))) k ≡ Some net) port of.pin.on in
    let pinned = ap (λ (k : ℕ). (layout_kit kit).pin Sense k 2) port ∙ sense_enable kit wire pin s.site.is s.wired is in
    let x = sense_x plan (layout_kit kit) fl in
    among_pins taps rail (line_count plan.groups + 1) (upright x (fl.sense_y -ℤ fl.write_y)) pin (y -ℤ fl.write_y) end listed
    (one_rail plan (line_count plan.groups + 1) rail net s.site.built (other_rail plan 1 (line_count plan.groups + 1) refl ∙ carried) on)
    (back_of_pin kit plan fl (SenseAt 0 (plan.word_size - 1)) net y end (upright x (fl.sense_y -ℤ fl.write_y)) (upright (bank_x fl 0 x) fl.sense_y) pin of of.pin.stands pinned (upright_lower x fl.sense_y (bank_x fl 0 x) fl.write_y pin.rect (first_bank fl x)))

precharge_back : (kit : Kit) (plan : Organization) (wire : Wire) (fl : Floorplan) (routed : Routed) → IsTapSite kit plan wire fl routed → (pin : LeafPin) → IsLeafPin kit.leaves Precharge 2 pin → (taps : List Tap) → Contains taps (precharge_tap plan (layout_kit kit) fl pin)
    → (rail : ℕ) (net : Net) (c : ℕ) (y end : ℤ) → c ≡ columns_of plan - 1 → slice_get (rail_nets plan 0) rail ≡ Some net → IsPinTap plan (layout_kit kit) fl (PrechargeAt 0 c) net y end → IsTapAmong taps rail (y -ℤ fl.write_y) end
precharge_back kit plan wire fl routed s pin is taps listed rail net c y end last on t =
    let of : IsPinTap plan (layout_kit kit) fl (PrechargeAt 0 (columns_of plan - 1)) net y end = subst (λ (k : ℕ). IsPinTap plan (layout_kit kit) fl (PrechargeAt 0 k) net y end) last t in
    let port = precharge_port plan (columns_of plan - 1) of.port net of.pin.on (on_rail plan rail net on) in
    let carried : slice_get (ports plan (PrechargeAt 0 (columns_of plan - 1))) 2 ≡ Some net = subst (λ (k : ℕ). slice_get (ports plan (PrechargeAt 0 (columns_of plan - 1))) k ≡ Some net) port of.pin.on in
    let pinned = ap (λ (k : ℕ). (layout_kit kit).pin Precharge k 2) port ∙ precharge_enable kit wire pin s.site.is s.wired is in
    let x = precharge_x plan (layout_kit kit) fl in
    among_pins taps rail (line_count plan.groups + 2) (upright x (fl.precharge_y -ℤ fl.write_y)) pin (y -ℤ fl.write_y) end listed
    (one_rail plan (line_count plan.groups + 2) rail net s.site.built (other_rail plan 2 (line_count plan.groups + 2) refl ∙ carried) on)
    (back_of_pin kit plan fl (PrechargeAt 0 (columns_of plan - 1)) net y end (upright x (fl.precharge_y -ℤ fl.write_y)) (upright (bank_x fl 0 x) fl.precharge_y) pin of of.pin.stands pinned (upright_lower x fl.precharge_y (bank_x fl 0 x) fl.write_y pin.rect (first_bank fl x)))

choice_back : (kit : Kit) (plan : Organization) (wire : Wire) (fl : Floorplan) (routed : Routed) → IsTapSite kit plan wire fl routed → (rail : ℕ) (net : Net) (y end : ℤ) → slice_get (rail_nets plan 0) rail ≡ Some net → IsChoiceTap plan (layout_kit kit) wire routed.tracks fl net (rail_x wire rail) y end
    → IsTapAmong (tabulate (choice_count plan.col_bits) (choice_tap wire (channel_low (layout_kit kit) fl) (line_count plan.groups + 3) routed.track)) rail (y -ℤ fl.write_y) end
choice_back kit plan wire fl routed s rail net y end on c =
    let first = line_count plan.groups + 3 in
    let low = channel_low (layout_kit kit) fl in
    let long = choices_long plan.col_bits in
    let within = slice_get_within (choice_nets plan.col_bits) c.number net c.choice in
    let below : c.number < choice_count plan.col_bits = omega (arith, long, within) in
    let trunk = (s.column.trunks c.number y).0 c.trunk in
    let each = s.site.tracks.each in
    let track : slice_index routed.track c.number ≡ trunk.0 = same_Some (slice_index routed.track c.number) trunk.0 (sym (slice_get-get_or routed.track c.number 0 (omega (arith, below, each))) ∙ trunk.1) in
    let high = ap (λ (t : ℕ). channel_height wire t) track in
    let at = trunk.2 in
    let same = one_rail plan (first + c.number) rail net s.site.built (other_rail plan (suc (suc (suc c.number))) (first + c.number) (omega arith) ∙ c.choice) on in
    record {
      tap = choice_tap wire low first routed.track c.number;
      listed = tabulate_has (choice_count plan.col_bits) (choice_tap wire low first routed.track) c.number below;
      of_rail = same;
      at = omega (arith, ints, high, at);
      ends = ap (λ (n : ℕ). rail_x wire n +ℤ wire.width) same ∙ sym c.ends;
    }

in_front_part : (xs ys : List Tap) (rail : ℕ) (y end : ℤ) → IsTapAmong xs rail y end → IsTapAmong (xs ++ ys) rail y end
in_front_part xs ys rail y end t = record { tap = t.tap; listed = Contains-append_left xs ys t.tap t.listed; of_rail = t.of_rail; at = t.at; ends = t.ends }

behind_part : (xs ys : List Tap) (rail : ℕ) (y end : ℤ) → IsTapAmong ys rail y end → IsTapAmong (xs ++ ys) rail y end
behind_part xs ys rail y end t = record { tap = t.tap; listed = Contains-append_right xs ys t.tap t.listed; of_rail = t.of_rail; at = t.at; ends = t.ends }

-- each stated tap is listed
taps_back : (kit : Kit) (plan : Organization) (wire : Wire) (fl : Floorplan) (routed : Routed) (taps : List Tap) → IsTapSite kit plan wire fl routed → AreBankTaps kit.leaves plan (layout_kit kit) wire fl routed.track taps
    → (rail : ℕ) (y end : ℤ) → IsTapOfRail plan (layout_kit kit) wire routed.tracks fl rail y end → IsTapAmong taps rail (y -ℤ fl.write_y) end
taps_back kit plan wire fl routed taps s are rail y end t = subst (λ (l : List Tap). IsTapAmong l rail (y -ℤ fl.write_y) end) (sym are.are) (elim t.tap [
  | inl gate ↦ in_front_part are.rows later rail (y -ℤ fl.write_y) end (gate_back kit plan wire fl routed s are.rows are.of_rows rail t.net gate.0 y end t.on gate.1)
  | inr rest ↦ elim rest [
    | inl driver ↦ in_front_part are.rows later rail (y -ℤ fl.write_y) end (driver_back kit plan wire fl routed s are.rows are.of_rows rail t.net driver.0 y end t.on driver.1)
    | inr more ↦ behind_part are.rows later rail (y -ℤ fl.write_y) end (elim more [
      | inl last ↦ sense_back kit plan wire fl routed s are.sense are.is_sense later (contains_first sense (precharge ∷ choices)) rail t.net last.0 y end (pred_of last.0 plan.word_size last.1) t.on last.2
      | inr others ↦ elim others [
        | inl last ↦ precharge_back kit plan wire fl routed s are.precharge are.is_precharge later (contains_later sense (precharge ∷ choices) precharge (contains_first precharge choices)) rail t.net last.0 y end (pred_of last.0 (columns_of plan) last.1) t.on last.2
        | inr choice ↦ behind_part (sense ∷ precharge ∷ []) choices rail (y -ℤ fl.write_y) end (choice_back kit plan wire fl routed s rail t.net y end t.on choice)
      ]
    ])
  ]
]) where
  sense : Tap
  sense = sense_tap plan (layout_kit kit) fl are.sense

  precharge : Tap
  precharge = precharge_tap plan (layout_kit kit) fl are.precharge

  choices : List Tap
  choices = tabulate (choice_count plan.col_bits) (choice_tap wire (channel_low (layout_kit kit) fl) (line_count plan.groups + 3) routed.track)

  later : List Tap
  later = sense ∷ precharge ∷ choices

-- Rails stand at different places.
rails_differ : (wire : Wire) (n : ℕ) → AreSizes wire → (i j : ℕ) (x : ℤ) → slice_get (tabulate n (rail_x wire)) i ≡ Some x → slice_get (tabulate n (rail_x wire)) j ≡ Some x → i ≡ j
rails_differ wire n sizes i j x e f = same (at_tabulated n (rail_x wire) i x e) (at_tabulated n (rail_x wire) j x f) (compare i j) where
  apart : (a b : ℕ) → a < b → x ≡ rail_x wire a → x ≡ rail_x wire b → ⊥
  apart a b lt here there = let before = rail_before wire a b sizes lt in let from = sizes.width.from in omega (arith, ints, before, from, here, there)

  compare : (a b : ℕ) → (a ≡ b) ⊎ ((a < b) ⊎ (b < a))
  compare zero zero = inl refl
  compare zero (suc b) = inr (inl (omega arith))
  compare (suc a) zero = inr (inr (omega arith))
  compare (suc a) (suc b) = elim (compare a b) [ inl e ↦ inl (ap suc e) | inr other ↦ elim other [ inl lt ↦ inr (inl (omega (arith, lt))) | inr lt ↦ inr (inr (omega (arith, lt))) ] ]

  same : x ≡ rail_x wire i → x ≡ rail_x wire j → (i ≡ j) ⊎ ((i < j) ⊎ (j < i)) → i ≡ j
  same here there (inl e) = e
  same here there (inr (inl lt)) = absurd (apart i j lt here there)
  same here there (inr (inr lt)) = absurd (apart j i lt there here)

-- the bank's list of taps has exactly the stated ones
pub are_rail_lists : (kit : Kit) (plan : Organization) (wire : Wire) (fl : Floorplan) (routed : Routed) (taps : List Tap) → IsTapSite kit plan wire fl routed → AreBankTaps kit.leaves plan (layout_kit kit) wire fl routed.track taps
    → AreRailLists plan (layout_kit kit) wire routed.tracks fl (tabulate (rail_count plan) (rail_x wire)) taps
are_rail_lists kit plan wire fl routed taps s are = record { differ = rails_differ wire (rail_count plan) s.site.sizes; taps = λ x y end. (there x y end, back x y end) } where
  xs : List ℤ
  xs = tabulate (rail_count plan) (rail_x wire)

  there : (x y end : ℤ) → HasTap xs taps x (y -ℤ fl.write_y) end → IsTapAt plan (layout_kit kit) wire routed.tracks fl x y end
  there x y end h =
      let of = taps_there kit plan wire fl routed taps s are h.tap h.listed y h.at_y in
      let at = at_tabulated (rail_count plan) (rail_x wire) h.tap.rail x h.at_x in
      record {
        net = of.net;
        rail = record { rail = h.tap.rail; on = of.on; at = at ∙ sym (first_bank fl (rail_x wire h.tap.rail)) };
        tap = subst (λ (z : ℤ). IsTapOfNet plan (layout_kit kit) wire routed.tracks fl of.net z y end) (sym at) (subst (λ (e : ℤ). IsTapOfNet plan (layout_kit kit) wire routed.tracks fl of.net (rail_x wire h.tap.rail) y e) h.ends of.tap);
      }

  back : (x y end : ℤ) → IsTapAt plan (layout_kit kit) wire routed.tracks fl x y end → HasTap xs taps x (y -ℤ fl.write_y) end
  back x y end t =
      let rail = t.rail.rail in
      let at : x ≡ rail_x wire rail = t.rail.at ∙ first_bank fl (rail_x wire rail) in
      let of = taps_back kit plan wire fl routed taps s are rail y end (record { net = t.net; on = t.rail.on; tap = subst (λ (z : ℤ). IsTapOfNet plan (layout_kit kit) wire routed.tracks fl t.net z y end) at t.tap }) in
      let within = slice_get_within (rail_nets plan 0) rail t.net t.rail.on in
      let long = rails_long plan in
      let stands = tabulated_at (rail_count plan) (rail_x wire) rail (omega (arith, within, long)) in
      record {
        tap = of.tap;
        listed = of.listed;
        at_x = subst (λ (k : ℕ). slice_get xs k ≡ Some x) (sym of.of_rail) (stands ∙ ap Some (sym at));
        at_y = of.at;
        ends = of.ends;
      }
