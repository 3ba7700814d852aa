-- The taps of a bank: there is one list of them, and two are the lowest that are too close, or none are.
use Rattle.std.proofs.Common.{◌≡◌, ◌⊎◌, inl, inr, ℕ, zero, suc, ◌+◌, ◌<◌, ◌+ℤ◌, ◌-ℤ◌, ◌*◌, ◌≤◌, List, [], ◌∷◌, ◌++◌, length, Option, Some, refl, ap, arith}
use Rattle.std.specs.Prelude.{flat_map, slice_get, option_map}
use native.Mathlib.Nat.{suc-mul}
use Rattle.std.proofs.lemmas.List.{length-append}
use Rattle.std.proofs.lemmas.Nat.{mul-le}
use Rattle.or_geom.specs.declared.shape.Point.{Point}
use Rattle.cell_roles.specs.declared.role.Role.{Role}
use Rattle.cell_roles.specs.declared.role.Role.TheVariants.{Bitcell, Driver, Precharge, Sense}
use Rattle.wire_drawing.specs.declared.route.Tap.{Tap}
use Rattle.tech_rules.specs.declared.tech.Wire.{Wire}
use Rattle.wire_drawing.specs.Drawing.{pitch}
use Rattle.rail_bus.specs.Rails.{tap_ys}
use Rattle.leaf_shapes.specs.declared.pins.LeafPin.{LeafPin}
use Rattle.leaf_shapes.specs.Demands.{role_demands}
use Rattle.leaf_tables.specs.declared.kit.Leaf.{Leaf}
use Rattle.leaf_tables.specs.declared.kit.Kit.{Kit}
use Rattle.leaf_tables.specs.declared.part.PartFault.TheVariants as part_fault
use Rattle.leaf_tables.specs.Alignment.{leaf_in}
use Rattle.leaf_tables.specs.Kits.{IsKit}
use Rattle.sram_netlist.specs.Organization.{IsBuildable, Organization, bank_rows, power_of_two}
use Rattle.sram_netlist.specs.Netlist.{high_bits}
use Rattle.sram_netlist.specs.InstanceList.{numbers_from, tabulate, tabulate_lists}
use Rattle.sram_netlist.specs.Netlist.{row_gate}
use Rattle.leaf_tables.proofs.RoleLaws.{in_kit}
use Rattle.main_channel.proofs.ListLaws.{exists_in}
use Rattle.macro_layout.specs.Places.{Floorplan}
use Rattle.or_geom.specs.declared.place.Place.{Place}
use Rattle.macro_bounds.proofs.CountLaws.{numbers_long, tabulate_long, three_groups}
use Rattle.macro_layout.specs.Floorplan.{choice_count, line_count}
use Rattle.floorplan.specs.LayoutOfKit.{layout_kit}
use Rattle.port_data.proofs.KitLaws.{leaf_exists}
use Rattle.row_decoder.specs.RowTaps.{AreRowLeaves, RowLeaves, corner_at, input_taps, pin_tap, row_leaves_of, row_place, row_taps}
use Rattle.bank_layout.specs.BankTaps.{AreBankTaps, AreTapsApart, IsBankFault, IsLeafPin, channel_low, choice_tap, precharge_tap, sense_tap}
use Rattle.bank_layout.proofs.SameTapLaws.{same_taps}
use Rattle.channel_answers.specs.Answers.{CloseNumbersAreFound}
use Rattle.macro_answers.specs.Answers.{HasPartFault}

-- a pin that a role asks for
leaf_pin : (kit : Kit) → IsKit kit → (role : Role) (leaf : Leaf) → leaf_in kit.leaves role ≡ Some leaf → (place : ℕ)
    → place < length (role_demands role) → (pin : LeafPin) × (slice_get leaf.pins place ≡ Some pin)
leaf_pin kit is role leaf there place lt =
    let sized = (in_kit kit role leaf is there).pins.sized in
    exists_in leaf.pins place (omega (arith, sized, lt))

pub pin_there : (kit : Kit) → IsKit kit → (role : Role) (place : ℕ) → place < length (role_demands role)
    → (pin : LeafPin) × IsLeafPin kit.leaves role place pin
pin_there kit is role place lt =
    let leaf = leaf_exists kit is role in
    let pin = leaf_pin kit is role leaf.0 leaf.1 place lt in
    (pin.0, record { leaf = leaf.0; there = leaf.1; at = pin.1 })

rows_there : (kit : Kit) → IsKit kit → (groups : List ℕ) → (leaves : RowLeaves) × AreRowLeaves kit.leaves groups leaves
rows_there kit is groups =
    let gate = leaf_exists kit is (row_gate groups) in
    let driver = leaf_exists kit is Driver in
    let bit = leaf_exists kit is Bitcell in
    let enable = leaf_pin kit is Driver driver.0 driver.1 1 (omega arith) in (
      row_leaves_of gate.0 enable.0 bit.0.height,
      record {
        gate = gate.0;
        is_gate = gate.1;
        inputs = refl;
        gate_width = refl;
        driver = driver.0;
        is_driver = driver.1;
        enable = enable.1;
        height = ap (λ (found : Option Leaf). option_map (λ (l : Leaf). l.height) found) bit.1;
      },
    )

pub taps_there : (kit : Kit) (plan : Organization) (wire : Wire) (floorplan : Floorplan) (track : List ℕ) → IsKit kit
    → (taps : List Tap) × AreBankTaps kit.leaves plan (layout_kit kit) wire floorplan track taps
taps_there kit plan wire floorplan track is =
    let leaves = rows_there kit is plan.groups in
    let rows = tabulate_lists (bank_rows plan) (row_taps plan.groups leaves.0 (corner_at floorplan.row_x (floorplan.array_y -ℤ floorplan.write_y))) in
    let sense = pin_there kit is Sense 3 (omega arith) in
    let precharge = pin_there kit is Precharge 2 (omega arith) in (
      rows ++ (sense_tap plan (layout_kit kit) floorplan sense.0 ∷ precharge_tap plan (layout_kit kit) floorplan precharge.0
          ∷ tabulate (choice_count plan.col_bits) (choice_tap wire (channel_low (layout_kit kit) floorplan) (line_count plan.groups + 3) track)),
      record {
        rows = rows;
        of_rows = record { leaves = leaves.0; of = leaves.1; are = refl };
        sense = sense.0;
        is_sense = sense.1;
        precharge = precharge.0;
        is_precharge = precharge.1;
        are = refl;
      },
    )

-- Taps are few.

inputs_short : (place : Place) (pins : List LeafPin) (groups : List ℕ) (rail r : ℕ) → length (input_taps place pins groups rail r) ≤ length groups
inputs_short place pins [] rail r = omega arith
inputs_short place [] (b ∷ bs) rail r = omega arith
inputs_short place (p ∷ ps) (b ∷ bs) rail r = let less = inputs_short place ps bs (rail + power_of_two b) (high_bits b r) in omega (arith, less)

flat_short : {X : Type 0} (k : ℕ) (f : ℕ → List X) (ks : List ℕ) → ((n : ℕ) → length (f n) ≤ k) → length (flat_map f ks) ≤ length ks * k
flat_short k f [] each = omega arith
flat_short k f (n ∷ ns) each =
    let long = length-append (f n) (flat_map f ns) in
    let first = each n in
    let rest = flat_short k f ns each in
    let more = suc-mul (length ns) k in
    omega (arith, long, first, rest, more)

choices_few : (b : ℕ) → b ≤ 3 → choice_count b ≤ 8
choices_few zero few = omega arith
choices_few (suc zero) few = omega arith
choices_few (suc (suc zero)) few = omega arith
choices_few (suc (suc (suc zero))) few = omega arith
choices_few (suc (suc (suc (suc b)))) few = absurd (omega (arith, few))

row_short : (groups : List ℕ) (leaves : RowLeaves) (corner : Point) (r : ℕ) → length groups ≤ 3 → length (row_taps groups leaves corner r) ≤ 4
row_short groups leaves corner r few =
    let place = row_place leaves.height corner r in
    let enable = pin_tap (line_count groups) (row_place leaves.height (corner_at (corner.x +ℤ leaves.gate_width) corner.y) r) leaves.enable in
    let long = length-append (input_taps place leaves.inputs groups 0 r) (enable ∷ []) in
    let less = inputs_short place leaves.inputs groups 0 r in
    omega (arith, long, less, few)

pub taps_few : (kit : Kit) (plan : Organization) (wire : Wire) (floorplan : Floorplan) (track : List ℕ) (taps : List Tap) → IsBuildable plan
    → AreBankTaps kit.leaves plan (layout_kit kit) wire floorplan track taps → length taps ≤ 2000
taps_few kit plan wire floorplan track taps built are =
    let corner = corner_at floorplan.row_x (floorplan.array_y -ℤ floorplan.write_y) in
    let leaves = are.of_rows.leaves in
    let rows = flat_short 4 (row_taps plan.groups leaves corner) (numbers_from 0 (bank_rows plan)) (λ r. row_short plan.groups leaves corner r (three_groups plan.groups built.groups)) in
    let count = numbers_long 0 (bank_rows plan) in
    let most = built.rows in
    let rows_are = ap length are.of_rows.are in
    let choices = tabulate_long (choice_count plan.col_bits) (choice_tap wire (channel_low (layout_kit kit) floorplan) (line_count plan.groups + 3) track) in
    let eight = choices_few plan.col_bits built.choices in
    let all = ap length are.are in
    let long = length-append are.rows (sense_tap plan (layout_kit kit) floorplan are.sense ∷ precharge_tap plan (layout_kit kit) floorplan are.precharge
    ∷ tabulate (choice_count plan.col_bits) (choice_tap wire (channel_low (layout_kit kit) floorplan) (line_count plan.groups + 3) track)) in
    let product : length (numbers_from 0 (bank_rows plan)) * 4 ≤ 256 * 4 = mul-le (length (numbers_from 0 (bank_rows plan))) 4 256 4 (omega (arith, count, most)) (omega arith) in
    omega (arith, all, long, rows_are, rows, product, choices, eight)

pub tap_answers : CloseNumbersAreFound → (kit : Kit) (plan : Organization) (wire : Wire) (floorplan : Floorplan) (track : List ℕ) → IsKit kit
    → AreTapsApart kit.leaves plan (layout_kit kit) wire floorplan track ⊎ HasPartFault (IsBankFault kit.leaves plan (layout_kit kit) wire floorplan track)
tap_answers closes kit plan wire floorplan track is =
    let found = taps_there kit plan wire floorplan track is in
    let taps = found.0 in
    elim (closes (pitch wire) (tap_ys taps)) [
      | inl none ↦ inl (record {
        taps = taps;
        are = found.1;
        only = λ other are. same_taps kit.leaves plan (layout_kit kit) wire floorplan track other taps are found.1;
        apart = none;
      })
      | inr close ↦ inr (record { fault = part_fault.TapsClose close.0 close.1; real = λ e. absurd cc; is = record { taps = taps; are = found.1; close = close.2 } })
    ]
