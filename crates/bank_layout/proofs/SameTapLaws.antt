-- A bank has one list of taps.
use Rattle.std.proofs.Common.{◌≡◌, ℕ, List, ◌∷◌, ◌++◌, ap, sym, ◌∙◌}
use Rattle.std.specs.Prelude.{◌+◌, slice_get}
use Rattle.std.proofs.lemmas.Option.{same_Some}
use Rattle.or_geom.specs.declared.shape.Point.{Point}
use Rattle.cell_roles.specs.declared.role.Role.{Role}
use Rattle.wire_drawing.specs.declared.route.Tap.{Tap}
use Rattle.tech_rules.specs.declared.tech.Wire.{Wire}
use Rattle.sram_netlist.specs.Organization.{Organization, bank_rows}
use Rattle.sram_netlist.specs.InstanceList.{tabulate, tabulate_lists}
use Rattle.leaf_shapes.specs.declared.pins.LeafPin.{LeafPin}
use Rattle.leaf_tables.specs.declared.kit.Leaf.{Leaf}
use Rattle.macro_layout.specs.LayoutKit.{LayoutKit}
use Rattle.macro_layout.specs.Places.{Floorplan}
use Rattle.macro_layout.specs.Floorplan.{line_count, choice_count}
use Rattle.row_decoder.specs.RowTaps.{RowLeaves, AreRowLeaves, AreTapsOfRows, row_taps}
use Rattle.bank_layout.specs.BankTaps.{IsLeafPin, AreBankTaps, sense_tap, precharge_tap, choice_tap, channel_low}

pub same_pin : (leaves : List Leaf) (role : Role) (place : ℕ) (p q : LeafPin) → IsLeafPin leaves role place p → IsLeafPin leaves role place q → p ≡ q
same_pin leaves role place p q a b =
    let leaf = same_Some a.leaf b.leaf (sym a.there ∙ b.there) in
    same_Some p q (sym a.at ∙ (ap (λ (l : Leaf). slice_get l.pins place) leaf ∙ b.at))

same_leaves : (kit : List Leaf) (groups : List ℕ) (p q : RowLeaves) → AreRowLeaves kit groups p → AreRowLeaves kit groups q → p ≡ q
same_leaves kit groups p q a b =
    let gate = same_Some a.gate b.gate (sym a.is_gate ∙ b.is_gate) in
    let driver = same_Some a.driver b.driver (sym a.is_driver ∙ b.is_driver) in
    let inputs = a.inputs ∙ (ap (λ (l : Leaf). l.pins) gate ∙ sym b.inputs) in
    let width = a.gate_width ∙ (ap (λ (l : Leaf). l.width) gate ∙ sym b.gate_width) in
    let enable = same_Some p.enable q.enable (sym a.enable ∙ (ap (λ (l : Leaf). slice_get l.pins 1) driver ∙ b.enable)) in
    let height = same_Some p.height q.height (sym a.height ∙ b.height) in
    λ i. record { inputs = inputs i; enable = enable i; gate_width = width i; height = height i }

same_rows : (kit : List Leaf) (plan : Organization) (corner : Point) (xs ys : List Tap) → AreTapsOfRows kit plan corner xs → AreTapsOfRows kit plan corner ys → xs ≡ ys
same_rows kit plan corner xs ys a b =
    a.are ∙ (ap (λ (leaves : RowLeaves). tabulate_lists (bank_rows plan) (row_taps plan.groups leaves corner)) (same_leaves kit plan.groups a.leaves b.leaves a.of b.of) ∙ sym b.are)

-- two lists that are both the bank's taps are one
pub same_taps : (leaves : List Leaf) (plan : Organization) (kit : LayoutKit) (wire : Wire) (fl : Floorplan) (track : List ℕ) (xs ys : List Tap) → AreBankTaps leaves plan kit wire fl track xs → AreBankTaps leaves plan kit wire fl track ys → xs ≡ ys
same_taps leaves plan kit wire fl track xs ys a b =
    let rows = same_rows leaves plan _ a.rows b.rows a.of_rows b.of_rows in
    let sense = same_pin leaves _ _ a.sense b.sense a.is_sense b.is_sense in
    let precharge = same_pin leaves _ _ a.precharge b.precharge a.is_precharge b.is_precharge in
    let choices : List Tap = tabulate (choice_count plan.col_bits) (choice_tap wire (channel_low kit fl) (line_count plan.groups + 3) track) in
    a.are ∙ ((λ i. rows i ++ (sense_tap plan kit fl (sense i) ∷ precharge_tap plan kit fl (precharge i) ∷ choices)) ∙ sym b.are)
