-- The edges that are listed are those of the bank's pins.
use Rattle.std.proofs.Common.{◌≡◌, ℕ, ◌+◌, ◌*◌, ℤ, pos, ◌+ℤ◌, ◌-ℤ◌, ◌≤ℤ◌, ◌<ℤ◌, List, [], ◌∷◌, ◌++◌, map, Bool, true, false, cond, refl, ap, sym, subst, ◌∙◌, arith}
use Rattle.std.specs.Prelude.{IsPermutation}
use Rattle.std.specs.List.{AllByRecursion, filter}
use Rattle.std.specs.Ordering.{int_eq}
use Rattle.std.proofs.lemmas.Int.{ints}
use Rattle.std.proofs.lemmas.List.{append-nil}
use Rattle.std.proofs.lemmas.List.Sorted.{IsPermutation-map, IsPermutation-append_right, IsPermutation-trans, All-permutation}
use Rattle.std.proofs.lemmas.List.Elements.{All-from_recursion, recursion_from_All}
use Rattle.or_geom.specs.Distance.{IsNear}
use Rattle.cell_roles.specs.declared.role.Role.TheVariants.{Precharge, Sense}
use Rattle.wire_drawing.specs.declared.route.Tap.{Tap}
use Rattle.tech_rules.specs.declared.tech.Wire.{Wire}
use Rattle.sram_netlist.specs.Organization.{Organization, inputs_of, bank_rows, words_per_row}
use Rattle.sram_netlist.specs.InstanceList.{tabulate}
use Rattle.sram_deck.specs.Deck.{bank_ports}
use Rattle.leaf_shapes.specs.declared.pins.LeafPin.{LeafPin}
use Rattle.leaf_tables.specs.declared.kit.Kit.{Kit}
use Rattle.leaf_tables.specs.declared.part.Edge.{Edge}
use Rattle.leaf_tables.specs.declared.part.Edges.{Edges}
use Rattle.macro_layout.specs.Places.{Floorplan, bit_height, bit_width, columns_x}
use Rattle.macro_layout.specs.Floorplan.{line_count, rail_count, upper_y}
use Rattle.floorplan.specs.LayoutOfKit.{layout_kit}
use Rattle.part_edges.specs.declared.side.PartSide.TheVariants.{Upper}
use Rattle.part_edges.specs.PartPins.{PartPin, edge_of, edges_at, meets, ends_at, begins_at, AreInOrder, AreEdgesOf}
use Rattle.part_edges.proofs.PinLaws.{equal_numbers, other_numbers}
use Rattle.bitcell_array.specs.ArrayPart.{array_pins}
use Rattle.port_data.specs.DataPart.{data_pins}
use Rattle.bank_layout.specs.BankTaps.{IsLeafPin, AreBankTaps}
use Rattle.bank_layout.specs.BankPart.{pin_moved, rail_pin, output_pin, pre_pins}
use Rattle.bank_layout.specs.BankEdges.{rail_edge, output_edge, edge_moved, AddsClockEdge, AreBankEdges}
use Rattle.bank_layout.proofs.SameTapLaws.{same_pin}
use Rattle.bank_layout.proofs.ShownLaws.{shown, shown_append, none_shown, moved_shown, all_moved, all_as, all_shown, none_made, equal_moved}
use Rattle.bank_layout.proofs.WithinLaws.{IsPinWithin, AreNarrow, AreStacked, pre_within, data_within, array_within}
use Rattle.bank_layout.proofs.HighestLaws.{IsRaised, enable_high, rails_shown}

-- a bank that is drawn of a kit, its taps, and the sense cells' output
pub record IsDrawnBank (kit : Kit) (plan : Organization) (wire : Wire) (track : List ℕ) (fl : Floorplan) (taps : List Tap) (sense : LeafPin) : Type 0 where
  pub raised : IsRaised kit plan wire track fl
  pub narrow : AreNarrow kit plan
  pub stacked : AreStacked (layout_kit kit) plan fl
  pub of_taps : AreBankTaps kit.leaves plan (layout_kit kit) wire fl track taps
  pub is_sense : IsLeafPin kit.leaves Sense 2 sense

-- its pins
abbrev pub pins_of : Kit → Organization → Wire → Floorplan → List ℕ → List Tap → LeafPin → List PartPin
pins_of kit plan wire fl n taps sense =
    tabulate (rail_count plan) (rail_pin plan wire taps)
    ++ (tabulate (inputs_of plan) (output_pin plan (layout_kit kit) fl sense)
    ++ (map (pin_moved (columns_x plan (layout_kit kit) fl) (pos 0)) (data_pins kit plan fl n)
    ++ (map (pin_moved (columns_x plan (layout_kit kit) fl) (fl.precharge_y -ℤ fl.write_y)) (pre_pins kit plan n)
    ++ map (pin_moved fl.row_x (fl.array_y -ℤ fl.write_y)) (array_pins kit plan))))

five_shown : (q : PartPin → Bool) (r o d p a : List PartPin) → shown q (r ++ (o ++ (d ++ (p ++ a)))) ≡ shown q r ++ (shown q o ++ (shown q d ++ (shown q p ++ shown q a)))
five_shown q r o d p a =
    shown_append q r (o ++ (d ++ (p ++ a))) ∙ ap (λ (l : List Edge). shown q r ++ l)
    (shown_append q o (d ++ (p ++ a)) ∙ ap (λ (l : List Edge). shown q o ++ l)
    (shown_append q d (p ++ a) ∙ ap (λ (l : List Edge). shown q d ++ l) (shown_append q p a)))

-- pins that end below, or begin above, once they are moved
ends_below : (h low high dx dy : ℤ) (xs : List PartPin) → (high +ℤ dy) <ℤ h → AllByRecursion (IsPinWithin low high) xs → shown (ends_at h) (map (pin_moved dx dy) xs) ≡ []
ends_below h low high dx dy xs below all =
    none_shown (ends_at h) (map (pin_moved dx dy) xs) (all_moved (λ (x : PartPin). ends_at h x ≡ false) dx dy xs
    (all_as (IsPinWithin low high) (λ (x : PartPin). ends_at h (pin_moved dx dy x) ≡ false) xs (λ x is. other_numbers (x.high +ℤ dy) h (λ e. let to = is.to in omega (arith, ints, to, e, below))) all))

begins_above : (low high dx dy : ℤ) (xs : List PartPin) → pos 0 <ℤ (low +ℤ dy) → AllByRecursion (IsPinWithin low high) xs → shown (begins_at (pos 0)) (map (pin_moved dx dy) xs) ≡ []
begins_above low high dx dy xs above all =
    none_shown (begins_at (pos 0)) (map (pin_moved dx dy) xs) (all_moved (λ (x : PartPin). begins_at (pos 0) x ≡ false) dx dy xs
    (all_as (IsPinWithin low high) (λ (x : PartPin). begins_at (pos 0) (pin_moved dx dy x) ≡ false) xs (λ x is. other_numbers (x.low +ℤ dy) (pos 0) (λ e. let from = is.from in omega (arith, ints, from, e, above))) all))

-- at the top
top_shown : (kit : Kit) (plan : Organization) (wire : Wire) (track : List ℕ) (fl : Floorplan) (n : List ℕ) (taps : List Tap) (sense : LeafPin) → IsDrawnBank kit plan wire track fl taps sense → (clock : List Edge)
    → AddsClockEdge kit.leaves wire (bank_ports plan) (line_count plan.groups + 2) (pos ((layout_kit kit).height Precharge)) [] clock
    → shown (ends_at (upper_y (layout_kit kit) fl -ℤ fl.write_y)) (pins_of kit plan wire fl n taps sense) ≡ clock ++ map (edge_moved (columns_x plan (layout_kit kit) fl)) (edges_at (Upper (pos ((layout_kit kit).height Precharge))) (pre_pins kit plan n))
top_shown kit plan wire track fl n taps sense s clock adds =
    five_shown (ends_at (upper_y (layout_kit kit) fl -ℤ fl.write_y)) (tabulate (rail_count plan) (rail_pin plan wire taps)) (tabulate (inputs_of plan) (output_pin plan (layout_kit kit) fl sense)) (map (pin_moved (columns_x plan (layout_kit kit) fl) (pos 0)) (data_pins kit plan fl n))
    (map (pin_moved (columns_x plan (layout_kit kit) fl) (fl.precharge_y -ℤ fl.write_y)) (pre_pins kit plan n)) (map (pin_moved fl.row_x (fl.array_y -ℤ fl.write_y)) (array_pins kit plan))
    ∙ ((λ i. rails i ++ (outputs i ++ (lower i ++ (columns i ++ array i)))) ∙ ap (λ (l : List Edge). clock ++ l) (append-nil (map (edge_moved (columns_x plan (layout_kit kit) fl)) (edges_at (Upper (pos ((layout_kit kit).height Precharge))) (pre_pins kit plan n))))) where
      tall : pos 0 <ℤ pos ((layout_kit kit).height Precharge)
      tall = let wide = enable_high kit wire s.of_taps.precharge s.raised.is s.raised.wired s.of_taps.is_precharge in let width = s.raised.sizes.width in omega (arith, ints, wide, width.from)

      column : (fl.column_y -ℤ fl.write_y) ≤ℤ (fl.array_y -ℤ fl.write_y)
      column = s.raised.column

      rows : fl.precharge_y ≡ fl.array_y +ℤ pos (bank_rows plan * bit_height (layout_kit kit))
      rows = s.raised.array

      low : ((fl.sense_y -ℤ fl.write_y) +ℤ pos ((layout_kit kit).height Sense)) ≤ℤ (fl.column_y -ℤ fl.write_y)
      low = s.stacked.sense

      pin_is : s.of_taps.precharge ≡ adds.pin
      pin_is = same_pin kit.leaves Precharge 2 s.of_taps.precharge adds.pin s.of_taps.is_precharge adds.is

      rails : shown (ends_at (upper_y (layout_kit kit) fl -ℤ fl.write_y)) (tabulate (rail_count plan) (rail_pin plan wire taps)) ≡ clock
      rails =
          rails_shown kit plan wire track fl taps s.raised s.of_taps
          ∙ (ap (λ (p : LeafPin). cond (int_eq (p.rect.y1 +ℤ wire.width) (pos ((layout_kit kit).height Precharge))) (rail_edge wire (bank_ports plan) (line_count plan.groups + 2) ∷ []) []) pin_is ∙ sym adds.adds)

      outputs : shown (ends_at (upper_y (layout_kit kit) fl -ℤ fl.write_y)) (tabulate (inputs_of plan) (output_pin plan (layout_kit kit) fl sense)) ≡ []
      outputs = none_made (ends_at (upper_y (layout_kit kit) fl -ℤ fl.write_y)) (inputs_of plan) (output_pin plan (layout_kit kit) fl sense) (λ k lt. other_numbers (fl.sense_y -ℤ fl.write_y) (upper_y (layout_kit kit) fl -ℤ fl.write_y) (λ e. omega (arith, ints, e, low, column, rows, tall)))

      lower : shown (ends_at (upper_y (layout_kit kit) fl -ℤ fl.write_y)) (map (pin_moved (columns_x plan (layout_kit kit) fl) (pos 0)) (data_pins kit plan fl n)) ≡ []
      lower = ends_below (upper_y (layout_kit kit) fl -ℤ fl.write_y) (pos 0) (fl.array_y -ℤ fl.write_y) (columns_x plan (layout_kit kit) fl) (pos 0) (data_pins kit plan fl n) (omega (arith, ints, rows, tall)) (data_within kit plan fl n s.narrow s.stacked)

      columns : shown (ends_at (upper_y (layout_kit kit) fl -ℤ fl.write_y)) (map (pin_moved (columns_x plan (layout_kit kit) fl) (fl.precharge_y -ℤ fl.write_y)) (pre_pins kit plan n))
          ≡ map (edge_moved (columns_x plan (layout_kit kit) fl)) (edges_at (Upper (pos ((layout_kit kit).height Precharge))) (pre_pins kit plan n))
      columns = moved_shown (meets (Upper (pos ((layout_kit kit).height Precharge)))) (ends_at (upper_y (layout_kit kit) fl -ℤ fl.write_y)) (columns_x plan (layout_kit kit) fl) (fl.precharge_y -ℤ fl.write_y) (λ x. equal_moved x.high (pos ((layout_kit kit).height Precharge)) (fl.precharge_y -ℤ fl.write_y) (x.high +ℤ (fl.precharge_y -ℤ fl.write_y)) (upper_y (layout_kit kit) fl -ℤ fl.write_y) refl (omega (arith, ints))) (pre_pins kit plan n)

      array : shown (ends_at (upper_y (layout_kit kit) fl -ℤ fl.write_y)) (map (pin_moved fl.row_x (fl.array_y -ℤ fl.write_y)) (array_pins kit plan)) ≡ []
      array = ends_below (upper_y (layout_kit kit) fl -ℤ fl.write_y) (pos 0) (pos (bank_rows plan * bit_height (layout_kit kit))) fl.row_x (fl.array_y -ℤ fl.write_y) (array_pins kit plan) (omega (arith, ints, rows, tall)) (array_within kit plan s.narrow)

-- at the bottom
bottom_shown : (kit : Kit) (plan : Organization) (wire : Wire) (track : List ℕ) (fl : Floorplan) (n : List ℕ) (taps : List Tap) (sense : LeafPin) → IsDrawnBank kit plan wire track fl taps sense
    → shown (begins_at (pos 0)) (pins_of kit plan wire fl n taps sense) ≡ tabulate (rail_count plan) (rail_edge wire (bank_ports plan))
    ++ (tabulate (inputs_of plan) (output_edge (columns_x plan (layout_kit kit) fl +ℤ sense.rect.x1) (words_per_row plan) (bit_width (layout_kit kit)))
    ++ map (edge_moved (columns_x plan (layout_kit kit) fl)) (shown (begins_at (pos 0)) (data_pins kit plan fl n)))
bottom_shown kit plan wire track fl n taps sense s =
    five_shown (begins_at (pos 0)) (tabulate (rail_count plan) (rail_pin plan wire taps)) (tabulate (inputs_of plan) (output_pin plan (layout_kit kit) fl sense)) (map (pin_moved (columns_x plan (layout_kit kit) fl) (pos 0)) (data_pins kit plan fl n))
    (map (pin_moved (columns_x plan (layout_kit kit) fl) (fl.precharge_y -ℤ fl.write_y)) (pre_pins kit plan n)) (map (pin_moved fl.row_x (fl.array_y -ℤ fl.write_y)) (array_pins kit plan))
    ∙ ((λ i. rails i ++ (outputs i ++ (lower i ++ (columns i ++ array i)))) ∙ ap (λ (l : List Edge). tabulate (rail_count plan) (rail_edge wire (bank_ports plan)) ++ (tabulate (inputs_of plan) (output_edge (columns_x plan (layout_kit kit) fl +ℤ sense.rect.x1) (words_per_row plan) (bit_width (layout_kit kit))) ++ l)) (append-nil (map (edge_moved (columns_x plan (layout_kit kit) fl)) (shown (begins_at (pos 0)) (data_pins kit plan fl n))))) where
      zero_low : int_eq (pos 0) (pos 0) ≡ true
      zero_low = equal_numbers (pos 0) (pos 0) refl

      rails : shown (begins_at (pos 0)) (tabulate (rail_count plan) (rail_pin plan wire taps)) ≡ tabulate (rail_count plan) (rail_edge wire (bank_ports plan))
      rails = all_shown (begins_at (pos 0)) (rail_count plan) (rail_pin plan wire taps) (λ k. zero_low)

      outputs : shown (begins_at (pos 0)) (tabulate (inputs_of plan) (output_pin plan (layout_kit kit) fl sense)) ≡ tabulate (inputs_of plan) (output_edge (columns_x plan (layout_kit kit) fl +ℤ sense.rect.x1) (words_per_row plan) (bit_width (layout_kit kit)))
      outputs = all_shown (begins_at (pos 0)) (inputs_of plan) (output_pin plan (layout_kit kit) fl sense) (λ k. zero_low)

      lower : shown (begins_at (pos 0)) (map (pin_moved (columns_x plan (layout_kit kit) fl) (pos 0)) (data_pins kit plan fl n)) ≡ map (edge_moved (columns_x plan (layout_kit kit) fl)) (shown (begins_at (pos 0)) (data_pins kit plan fl n))
      lower = moved_shown (begins_at (pos 0)) (begins_at (pos 0)) (columns_x plan (layout_kit kit) fl) (pos 0) (λ x. equal_moved x.low (pos 0) (pos 0) (x.low +ℤ pos 0) (pos 0) refl refl) (data_pins kit plan fl n)

      columns : shown (begins_at (pos 0)) (map (pin_moved (columns_x plan (layout_kit kit) fl) (fl.precharge_y -ℤ fl.write_y)) (pre_pins kit plan n)) ≡ []
      columns = let above = s.raised.above in begins_above (pos 0) (pos ((layout_kit kit).height Precharge)) (columns_x plan (layout_kit kit) fl) (fl.precharge_y -ℤ fl.write_y) (pre_pins kit plan n) (omega (arith, ints, above)) (pre_within kit plan n s.narrow)

      array : shown (begins_at (pos 0)) (map (pin_moved fl.row_x (fl.array_y -ℤ fl.write_y)) (array_pins kit plan)) ≡ []
      array = let rows = s.raised.rows in begins_above (pos 0) (pos (bank_rows plan * bit_height (layout_kit kit))) fl.row_x (fl.array_y -ℤ fl.write_y) (array_pins kit plan) (omega (arith, ints, rows)) (array_within kit plan s.narrow)

abbrev output_list : Kit → Organization → Floorplan → LeafPin → List Edge
output_list kit plan fl p = tabulate (inputs_of plan) (output_edge (columns_x plan (layout_kit kit) fl +ℤ p.rect.x1) (words_per_row plan) (bit_width (layout_kit kit)))

abbrev listed : Kit → Organization → Wire → Floorplan → LeafPin → List Edge → List Edge
listed kit plan wire fl p l = tabulate (rail_count plan) (rail_edge wire (bank_ports plan)) ++ (output_list kit plan fl p ++ map (edge_moved (columns_x plan (layout_kit kit) fl)) l)

pub bank_edges_are : (kit : Kit) (plan : Organization) (wire : Wire) (track : List ℕ) (fl : Floorplan) (n : List ℕ) (taps : List Tap) (sense : LeafPin) → IsDrawnBank kit plan wire track fl taps sense → (lower : List Edge) → AreInOrder (shown (begins_at (pos 0)) (data_pins kit plan fl n)) lower
    → (edges : Edges) → AreBankEdges kit plan wire fl n (bank_ports plan) lower edges → AreEdgesOf (pins_of kit plan wire fl n taps sense) edges
bank_edges_are kit plan wire track fl n taps sense s lower order edges are = record {
  top = subst (λ (l : List Edge). AreInOrder l edges.top)
      (sym (ap (λ (y : ℤ). shown (ends_at y) (pins_of kit plan wire fl n taps sense)) are.height ∙ top_shown kit plan wire track fl n taps sense s are.top.clock are.top.of_clock)) are.top.are;
  bottom = subst (λ (l : List Edge). AreInOrder l edges.bottom) (sym (bottom_shown kit plan wire track fl n taps sense s)) (record {
    same = IsPermutation-trans _ _ _ moved (subst (λ (p : LeafPin). IsPermutation (listed kit plan wire fl p lower) edges.bottom) (same_pin kit.leaves Sense 2 are.bottom.pin sense are.bottom.is s.is_sense) are.bottom.are.same);
    rises = are.bottom.are.rises;
  });
} where
  moved : IsPermutation (listed kit plan wire fl sense (shown (begins_at (pos 0)) (data_pins kit plan fl n))) (listed kit plan wire fl sense lower)
  moved = IsPermutation-append_right (tabulate (rail_count plan) (rail_edge wire (bank_ports plan))) _ _ (IsPermutation-append_right (output_list kit plan fl sense) _ _ (IsPermutation-map (edge_moved (columns_x plan (layout_kit kit) fl)) _ _ order.same))

-- the edges of pins that lie near do so
near_shown : (q : PartPin → Bool) (low high : ℤ) (xs : List PartPin) → AllByRecursion (IsPinWithin low high) xs → AllByRecursion (λ (e : Edge). IsNear e.x) (shown q xs)
near_shown q low high [] all = tt
near_shown q low high (x ∷ xs) all = by (q x) (near_shown q low high xs all.1) where
  by : (t : Bool) → AllByRecursion (λ (e : Edge). IsNear e.x) (shown q xs) → AllByRecursion (λ (e : Edge). IsNear e.x) (map edge_of (cond t (x ∷ filter q xs) (filter q xs)))
  by true rest = (let left = all.0.left in let right = all.0.right in (record { above = omega (arith, ints, left); below = omega (arith, ints, right) }, rest))
  by false rest = rest

pub data_near : (kit : Kit) (plan : Organization) (fl : Floorplan) (n : List ℕ) → AreNarrow kit plan → AreStacked (layout_kit kit) plan fl → (lower : List Edge) → AreInOrder (shown (begins_at (pos 0)) (data_pins kit plan fl n)) lower → AllByRecursion (λ (e : Edge). IsNear e.x) lower
data_near kit plan fl n narrow stacked lower order =
    recursion_from_All _ lower (All-permutation (λ (e : Edge). IsNear e.x) _ lower order.same (All-from_recursion _ _ (near_shown (begins_at (pos 0)) _ _ (data_pins kit plan fl n) (data_within kit plan fl n narrow stacked))))

pub columns_near : (kit : Kit) (plan : Organization) (n : List ℕ) (h : ℤ) → AreNarrow kit plan → AllByRecursion (λ (e : Edge). IsNear e.x) (edges_at (Upper h) (pre_pins kit plan n))
columns_near kit plan n h narrow = near_shown (meets (Upper h)) _ _ (pre_pins kit plan n) (pre_within kit plan n narrow)
