-- The upper side of the main channel: where no two pins are too close in the model's, none are.
use Rattle.std.proofs.Common.{◌≡◌, inl, inr, ℕ, zero, suc, ◌+◌, ◌*◌, ◌<◌, ◌≤◌, ℤ, pos, negsuc, ◌+ℤ◌, ◌*ℤ◌, ◌≤ℤ◌, List, [], ◌∷◌, ◌++◌, map, length, get_or, Option, Some, refl, sym, ap, subst, ◌∙◌, arith}
use Rattle.std.proofs.lemmas.Int.{ints}
use Rattle.std.proofs.lemmas.List.{length-map}
use Rattle.cell_roles.specs.declared.role.Role.TheVariants.{Sense, Write}
use Rattle.channel_router.specs.declared.channel.ChannelPin.{ChannelPin}
use Rattle.channel_router.specs.Routed.{pin_xs}
use Rattle.tech_rules.specs.declared.tech.Wire.{Wire}
use Rattle.wire_drawing.specs.Drawing.{pitch}
use Rattle.tech_rules.specs.Facts.{AreSizes}
use Rattle.sram_netlist.specs.Organization.{Organization, IsBuildable, IsWritten, words_per_row, banks_of, written_bits}
use Rattle.sram_netlist.specs.Nets.{Net, Control, Wen, D, Dout, WenAt}
use Rattle.sram_netlist.specs.Instances.{Dd, Wri, Gi}
use Rattle.sram_netlist.specs.Netlist.{enable_at, enable_count, enables_of, mask_of}
use Rattle.sram_netlist.specs.Membership.{IsOneOf}
use Rattle.sram_netlist.specs.Names.{net_name}
use Rattle.sram_netlist.specs.InstanceList.{numbers_from, tabulate_lists}
use Rattle.sram_netlist.proofs.InstanceLists.{place_in}
use Rattle.macro_layout.specs.LayoutKit.{LayoutKit}
use Rattle.macro_layout.specs.Places.{Floorplan, drive_width, bit_width}
use Rattle.macro_layout.specs.Floorplan.{Tracks, IsFloorplan, rail_count}
use Rattle.macro_layout.specs.Pins.{main_nets, rail_nets}
use Rattle.main_channel.specs.Pins.{pin_of, numbered_net}
use Rattle.main_channel.specs.Banks.{rail_channel_pin, bank_rail_pins, bit_begin, written_pins, bit_channel_pins, slice_pins, columns_begin, bank_pins}
use Rattle.main_channel.specs.Formula.{main_number, port_begin, main_top}
use Rattle.main_channel.proofs.LookLaws.{IsNumbering, numbering_is}
use Rattle.port_data.specs.Column.{AreWideSlices}
use Rattle.view_cover.proofs.KindLaws.{rails_count}
use Rattle.spacing_laws.proofs.CloseLaws.{HasClose}
use Rattle.spacing_laws.proofs.RepeatLaws.{IsInStep, AreInStep, number_at, block, repeats, close_repeats, wide_steps}
use Rattle.route_laws.proofs.ColumnLaws.{HasPinsInCells, xs_append, xs_flat, product_of, some_power}
use Rattle.spacing_laws.proofs.BankLaws.{Bank, slices_at, bank_end, rail_at, rails_xs, slices_xs, bank_xs, banks_xs, close_in_banks}
use Rattle.route_laws.proofs.KindLaws.{model, model_masks, model_write}
use Rattle.route_laws.proofs.NumberLaws.{output_main, result_main}
use Rattle.route_laws.proofs.BottomLaws.{pin_part, pin_there}
use Rattle.spacing_laws.proofs.PartLaws.{IsPart, part_same, part_none, part_append, part_back, part_lists, part_one, part_of_part}

-- A plan's banks

abbrev pub bank_of : Organization → LayoutKit → ℕ → Bank
bank_of plan kit q = record { rails = rail_count plan; pitch = q; drive = drive_width plan kit; slice = words_per_row plan * bit_width kit; count = plan.word_size }

-- where the pins of a slice's cells begin
abbrev pub slice_offsets : LayoutKit → List ℤ
slice_offsets kit = port_begin kit 3 Write 0 ∷ port_begin kit 3 Write 3 ∷ port_begin kit 3 Sense 2 ∷ []

-- the rails of a bank

moved_pin : (o : Option ℕ) (x y : ℤ) → x ≡ y → IsPart (pin_xs (pin_of o x)) (y ∷ [])
moved_pin o x y e = subst (λ (z : ℤ). IsPart (pin_xs (pin_of o x)) (z ∷ [])) e (pin_part o x)

rails_part : (look : List ℕ → Option ℕ) (names : List (List ℕ)) (from step : ℤ) (b : Bank) (z : ℕ) → from ≡ pos z → step ≡ pos b.pitch → length names ≡ b.rails → IsPart (pin_xs (bank_rail_pins look names from step)) (rails_xs b z)
rails_part look names from step b z at is long =
    let one = λ (r : ℕ). pin_xs (rail_channel_pin look names from step r) in
    subst (λ (n : ℕ). IsPart (pin_xs (bank_rail_pins look names from step)) (tabulate_lists n (rail_at b z))) long
    (part_of_part _ (tabulate_lists (length names) one) _ (part_same _ _ (xs_flat (rail_channel_pin look names from step) (numbers_from 0 (length names))))
    (part_lists one (rail_at b z) 0 (length names) (λ r low high. moved_pin (look (get_or names r [])) (from +ℤ (pos (r + 1) *ℤ step)) (pos (z + (r + 1) * b.pitch)) (λ i. at i +ℤ (pos (r + 1) *ℤ is i)))))

-- the pins of a bit

written_part : (w : ℕ) (pins : List ChannelPin) (ys : List ℤ) → IsPart (pin_xs pins) ys → IsPart (pin_xs (written_pins w pins)) ys
written_part zero pins ys part = part_none ys
written_part (suc w) pins ys part = part

bit_place : (from y : ℤ) (i wpr bw : ℕ) (u : ℤ) → from ≡ y → (from +ℤ pos ((i * wpr) * bw)) +ℤ u ≡ number_at y (wpr * bw) i u
bit_place from y i wpr bw u e = λ j. (e j +ℤ pos (product_of i wpr bw j)) +ℤ u

bit_part : (kit : LayoutKit) (look : List ℕ → Option ℕ) (plan : Organization) (bank : ℕ) (from y : ℤ) (i : ℕ) → from ≡ y
    → IsPart (pin_xs (bit_channel_pins (port_begin kit 3) kit.width look plan bank from i)) (block y (words_per_row plan * bit_width kit) (slice_offsets kit) i)
bit_part kit look plan bank from y i e =
    let at = bit_begin kit.width plan from i in
    let wpr = words_per_row plan in
    let bw = bit_width kit in
    let din = numbered_net look (net_name plan (D i)) (at +ℤ port_begin kit 3 Write 0) in
    let en = numbered_net look (net_name plan (enable_at plan.bank_bits plan.masks bank (mask_of plan.masks plan.write_size i))) (at +ℤ port_begin kit 3 Write 3) in
    let dout = numbered_net look (net_name plan (Dout i)) (at +ℤ port_begin kit 3 Sense 2) in
    let d0 = number_at y (wpr * bw) i (port_begin kit 3 Write 0) in
    let d1 = number_at y (wpr * bw) i (port_begin kit 3 Write 3) in
    let d2 = number_at y (wpr * bw) i (port_begin kit 3 Sense 2) in
    part_of_part _ (pin_xs (written_pins plan.write_size (din ++ en)) ++ pin_xs dout) _ (part_same _ _ (xs_append (written_pins plan.write_size (din ++ en)) dout))
    (part_append (pin_xs (written_pins plan.write_size (din ++ en))) (d0 ∷ d1 ∷ []) (pin_xs dout) (d2 ∷ [])
    (written_part plan.write_size (din ++ en) (d0 ∷ d1 ∷ [])
    (part_of_part _ (pin_xs din ++ pin_xs en) _ (part_same _ _ (xs_append din en))
    (part_append (pin_xs din) (d0 ∷ []) (pin_xs en) (d1 ∷ [])
    (moved_pin (look (net_name plan (D i))) (at +ℤ port_begin kit 3 Write 0) d0 (bit_place from y i wpr bw (port_begin kit 3 Write 0) e))
    (moved_pin (look (net_name plan (enable_at plan.bank_bits plan.masks bank (mask_of plan.masks plan.write_size i)))) (at +ℤ port_begin kit 3 Write 3) d1 (bit_place from y i wpr bw (port_begin kit 3 Write 3) e)))))
    (moved_pin (look (net_name plan (Dout i))) (at +ℤ port_begin kit 3 Sense 2) d2 (bit_place from y i wpr bw (port_begin kit 3 Sense 2) e)))

slices_part : (kit : LayoutKit) (look : List ℕ → Option ℕ) (plan : Organization) (bank : ℕ) (from y : ℤ) → from ≡ y
    → IsPart (pin_xs (slice_pins (port_begin kit 3) kit.width look plan bank from)) (repeats y (words_per_row plan * bit_width kit) (slice_offsets kit) plan.word_size)
slices_part kit look plan bank from y e =
    let one = λ (i : ℕ). pin_xs (bit_channel_pins (port_begin kit 3) kit.width look plan bank from i) in
    part_of_part _ (tabulate_lists plan.word_size one) _ (part_same _ _ (xs_flat (bit_channel_pins (port_begin kit 3) kit.width look plan bank from) (numbers_from 0 plan.word_size)))
    (part_lists one (block y (words_per_row plan * bit_width kit) (slice_offsets kit)) 0 plan.word_size (λ i low high. bit_part kit look plan bank from y i e))

-- all banks

pub pitch_is : (wire : Wire) → AreSizes wire → (q : ℕ) × (pitch wire ≡ pos q)
pitch_is wire sizes = by wire.width wire.space sizes.width.from sizes.space.from
  where
    by : (w s : ℤ) → pos 1 ≤ℤ w → pos 1 ≤ℤ s → (q : ℕ) × (w +ℤ s ≡ pos q)
    by (pos w) (pos s) a b = (w + s, refl)
    by (pos w) (negsuc s) a b = absurd (omega (arith, ints, b))
    by (negsuc w) s a b = absurd (omega (arith, ints, a))

module _ (plan : Organization) (kit : LayoutKit) (wire : Wire) (tracks : Tracks) (f : Floorplan) (stands : IsFloorplan plan kit wire tracks f) (q : ℕ) (is : pitch wire ≡ pos q) where
  row_is : f.row_x ≡ pos ((rail_count plan + 1) * q)
  row_is = stands.row_x ∙ ap (λ (p : ℤ). pos (rail_count plan + 1) *ℤ p) is

  begins_at : columns_begin kit.width plan f.row_x ≡ pos (slices_at (bank_of plan kit q))
  begins_at = ap (λ (x : ℤ). x +ℤ pos (drive_width plan kit)) row_is

  ends_at : f.bank_width ≡ pos (bank_end (bank_of plan kit q))
  ends_at = stands.bank_width ∙ (λ i. begins_at i +ℤ pos (product_of plan.word_size (words_per_row plan) (bit_width kit) i))

  one_bank : (k : ℕ) → IsPart (pin_xs (bank_pins (port_begin kit 3) kit.width (main_number plan) plan (pitch wire) f.row_x f.bank_width k)) (bank_xs (bank_of plan kit q) (slice_offsets kit) k)
  one_bank k =
      let b = bank_of plan kit q in
      let z = k * bank_end b in
      let names = map (net_name plan) (rail_nets plan k) in
      let rails = bank_rail_pins (main_number plan) names (pos k *ℤ f.bank_width) (pitch wire) in
      let from = (pos k *ℤ f.bank_width) +ℤ columns_begin kit.width plan f.row_x in
      let slices = slice_pins (port_begin kit 3) kit.width (main_number plan) plan k from in
      part_of_part _ (pin_xs rails ++ pin_xs slices) _ (part_same _ _ (xs_append rails slices))
      (part_append (pin_xs rails) (rails_xs b z) (pin_xs slices) (slices_xs b (slice_offsets kit) z)
      (rails_part (main_number plan) names (pos k *ℤ f.bank_width) (pitch wire) b z (ap (λ (x : ℤ). pos k *ℤ x) ends_at) is (length-map (rail_nets plan k) (net_name plan) ∙ rails_count plan k))
      (slices_part kit (main_number plan) plan k from (pos (z + slices_at b)) (λ i. (pos k *ℤ ends_at i) +ℤ begins_at i)))

  pub top_part : IsPart (pin_xs (main_top plan kit wire f)) (banks_xs (bank_of plan kit q) (slice_offsets kit) (banks_of plan))
  top_part =
      let pins = bank_pins (port_begin kit 3) kit.width (main_number plan) plan (pitch wire) f.row_x f.bank_width in
      let one = λ (k : ℕ). pin_xs (pins k) in
      part_of_part _ (tabulate_lists (banks_of plan) one) _ (part_same _ _ (xs_flat pins (numbers_from 0 (banks_of plan))))
      (part_lists one (bank_xs (bank_of plan kit q) (slice_offsets kit)) 0 (banks_of plan) (λ k low high. one_bank k))

-- The model's pins are all there

numbered : (plan : Organization) (look : List ℕ → Option ℕ) (x : Net) → IsNumbering plan look → IsOneOf x (main_nets plan) → (k : ℕ) × (look (net_name plan x) ≡ Some k)
numbered plan look x numbering is = let at = place_in x (main_nets plan) is in (at.0, numbering.there x at.0 at.1)

-- the write enable of a mask
enable_main : (plan : Organization) (n masks bank m : ℕ) → plan.bank_bits ≡ n → plan.masks ≡ masks → IsWritten plan → bank < banks_of plan → m < enables_of plan → IsOneOf (enable_at n masks bank m) (main_nets plan)
enable_main plan zero zero bank m e f w in_bank in_mask = output_main plan Wri (Control Wen) w refl
enable_main plan zero (suc masks) bank m e f w in_bank in_mask = output_main plan (Gi bank m) (WenAt bank m) ((in_bank, in_mask), inr (omega (arith, f))) refl
enable_main plan (suc n) masks bank m e f w in_bank in_mask = output_main plan (Gi bank m) (WenAt bank m) ((in_bank, in_mask), inl (omega (arith, e))) refl

model_mask : (masks i : ℕ) → i < 2 → mask_of (model_masks masks) (model_write masks) i < written_bits (model_write masks) (enable_count (model_masks masks))
model_mask zero i less = omega arith
model_mask (suc masks) zero less = omega arith
model_mask (suc masks) (suc zero) less = omega arith
model_mask (suc masks) (suc (suc i)) less = absurd (omega (arith, less))

model_inputs : (masks i : ℕ) → i < 2 → i < written_bits (model_write masks) 2
model_inputs zero i less = less
model_inputs (suc masks) i less = less

written_all : (w : ℕ) (pins : List ChannelPin) → 0 < w → pin_xs (written_pins w pins) ≡ pin_xs pins
written_all zero pins some = absurd (omega (arith, some))
written_all (suc w) pins some = refl

pin_at : (o : Option ℕ) (x y : ℤ) → (k : ℕ) × (o ≡ Some k) → x ≡ y → (y ∷ []) ≡ pin_xs (pin_of o x)
pin_at o x y number e = ap (λ (z : ℤ). z ∷ []) (sym e) ∙ pin_there o number.0 x number.1

three_joined : (a b c : ℤ) (din en dout : List ChannelPin) → (a ∷ []) ≡ pin_xs din → (b ∷ []) ≡ pin_xs en → (c ∷ []) ≡ pin_xs dout → (a ∷ b ∷ c ∷ []) ≡ pin_xs (din ++ en) ++ pin_xs dout
three_joined a b c din en dout e f g = (λ i. (e i ++ f i) ++ g i) ∙ (λ i. sym (xs_append din en) i ++ pin_xs dout)

part_bit : (plan : Organization) (kit : LayoutKit) (look : List ℕ → Option ℕ) (y : ℤ) (i : ℕ) → IsWritten plan → IsWritten (model plan) → IsNumbering (model plan) look → i < 2
    → IsPart (block y (words_per_row plan * bit_width kit) (slice_offsets kit) i) (pin_xs (bit_channel_pins (port_begin kit 3) kit.width look (model plan) 0 y i))
part_bit plan kit look y i written other numbering less =
    let m = model plan in
    let at = bit_begin kit.width m y i in
    let wpr = words_per_row plan in
    let bw = bit_width kit in
    let enable = enable_at m.bank_bits m.masks 0 (mask_of m.masks m.write_size i) in
    let din = numbered_net look (net_name m (D i)) (at +ℤ port_begin kit 3 Write 0) in
    let en = numbered_net look (net_name m enable) (at +ℤ port_begin kit 3 Write 3) in
    let dout = numbered_net look (net_name m (Dout i)) (at +ℤ port_begin kit 3 Sense 2) in
    let d0 = number_at y (wpr * bw) i (port_begin kit 3 Write 0) in
    let d1 = number_at y (wpr * bw) i (port_begin kit 3 Write 3) in
    let d2 = number_at y (wpr * bw) i (port_begin kit 3 Sense 2) in
    let n0 = numbered m look (D i) numbering (output_main m (Dd i) (D i) (model_inputs plan.masks i less) refl) in
    let n1 = numbered m look enable numbering (enable_main m m.bank_bits m.masks 0 (mask_of m.masks m.write_size i) refl refl other (some_power m.bank_bits) (model_mask plan.masks i less)) in
    let n2 = numbered m look (Dout i) numbering (result_main m i less) in
    part_same _ _
    (three_joined d0 d1 d2 din en dout
    (pin_at (look (net_name m (D i))) (at +ℤ port_begin kit 3 Write 0) d0 n0 (bit_place y y i wpr bw (port_begin kit 3 Write 0) refl))
    (pin_at (look (net_name m enable)) (at +ℤ port_begin kit 3 Write 3) d1 n1 (bit_place y y i wpr bw (port_begin kit 3 Write 3) refl))
    (pin_at (look (net_name m (Dout i))) (at +ℤ port_begin kit 3 Sense 2) d2 n2 (bit_place y y i wpr bw (port_begin kit 3 Sense 2) refl))
    ∙ ((λ j. sym (written_all m.write_size (din ++ en) other) j ++ pin_xs dout) ∙ sym (xs_append (written_pins m.write_size (din ++ en)) dout)))

part_slices : (plan : Organization) (kit : LayoutKit) (look : List ℕ → Option ℕ) (y : ℤ) → IsWritten plan → IsWritten (model plan) → IsNumbering (model plan) look
    → IsPart (repeats y (words_per_row plan * bit_width kit) (slice_offsets kit) 2) (pin_xs (slice_pins (port_begin kit 3) kit.width look (model plan) 0 y))
part_slices plan kit look y written other numbering =
    let one = λ (i : ℕ). pin_xs (bit_channel_pins (port_begin kit 3) kit.width look (model plan) 0 y i) in
    part_of_part _ (tabulate_lists 2 one) _
    (part_lists (block y (words_per_row plan * bit_width kit) (slice_offsets kit)) one 0 2 (λ i low high. part_bit plan kit look y i written other numbering (omega (arith, high))))
    (part_same _ _ (sym (xs_flat (bit_channel_pins (port_begin kit 3) kit.width look (model plan) 0 y) (numbers_from 0 2))))

-- where the first bank's slices begin
abbrev first_slices : Organization → LayoutKit → Floorplan → ℤ
first_slices plan kit g = (pos 0 *ℤ g.bank_width) +ℤ columns_begin kit.width (model plan) g.row_x

part_top : (plan : Organization) (kit : LayoutKit) (wire : Wire) (g : Floorplan) → IsBuildable (model plan) → IsWritten plan → IsWritten (model plan)
    → IsPart (repeats (first_slices plan kit g) (words_per_row plan * bit_width kit) (slice_offsets kit) 2) (pin_xs (main_top (model plan) kit wire g))
part_top plan kit wire g also written other =
    let m = model plan in
    let look = main_number m in
    let numbering = numbering_is m also (map (net_name m) (main_nets m)) look refl (λ name. refl) in
    let pins = bank_pins (port_begin kit 3) kit.width look m (pitch wire) g.row_x g.bank_width in
    let rails = bank_rail_pins look (map (net_name m) (rail_nets m 0)) (pos 0 *ℤ g.bank_width) (pitch wire) in
    let slices = slice_pins (port_begin kit 3) kit.width look m 0 (first_slices plan kit g) in
    let one = λ (k : ℕ). pin_xs (pins k) in
    part_of_part _ (pin_xs slices) _ (part_slices plan kit look (first_slices plan kit g) written other numbering)
    (part_of_part _ (pin_xs rails ++ pin_xs slices) _ (part_back (pin_xs rails) (pin_xs slices))
    (part_of_part _ (pin_xs (pins 0)) _ (part_same _ _ (sym (xs_append rails slices)))
    (part_of_part _ (tabulate_lists (banks_of m) one) _ (let some = some_power m.bank_bits in part_one one 0 (banks_of m) 0 (omega arith) (omega (arith, some)))
    (part_same _ _ (sym (xs_flat pins (numbers_from 0 (banks_of m))))))))

in_slice : (v w : ℕ) (u : ℤ) → v ≤ w → IsInStep v u → IsInStep w u
in_slice v w u le is = let b = is.below in record { above = is.above; below = omega (arith, ints, le, b) }

-- The upper side, on floorplans of the plan and of its model.
pub top_apart : (plan : Organization) (kit : LayoutKit) (wire : Wire) (tracks : Tracks) (f g : Floorplan) → IsBuildable (model plan) → IsWritten plan → IsWritten (model plan) → HasPinsInCells kit → AreSizes wire → AreWideSlices (model plan) kit → IsFloorplan plan kit wire tracks f
    → (HasClose (pitch wire) (pin_xs (main_top (model plan) kit wire g)) → ⊥) → HasClose (pitch wire) (pin_xs (main_top plan kit wire f)) → ⊥
top_apart plan kit wire tracks f g also written other has sizes wide stands apart close =
    let q = pitch_is wire sizes in
    let b = bank_of plan kit q.0 in
    let w = words_per_row plan * bit_width kit in
    let us = slice_offsets kit in
    let inside : AreInStep w us = (in_slice (kit.width Write) w (port_begin kit 3 Write 0) (wide.write other) (has.begin Write 0 3), (in_slice (kit.width Write) w (port_begin kit 3 Write 3) (wide.write other) (has.begin Write 3 3), (in_slice (kit.width Sense) w (port_begin kit 3 Sense 2) wide.sense (has.begin Sense 2 3), tt))) in
    let free : HasClose (pitch wire) (repeats (first_slices plan kit g) w us 2) → ⊥ = λ h. apart ((part_top plan kit wire g also written other).close (pitch wire) h) in
    let wide_enough = wide_steps (pitch wire) (first_slices plan kit g) w 2 (port_begin kit 3 Write 0) (port_begin kit 3 Write 3 ∷ port_begin kit 3 Sense 2 ∷ []) (omega arith) free in
    let all = (top_part plan kit wire tracks f stands q.0 q.1).close (pitch wire) close in
    let one = close_in_banks b us (banks_of plan) inside (subst (λ (p : ℤ). HasClose p (banks_xs b us (banks_of plan))) q.1 all) in
    free (close_repeats (pitch wire) (first_slices plan kit g) (pos (one.from + slices_at b)) w plan.word_size 2 us (omega arith) inside wide_enough (subst (λ (p : ℤ). HasClose p (slices_xs b us one.from)) (sym q.1) one.close))
