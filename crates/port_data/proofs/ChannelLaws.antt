-- The channel of the formula is one that can be routed, and lies near.
use Rattle.std.proofs.Common.{◌≡◌, ◌⊎◌, inl, inr, ℕ, zero, suc, ◌+◌, ◌*◌, ◌/◌, ◌%◌, ◌<◌, ◌≤◌, ◌-◌, ℤ, pos, negsuc, ◌+ℤ◌, ◌-ℤ◌, ◌*ℤ◌, ◌≤ℤ◌, List, ◌++◌, refl, sym, subst, arith}
use Rattle.std.proofs.Math.Nat.{div-lt_iff_lt-mul}
use Rattle.std.proofs.lemmas.Bool.{cases_lt}
use Rattle.std.proofs.lemmas.Int.{ints}
use Rattle.std.proofs.lemmas.Nat.{mul-le}
use Rattle.or_geom.specs.Distance.{IsNear}
use Rattle.tech_rules.specs.declared.tech.Wire.{Wire}
use Rattle.wire_drawing.specs.Drawing.{pitch}
use Rattle.tech_rules.specs.Facts.{AreSizes}
use Rattle.channel_router.specs.declared.channel.Channel.{Channel}
use Rattle.channel_router.specs.declared.channel.ChannelPin.{ChannelPin}
use Rattle.channel_router.specs.Channel.{IsPinOf, places, AreInChannel, IsChannel}
use Rattle.sram_netlist.specs.Organization.{Organization, IsBuildable, power_of_two, words_per_row}
use Rattle.cell_roles.specs.declared.role.Role.TheVariants.{Bitcell, Mux, Sense}
use Rattle.macro_layout.specs.LayoutKit.{LayoutKit}
use Rattle.macro_layout.specs.Places.{drive_width}
use Rattle.macro_layout.specs.Floorplan.{choice_count, write_height}
use Rattle.port_lists.proofs.TabulateLaws.{some_lines}
use Rattle.port_data.specs.declared.lines.LineEnds.{LineEnds}
use Rattle.port_data.specs.Column.{IsChannelLength, AreNearPins, IsNearColumnChannel}
use Rattle.leaf_tables.specs.NearLeaf.{IsLeafLength}
use Rattle.port_data.specs.Pins.{AreNearEnds, columns_in, column_ends, sense_ends, top_pins, bottom_pins, column_channel}
use Rattle.port_data.proofs.FormulaLaws.{few_choices, few_pitches}
use Rattle.channel_router.proofs.PinListLaws.{pin_left, pin_right}
use Rattle.port_data.proofs.PinLaws.{all_pins}
use Rattle.port_data.proofs.MeetLaws.{IsOfLines, top_of, bottom_of, bottom_there, exit_of, exit_there}

-- a plan and leaf cells that lie near
pub record AreNear (plan : Organization) (kit : LayoutKit) (wire : Wire) : Type 0 where
  pub buildable : IsBuildable plan
  pub bit : kit.width Bitcell ≤ 65536
  pub write : write_height plan kit ≤ 65536
  pub sense : kit.height Sense ≤ 65536
  pub drive : drive_width plan kit ≤ 131072
  pub column_ends : AreNearEnds (column_ends plan.col_bits kit)
  pub choice : IsLeafLength (kit.pin Mux 4 3).x1
  pub sense_ends : AreNearEnds (sense_ends kit)
  pub sizes : AreSizes wire

-- a pin of one of the nets, within 2^28
pub record IsNearPin (nets net : ℕ) (x : ℤ) : Type 0 where
  pub of : net < nets
  pub near : IsChannelLength x

in_cell : (from : ℕ) (left : ℤ) → from ≤ 16777216 → IsLeafLength left → IsChannelLength (pos from +ℤ left)
in_cell from left le near = let above = near.above in let below = near.below in record { above = omega (arith, ints, le, above); below = omega (arith, ints, le, below) }

near_lines : (choices bits bit from net : ℕ) (ends : LineEnds) (x : ℤ) → bit < bits → from ≤ 16777216 → AreNearEnds ends → IsOfLines choices ends bit from net x → IsNearPin (choices + 2 * bits) net x
near_lines choices bits bit from net ends x below le near (inl lo) =
    let e = lo.0 in record { of = omega (arith, below, e); near = subst IsChannelLength (sym lo.1) (in_cell from ends.lo le near.lo) }
near_lines choices bits bit from net ends x below le near (inr ro) =
    let e = ro.0 in record { of = omega (arith, below, e); near = subst IsChannelLength (sym ro.1) (in_cell from ends.ro le near.ro) }

-- a column's place
few_before : (n width : ℕ) → n ≤ 256 → width ≤ 65536 → n * width ≤ 16777216
few_before n width few le = mul-le n width 256 65536 few le

-- a column's bit
pub bit_of : (c bits words : ℕ) → 0 < words → c < bits * words → c / words < bits
bit_of c bits words some below = (div-lt_iff_lt-mul some).1 below

sense_column : (i bits words : ℕ) → i < bits → bits * words ≤ 256 → i * words ≤ 256
sense_column i bits words below few = let le : i * words ≤ bits * words = mul-le i words bits words (omega (arith, below)) (omega arith) in omega (arith, le, few)

pub chosen : (bits c words : ℕ) → 0 < bits → words ≡ power_of_two bits → c % words < choice_count bits
chosen zero c words some is = absurd (omega (arith, some))
chosen (suc n) c words some is =
    let lines = some_lines (suc n) in
    let positive : 0 < words = subst (λ (m : ℕ). 0 < m) (sym is) lines in
    subst (λ (m : ℕ). c % words < m) is (omega (arith, positive))

near_top : (plan : Organization) (kit : LayoutKit) (wire : Wire) → AreNear plan kit wire → (net : ℕ) (x : ℤ) → IsPinOf (top_pins plan.col_bits kit (columns_in plan kit)) net x → IsNearPin (choice_count plan.col_bits + 2 * plan.word_size) net x
near_top plan kit wire near net x p = elim (top_of plan.col_bits kit (columns_in plan kit) net x p) [
  | inl line ↦
      let c = line.column in
      let below = line.below in
      let few = near.buildable.columns in
      near_lines (choice_count plan.col_bits) plan.word_size (c / words_per_row plan) (c * kit.width Bitcell) net (column_ends plan.col_bits kit) x (bit_of c plan.word_size (words_per_row plan) (some_lines plan.col_bits) below)
      (few_before c (kit.width Bitcell) (omega (arith, below, few)) near.bit) near.column_ends line.is
  | inr choice ↦
      let c = choice.column in
      let below = choice.below in
      let few = near.buildable.columns in
      let one = chosen plan.col_bits c (words_per_row plan) choice.some refl in
      let e = choice.of_net in
      record {
        of = omega (arith, one, e);
        near = subst IsChannelLength (sym choice.at) (in_cell (c * kit.width Bitcell) (kit.pin Mux 4 3).x1 (few_before c (kit.width Bitcell) (omega (arith, below, few)) near.bit) near.choice);
      }
]

near_bottom : (plan : Organization) (kit : LayoutKit) (wire : Wire) → AreNear plan kit wire → (net : ℕ) (x : ℤ) → IsPinOf (bottom_pins kit (columns_in plan kit)) net x → IsNearPin (choice_count plan.col_bits + 2 * plan.word_size) net x
near_bottom plan kit wire near net x p =
    let line = bottom_of kit (columns_in plan kit) net x p in
    near_lines (choice_count plan.col_bits) plan.word_size line.bit ((line.bit * words_per_row plan) * kit.width Bitcell) net (sense_ends kit) x line.below
    (few_before (line.bit * words_per_row plan) (kit.width Bitcell) (sense_column line.bit plan.word_size (words_per_row plan) line.below near.buildable.columns) near.bit) near.sense_ends line.is

exit_distance : (choices net p drive : ℕ) (z : ℤ) → choices ≤ 8 → net < choices → p ≤ 131072 → drive ≤ 131072 → pos p ≡ z → IsChannelLength (pos 0 -ℤ (((pos choices -ℤ pos net) *ℤ z) +ℤ pos drive))
exit_distance choices net p drive z few below le less is =
    let most = few_pitches (choices - net) p (omega (arith, few)) le in
    let distance : ((pos choices -ℤ pos net) *ℤ z) ≡ pos ((choices - net) * p) = λ i. left_off choices net (omega (arith, below)) i *ℤ sym is i in
    record { above = omega (arith, ints, most, less, distance); below = omega (arith, ints, most, less, distance) }
  where
    left_off : (a b : ℕ) → b ≤ a → pos a -ℤ pos b ≡ pos (a - b)
    left_off a b le = omega (arith, ints, le)

pub pitch_is : (wire : Wire) → AreSizes wire → (p : ℕ) × (p ≤ 131072) × (pos p ≡ pitch wire)
pitch_is wire sizes = by wire.width wire.space sizes.width.from sizes.width.to sizes.space.from sizes.space.to
  where
    by : (w s : ℤ) → pos 1 ≤ℤ w → w ≤ℤ pos 65536 → pos 1 ≤ℤ s → s ≤ℤ pos 65536 → (p : ℕ) × (p ≤ 131072) × (pos p ≡ w +ℤ s)
    by (pos w) (pos s) a b c d = (w + s, omega (arith, ints, b, d), refl)
    by (pos w) (negsuc s) a b c d = absurd (omega (arith, ints, c))
    by (negsuc w) s a b c d = absurd (omega (arith, ints, a))

near_exit : (plan : Organization) (kit : LayoutKit) (wire : Wire) → AreNear plan kit wire → (net : ℕ) (x : ℤ) → IsPinOf (column_channel plan kit wire).exits net x → IsNearPin (choice_count plan.col_bits + 2 * plan.word_size) net x
near_exit plan kit wire near net x p =
    let e = exit_of (choice_count plan.col_bits) (drive_width plan kit) (pitch wire) net x p in
    let below = e.below in
    let long = pitch_is wire near.sizes in
    record {
      of = omega (arith, below);
      near = subst IsChannelLength (sym e.at) (exit_distance (choice_count plan.col_bits) net long.0 (drive_width plan kit) (pitch wire) (few_choices plan.col_bits near.buildable.choices) below long.1 near.drive long.2);
    }

pub nearer : (z : ℤ) → IsChannelLength z → IsNear z
nearer z near = let above = near.above in let below = near.below in record { above = omega (arith, ints, above); below = omega (arith, ints, below) }

in_channel : (nets : ℕ) (pins : List ChannelPin) → ((net : ℕ) (x : ℤ) → IsPinOf pins net x → IsNearPin nets net x) → AreInChannel nets pins
in_channel nets pins each = record {
  of_nets = all_pins (λ net x. net < nets) pins (λ net x p. (each net x p).of);
  near = all_pins (λ net x. IsNear x) pins (λ net x p. nearer x (each net x p).near);
}

-- a number is even or odd
pub halves : (m : ℕ) → (i : ℕ) × ((m ≡ 2 * i) ⊎ (m ≡ 2 * i + 1))
halves zero = (0, inl refl)
halves (suc m) = let h = halves m in elim h.1 [ inl even ↦ (h.0, inr (omega (arith, even))) | inr odd ↦ (suc h.0, inl (omega (arith, odd))) ]

low_of : (plan : Organization) (kit : LayoutKit) (wire : Wire) → AreNear plan kit wire → IsChannelLength (column_channel plan kit wire).low
low_of plan kit wire near = let write = near.write in let sense = near.sense in record { above = omega (arith, ints); below = omega (arith, ints, write, sense) }

-- each net has a pin or an exit
met : (plan : Organization) (kit : LayoutKit) (wire : Wire) → (net : ℕ) → net < choice_count plan.col_bits + 2 * plan.word_size → (x : ℤ) × IsPinOf (places (column_channel plan kit wire)) net x
met plan kit wire net below = elim (cases_lt net choices) [
  | inl exit ↦ (_, pin_right (ch.top ++ ch.bottom) ch.exits net _ (exit_there choices (drive_width plan kit) (pitch wire) net _ (record { below = exit; at = refl })))
  | inr line ↦ bottom line (halves (net - choices))
]
  where
    choices : ℕ
    choices = choice_count plan.col_bits

    ch : Channel
    ch = column_channel plan kit wire

    at_bit : (i : ℕ) → i < plan.word_size → (x : ℤ) → IsOfLines (choice_count plan.col_bits) (sense_ends kit) i ((i * words_per_row plan) * kit.width Bitcell) net x → IsPinOf (places (column_channel plan kit wire)) net x
    at_bit i less x line =
        let c = column_channel plan kit wire in
        pin_left (c.top ++ c.bottom) c.exits net x (pin_right c.top c.bottom net x (bottom_there kit (columns_in plan kit) net x (record { bit = i; below = less; is = line })))

    bottom : choice_count plan.col_bits ≤ net → (i : ℕ) × ((net - choice_count plan.col_bits ≡ 2 * i) ⊎ (net - choice_count plan.col_bits ≡ 2 * i + 1)) → (x : ℤ) × IsPinOf (places (column_channel plan kit wire)) net x
    bottom from h = elim h.1 [
      | inl even ↦ (_, at_bit h.0 (omega (arith, below, from, even)) _ (inl (omega (arith, from, even), refl)))
      | inr odd ↦ (_, at_bit h.0 (omega (arith, below, from, odd)) _ (inr (omega (arith, from, odd), refl)))
    ]

pub is_channel : (plan : Organization) (kit : LayoutKit) (wire : Wire) → AreNear plan kit wire → IsChannel (column_channel plan kit wire)
is_channel plan kit wire near = record {
  low = nearer _ (low_of plan kit wire near);
  top = in_channel _ _ (near_top plan kit wire near);
  bottom = in_channel _ _ (near_bottom plan kit wire near);
  exits = in_channel _ _ (near_exit plan kit wire near);
  met = met plan kit wire;
}

few_words : (plan : Organization) → IsBuildable plan → plan.word_size ≤ 256
few_words plan is = word_few plan.word_size (words_per_row plan) (some_lines plan.col_bits) is.columns
  where
    word_few : (bits words : ℕ) → 0 < words → bits * words ≤ 256 → bits ≤ 256
    word_few bits words some few = let le : bits * 1 ≤ bits * words = mul-le bits 1 bits words (omega arith) (omega (arith, some)) in omega (arith, le, few)

within : (nets : ℕ) (pins : List ChannelPin) → ((net : ℕ) (x : ℤ) → IsPinOf pins net x → IsNearPin nets net x) → AreNearPins pins
within nets pins each = all_pins (λ net x. IsChannelLength x) pins (λ net x p. (each net x p).near)

pub is_near : (plan : Organization) (kit : LayoutKit) (wire : Wire) → AreNear plan kit wire → IsNearColumnChannel (column_channel plan kit wire)
is_near plan kit wire near = record {
  nets = let few = few_choices plan.col_bits near.buildable.choices in let words = few_words plan near.buildable in omega (arith, few, words);
  low = low_of plan kit wire near;
  top = within _ _ (near_top plan kit wire near);
  bottom = within _ _ (near_bottom plan kit wire near);
  exits = within _ _ (near_exit plan kit wire near);
}
