-- The channel's formula, as the program makes it.
use Rattle.std.proofs.Common.{◌≡◌, ℕ, zero, suc, ◌+◌, ◌*◌, ◌≤◌, ℤ, pos, ◌+ℤ◌, ◌-ℤ◌, ◌*ℤ◌, ◌-◌, to_z, of_z, w64, List, ◌++◌, refl, ap, sym, ◌∙◌, arith}
use Rattle.std.proofs.Math.Nat.{mul-le-mul_left}
use Rattle.std.proofs.lemmas.Int.{ints}
use Rattle.std.proofs.lemmas.List.{append-nil}
use Rattle.cell_roles.specs.declared.role.Role.TheVariants.{Mux, Tie}
use Rattle.sram_netlist.specs.InstanceList.{tabulate}
use Rattle.channel_router.specs.declared.channel.ChannelPin.{ChannelPin}
use Rattle.macro_layout.specs.LayoutKit.{LayoutKit}
use Rattle.macro_layout.specs.Floorplan.{choice_count}
use Rattle.port_data.specs.declared.columns.Columns.{Columns}
use Rattle.port_data.specs.declared.lines.LineEnds.{LineEnds}
use Rattle.leaf_tables.specs.NearLeaf.{IsLeafLength}
use Rattle.port_data.specs.Pins.{column_ends, column_choice, choice_pins}

-- as it is read
pub kept : (z : ℤ) → IsLeafLength z → to_z w64 (of_z w64 z) ≡ z
kept z near = let above = near.above in let below = near.below in omega (arith, ints, above, below)

abbrev pub ends_at : ℤ → ℤ → LineEnds
ends_at lo ro = record { lo = lo; ro = ro }

pub ends_of_ties : (bits : ℕ) (kit : LayoutKit) (lo ro : ℤ) → bits ≡ 0 → lo ≡ (kit.pin Tie 0 3).x1 → ro ≡ (kit.pin Tie 1 3).x1 → ends_at lo ro ≡ column_ends bits kit
ends_of_ties zero kit lo ro is a b = λ i. record { lo = a i; ro = b i }
ends_of_ties (suc n) kit lo ro is a b = absurd (omega (arith, is))

pub ends_of_muxes : (bits : ℕ) (kit : LayoutKit) (lo ro : ℤ) → (bits ≡ 0 → ⊥) → lo ≡ (kit.pin Mux 2 3).x1 → ro ≡ (kit.pin Mux 3 3).x1 → ends_at lo ro ≡ column_ends bits kit
ends_of_muxes zero kit lo ro other a b = absurd (other refl)
ends_of_muxes (suc n) kit lo ro other a b = λ i. record { lo = a i; ro = b i }

-- no choices, or those of the multiplexers
pub none_chosen : (bits : ℕ) (kit : LayoutKit) (columns : Columns) (old : List ChannelPin) → bits ≡ 0 → old ≡ old ++ choice_pins bits kit columns
none_chosen zero kit columns old is = sym (append-nil old)
none_chosen (suc n) kit columns old is = absurd (omega (arith, is))

pub all_chosen : (bits : ℕ) (kit : LayoutKit) (columns : Columns) (old new : List ChannelPin) (left : ℤ) → (bits ≡ 0 → ⊥) → left ≡ (kit.pin Mux 4 3).x1 → new ≡ old ++ tabulate columns.count (column_choice columns left) → new ≡ old ++ choice_pins bits kit columns
all_chosen zero kit columns old new left other at is = absurd (other refl)
all_chosen (suc n) kit columns old new left other at is = is ∙ ap (λ (z : ℤ). old ++ tabulate columns.count (column_choice columns z)) at

pub few_choices : (b : ℕ) → b ≤ 3 → choice_count b ≤ 8
few_choices zero le = omega arith
few_choices (suc zero) le = omega arith
few_choices (suc (suc zero)) le = omega arith
few_choices (suc (suc (suc zero))) le = omega arith
few_choices (suc (suc (suc (suc b)))) le = absurd (omega arith)

-- a few pitches
pub few_pitches : (n p : ℕ) → n ≤ 8 → p ≤ 131072 → n * p ≤ 1048576
few_pitches n p few le = let most : n * p ≤ n * 131072 = mul-le-mul_left n le in omega (arith, most, few)

left_of : (choices choice : ℕ) → choice ≤ choices → pos (choices - choice) ≡ pos choices -ℤ pos choice
left_of choices choice le = omega (arith, ints, le)

taken_off : (n p drive : ℕ) (z : ℤ) → n ≤ 8 → p ≤ 131072 → drive ≤ 131072 → pos (n * p) ≡ z → to_z w64 (of_z w64 (pos 0 -ℤ pos (n * p + drive))) ≡ pos 0 -ℤ (z +ℤ pos drive)
taken_off n p drive z few le less is = let most = few_pitches n p few le in omega (arith, ints, most, less, is)

pub distance_read : (z : ℤ) (n : ℕ) → z ≡ pos n → n ≤ 1179648 → to_z w64 (of_z w64 z) ≡ pos n
distance_read z n is le = omega (arith, ints, is, le)

pub exit_made : (choices choice p drive : ℕ) (pitch : ℤ) → choices ≤ 8 → choice ≤ choices → p ≤ 131072 → drive ≤ 131072 → pos p ≡ pitch
    → to_z w64 (of_z w64 (pos 0 -ℤ pos ((choices - choice) * p + drive))) ≡ pos 0 -ℤ (((pos choices -ℤ pos choice) *ℤ pitch) +ℤ pos drive)
exit_made choices choice p drive pitch few below le less is =
    taken_off (choices - choice) p drive ((pos choices -ℤ pos choice) *ℤ pitch) (omega (arith, few)) le less (λ i. left_of choices choice below i *ℤ is i)
