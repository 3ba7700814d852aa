-- Nets of a small memory's main channel: those on the ports of its slices and of its logic row.
use Rattle.std.proofs.Common.{◌≡◌, ◌⊎◌, inl, inr, ℕ, zero, suc, ◌/◌, ◌<◌, Option, Some, refl, sym, subst, arith}
use Rattle.std.specs.Prelude.{slice_get}
use Rattle.std.proofs.lemmas.Nat.{div_below}
use Rattle.std.proofs.lemmas.Option.{same_Some}
use Rattle.sram_netlist.specs.Organization.{Organization, IsWritten, banks_of}
use Rattle.sram_netlist.specs.Nets.{Net, Control, Wen, D, Dout, WenAt}
use Rattle.sram_netlist.specs.Instances.{SenseAt, WriteAt, Dd, Wri, Gi}
use Rattle.sram_netlist.specs.Netlist.{ports, enables_of, enable_count, enable_at, mask_of}
use Rattle.sram_netlist.specs.Membership.{IsOneOf}
use Rattle.macro_layout.specs.Pins.{main_nets}
use Rattle.good_places.proofs.LaidLaws.{written_all}
use Rattle.sram_netlist.proofs.InstanceLists.{place_in}
use Rattle.route_laws.proofs.NumberLaws.{output_main, result_main}
use Rattle.small_wires.proofs.ColumnNetLaws.{HasNumber}

enable_main : (plan : Organization) (n masks bank m : ℕ) → plan.bank_bits ≡ n → plan.masks ≡ masks → IsWritten plan → bank < banks_of plan → m < enables_of plan → IsOneOf (enable_at n masks bank m) (main_nets plan)
enable_main plan zero zero bank m e f w in_bank in_mask = output_main plan Wri (Control Wen) w refl
enable_main plan zero (suc masks) bank m e f w in_bank in_mask = output_main plan (Gi bank m) (WenAt bank m) ((in_bank, in_mask), inr (omega (arith, f))) refl
enable_main plan (suc n) masks bank m e f w in_bank in_mask = output_main plan (Gi bank m) (WenAt bank m) ((in_bank, in_mask), inl (omega (arith, e))) refl

-- the mask of a bit that is written by itself
own_mask : (masks word write j : ℕ) → (masks ≡ 0) ⊎ ((write ≡ 1) × (masks ≡ word)) → j < word → mask_of masks write j < enable_count masks
own_mask zero word write j are lt = omega arith
own_mask (suc masks) word write j (inl none) lt = absurd (omega (arith, none))
own_mask (suc masks) word write j (inr one) lt = subst (λ (w : ℕ). j / w < suc masks) (sym one.0) (let e = one.1 in div_below j 1 (suc masks) (omega arith) (omega (arith, e, lt)))

module _ (plan : Organization) (written : IsWritten plan) (one_by_one : (plan.masks ≡ 0) ⊎ ((plan.write_size ≡ 1) × (plan.masks ≡ plan.word_size))) where
  named : (x y : Net) → ◌≡◌ {A = Option Net} (Some x) (Some y) → IsOneOf x (main_nets plan) → HasNumber (main_nets plan) y
  named x y e is = place_in y (main_nets plan) (subst (λ (n : Net). IsOneOf n (main_nets plan)) (same_Some x y e) is)

  pub data_number : (b j : ℕ) (net : Net) → j < plan.word_size → slice_get (ports plan (WriteAt b j)) 0 ≡ Some net → HasNumber (main_nets plan) net
  data_number b j net lt e = named (D j) net e (output_main plan (Dd j) (D j) (subst (λ (n : ℕ). j < n) (sym (written_all plan.write_size plan.word_size written)) lt) refl)

  pub enable_number : (b j : ℕ) (net : Net) → b < banks_of plan → j < plan.word_size → slice_get (ports plan (WriteAt b j)) 3 ≡ Some net → HasNumber (main_nets plan) net
  enable_number b j net in_bank lt e =
      named (enable_at plan.bank_bits plan.masks b (mask_of plan.masks plan.write_size j)) net e
      (enable_main plan plan.bank_bits plan.masks b (mask_of plan.masks plan.write_size j) refl refl written in_bank (subst (λ (n : ℕ). mask_of plan.masks plan.write_size j < n) (sym (written_all plan.write_size (enable_count plan.masks) written)) (own_mask plan.masks plan.word_size plan.write_size j one_by_one lt)))

  pub result_number : (b j : ℕ) (net : Net) → j < plan.word_size → slice_get (ports plan (SenseAt b j)) 2 ≡ Some net → HasNumber (main_nets plan) net
  result_number b j net lt e = named (Dout j) net e (result_main plan j lt)
