-- Each net of a row's lines, of an enable and of a bit's data is one of the main channel's.
use Rattle.std.proofs.Common.{◌≡◌, ◌⊎◌, inl, inr, ℕ, zero, suc, ◌+◌, ◌<◌, length, refl, arith}
use Rattle.std.specs.Prelude.{Some, slice_get}
use Rattle.sram_netlist.specs.Organization.{Organization, IsBuildable, IsWritten, power_of_two, inputs_of, banks_of}
use Rattle.sram_netlist.specs.Nets.{Net, Clkb, Control, Dout, D, Line}
use Rattle.sram_netlist.specs.Instances.{LogicCell, LogicAt, Clki, Wri, Wli, Seni, Pi, Dd, Li, Ki, Gi}
use Rattle.sram_netlist.specs.Netlist.{ports, wlen_at, sen_at, enable_at, mask_of}
use Rattle.sram_netlist.specs.Membership.{IsOneOf, IsChoice, HasLogicCell}
use Rattle.sram_netlist.proofs.Bounds.{some_written}
use Rattle.sram_rows.proofs.PlainNames.{written_mask_few}
use Rattle.macro_layout.specs.Pins.{main_nets}
use Rattle.sram_netlist.proofs.InstanceLists.{place_in}
use Rattle.route_laws.proofs.NumberLaws.{output_main, result_main, ports_main}
use Rattle.macro_nets.specs.Numbers.{HasMainNumber}

numbered : (plan : Organization) (net : Net) → IsOneOf net (main_nets plan) → HasMainNumber plan net
numbered plan net is = let at = place_in net (main_nets plan) is in record { number = at.0; named = at.1 }

-- lines
pub line_number : (plan : Organization) (o b k : ℕ) → IsChoice plan o b → k < power_of_two b → HasMainNumber plan (Line o b k)
line_number plan o b k choice lt = numbered plan (Line o b k) (output_main plan (Pi o b k) (Line o b k) (choice, lt) refl)

-- a bank's word line enable and its sense enable, and the clock inverted
pub wlen_number : (plan : Organization) (b : ℕ) → b < banks_of plan → HasMainNumber plan (wlen_at plan.bank_bits b)
wlen_number plan b lt = by plan.bank_bits refl where
  by : (n : ℕ) → plan.bank_bits ≡ n → HasMainNumber plan (wlen_at n b)
  by zero e = numbered plan (wlen_at 0 b) (output_main plan Wli (wlen_at 0 b) tt refl)
  by (suc n) e = numbered plan (wlen_at (suc n) b) (output_main plan (Li b) (wlen_at (suc n) b) (lt, omega (arith, e)) refl)

pub sen_number : (plan : Organization) (b : ℕ) → b < banks_of plan → HasMainNumber plan (sen_at plan.bank_bits b)
sen_number plan b lt = by plan.bank_bits refl where
  by : (n : ℕ) → plan.bank_bits ≡ n → HasMainNumber plan (sen_at n b)
  by zero e = numbered plan (sen_at 0 b) (output_main plan Seni (sen_at 0 b) tt refl)
  by (suc n) e = numbered plan (sen_at (suc n) b) (output_main plan (Ki b) (sen_at (suc n) b) (lt, omega (arith, e)) refl)

pub clock_number : (plan : Organization) → HasMainNumber plan (Control Clkb)
clock_number plan = numbered plan (Control Clkb) (output_main plan Clki (Control Clkb) tt refl)

-- data
pub din_number : (plan : Organization) (i : ℕ) → i < inputs_of plan → HasMainNumber plan (D i)
din_number plan i lt = numbered plan (D i) (output_main plan (Dd i) (D i) lt refl)

pub dout_number : (plan : Organization) (i : ℕ) → i < plan.word_size → HasMainNumber plan (Dout i)
dout_number plan i lt = numbered plan (Dout i) (result_main plan i lt)

-- a write enable
pub enable_number : (plan : Organization) → IsBuildable plan → (b i : ℕ) → b < banks_of plan → i < inputs_of plan → HasMainNumber plan (enable_at plan.bank_bits plan.masks b (mask_of plan.masks plan.write_size i))
enable_number plan build b i of_bank of_input = by plan.bank_bits plan.masks refl refl where
  m : ℕ
  m = mask_of plan.masks plan.write_size i

  gated : (0 < plan.bank_bits) ⊎ (0 < plan.masks) → HasLogicCell plan (Gi b (mask_of plan.masks plan.write_size i))
  gated several = ((of_bank, written_mask_few plan build i of_input), several)

  by : (n masks : ℕ) → plan.bank_bits ≡ n → plan.masks ≡ masks → HasMainNumber plan (enable_at n masks b (mask_of plan.masks plan.write_size i))
  by zero zero e d = numbered plan (enable_at 0 0 b (mask_of plan.masks plan.write_size i)) (output_main plan Wri (enable_at 0 0 b (mask_of plan.masks plan.write_size i)) (some_written plan.write_size plan.word_size i of_input) refl)
  by zero (suc masks) e d = numbered plan (enable_at 0 (suc masks) b (mask_of plan.masks plan.write_size i)) (output_main plan (Gi b (mask_of plan.masks plan.write_size i)) (enable_at 0 (suc masks) b (mask_of plan.masks plan.write_size i)) (gated (inr (omega (arith, d)))) refl)
  by (suc n) masks e d = numbered plan (enable_at (suc n) masks b (mask_of plan.masks plan.write_size i)) (output_main plan (Gi b (mask_of plan.masks plan.write_size i)) (enable_at (suc n) masks b (mask_of plan.masks plan.write_size i)) (gated (inl (omega (arith, e)))) refl)

-- Each signal of a cell of the logic row is.
pub signal_number : (plan : Organization) (cell : LogicCell) (port : ℕ) (net : Net) → IsWritten plan → HasLogicCell plan cell → slice_get (ports plan (LogicAt cell)) port ≡ Some net → port + 2 < length (ports plan (LogicAt cell)) → HasMainNumber plan net
signal_number plan cell port net written has on signal = numbered plan net ((ports_main plan cell written has).each port net on signal)
