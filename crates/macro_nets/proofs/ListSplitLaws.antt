-- Ports of a leaf instance: its signals, and then its supplies.
use Rattle.std.proofs.Common.{◌≡◌, ◌⊎◌, inl, inr, ℕ, zero, suc, ◌+◌, ◌<◌, List, [], ◌∷◌, ◌++◌, length, Some, append_assoc, refl, sym, arith}
use Rattle.std.specs.Prelude.{slice_get}
use Rattle.sram_netlist.specs.Organization.{Organization}
use Rattle.sram_netlist.specs.Nets.{Net, Clk0, Csb0, Web0, Clkb, Csq, Weq, Cs, We, Wlb, Wlen, Wrb, Wen, Rdb, Rd, Dly, Seb, Sen, Control, Addr, Din, Wmask, A, Na, D, M, LineB, Line, WlenB, WlenAt, SenB, SenAt, WenB, WenAt}
use Rattle.sram_netlist.specs.Instances.{LogicCell, Clki, Csd, Wed, Csi, Wei, Wln, Wli, Wrn, Wri, Rdn, Rdi, Dlay, Senn, Seni, Ad, Ai, Dd, Dm, Pn, Pi, Ln, Li, Kn, Ki, Gn, Gi}
use Rattle.sram_netlist.specs.Netlist.{picks, sense_start, enable_inputs, bank_line, supply_nets, logic_cell_ports}

-- in the one list or in the other
pub split_at : (xs ys : List Net) (port : ℕ) (net : Net) → slice_get (xs ++ ys) port ≡ Some net → ((port < length xs) × (slice_get xs port ≡ Some net)) ⊎ ((j : ℕ) × (port ≡ length xs + j) × (slice_get ys j ≡ Some net))
split_at [] ys port net h = inr (port, omega arith, h)
split_at (x ∷ xs) ys zero net h = inl (omega arith, h)
split_at (x ∷ xs) ys (suc port) net h = elim (split_at xs ys port net h) [
  | inl here ↦ let lt = here.0 in inl (omega (arith, lt), here.1)
  | inr there ↦ let at = there.1 in inr (there.0, omega (arith, at), there.2)
]

pub record HasSignals (ports : List Net) : Type 0 where
  pub signals : List Net
  pub are : ports ≡ signals ++ supply_nets

by_hand : (signals : List Net) → HasSignals (signals ++ supply_nets)
by_hand signals = record { signals = signals; are = refl }

with_output : (inputs : List Net) (out : Net) → HasSignals (inputs ++ (out ∷ supply_nets))
with_output inputs out = record { signals = inputs ++ (out ∷ []); are = sym (append_assoc inputs (out ∷ []) supply_nets) }

-- So it is of each cell of the logic row.
pub logic_signals : (plan : Organization) (cell : LogicCell) → HasSignals (logic_cell_ports plan cell)
logic_signals plan Clki = by_hand (Control Clk0 ∷ Control Clkb ∷ [])
logic_signals plan Csd = by_hand (Control Csb0 ∷ Control Clk0 ∷ Control Csq ∷ [])
logic_signals plan Wed = by_hand (Control Web0 ∷ Control Clk0 ∷ Control Weq ∷ [])
logic_signals plan Csi = by_hand (Control Csq ∷ Control Cs ∷ [])
logic_signals plan Wei = by_hand (Control Weq ∷ Control We ∷ [])
logic_signals plan Wln = by_hand (Control Cs ∷ Control Clkb ∷ Control Wlb ∷ [])
logic_signals plan Wli = by_hand (Control Wlb ∷ Control Wlen ∷ [])
logic_signals plan Wrn = by_hand (Control Cs ∷ Control We ∷ Control Clkb ∷ Control Wrb ∷ [])
logic_signals plan Wri = by_hand (Control Wrb ∷ Control Wen ∷ [])
logic_signals plan Rdn = by_hand (Control Cs ∷ Control Weq ∷ Control Clkb ∷ Control Rdb ∷ [])
logic_signals plan Rdi = by_hand (Control Rdb ∷ Control Rd ∷ [])
logic_signals plan Dlay = by_hand (Control Clkb ∷ Control Dly ∷ [])
logic_signals plan Senn = by_hand (sense_start plan.write_size ∷ Control Dly ∷ Control Seb ∷ [])
logic_signals plan Seni = by_hand (Control Seb ∷ Control Sen ∷ [])
logic_signals plan (Ad i) = by_hand (Addr i ∷ Control Clk0 ∷ A i ∷ [])
logic_signals plan (Ai i) = by_hand (A i ∷ Na i ∷ [])
logic_signals plan (Pn o b k) = with_output (picks o b k) (LineB o b k)
logic_signals plan (Pi o b k) = by_hand (LineB o b k ∷ Line o b k ∷ [])
logic_signals plan (Dd i) = by_hand (Din i ∷ Control Clk0 ∷ D i ∷ [])
logic_signals plan (Dm m) = by_hand (Wmask m ∷ Control Clk0 ∷ M m ∷ [])
logic_signals plan (Ln bank) = by_hand (Control Wlen ∷ bank_line plan bank ∷ WlenB bank ∷ [])
logic_signals plan (Li bank) = by_hand (WlenB bank ∷ WlenAt bank ∷ [])
logic_signals plan (Kn bank) = by_hand (Control Sen ∷ bank_line plan bank ∷ SenB bank ∷ [])
logic_signals plan (Ki bank) = by_hand (SenB bank ∷ SenAt bank ∷ [])
logic_signals plan (Gn bank m) = with_output (enable_inputs plan bank m) (WenB bank m)
logic_signals plan (Gi bank m) = by_hand (WenB bank m ∷ WenAt bank m ∷ [])
