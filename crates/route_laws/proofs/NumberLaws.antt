-- Each net on a port of the logic row is one of the main channel's, but for supplies.
use Rattle.std.proofs.Common.{◌≡◌, inl, inr, ℕ, zero, suc, ◌+◌, ◌/◌, ◌<◌, ◌≤◌, Bool, true, false, List, [], ◌∷◌, ◌++◌, map, length, append_assoc, refl, sym, subst, arith}
use Rattle.std.specs.List.{AllByRecursion}
use Rattle.std.specs.Prelude.{slice_get, Some}
use Rattle.std.proofs.lemmas.Option.{same_Some}
use Rattle.sram_netlist.specs.Organization.{Organization, IsWritten, inputs_of, banks_of, bank_bit, addr_bits}
use Rattle.sram_netlist.specs.Nets.{Net, Clk0, Csb0, Web0, Clkb, Csq, Weq, Cs, We, Wlb, Wlen, Wrb, Wen, Rdb, Rd, Dly, Seb, Sen, Control, Addr, Din, Dout, Wmask, A, Na, D, M, LineB, Line, WlenB, WlenAt, SenB, SenAt, WenB, WenAt}
use Rattle.sram_netlist.specs.Instances.{LogicCell, Clki, Csd, Wed, Csi, Wei, Wln, Wli, Wrn, Wri, Rdn, Rdi, Dlay, Senn, Seni, Ad, Ai, Dd, Dm, Pn, Pi, Ln, Li, Kn, Ki, Gn, Gi}
use Rattle.sram_netlist.specs.Netlist.{pick, picks, lowest_bit, enable_count, sense_start, enable_inputs, bank_input, mask_input, supply_nets, logic_cell_ports, web_nets}
use Rattle.sram_netlist.specs.Membership.{HasLogicCell, IsOneOf}
use Rattle.sram_netlist.specs.InstanceList.{tabulate, logic_cells}
use Rattle.sram_netlist.proofs.InstanceLists.{in_front, in_back, to_map, to_each, to_cells}
use Rattle.sram_rows.proofs.LogicCells.{choice_within}
use Rattle.sram_rows.proofs.PlainNames.{enables_within}
use Rattle.macro_layout.specs.Pins.{port_nets, main_nets, output_of}
use Rattle.main_channel.proofs.NetLaws.{last_before}

-- one of the channel's
pub record IsMain (plan : Organization) (x : Net) : Type 0 where
  pub is : IsOneOf x (main_nets plan)

main : (plan : Organization) (x : Net) → IsOneOf x (main_nets plan) → IsMain plan x
main plan x is = record { is = is }

-- all of the list are, but for the last two
pub record AreMain (plan : Organization) (l : List Net) : Type 0 where
  pub each : (q : ℕ) (y : Net) → slice_get l q ≡ Some y → q + 2 < length l → IsOneOf y (main_nets plan)

abbrev AllMain : Organization → List Net → Type 0
AllMain plan l = AllByRecursion (IsMain plan) l

supplies : (plan : Organization) → AreMain plan supply_nets
supplies plan = record { each = λ q y at less. absurd (omega (arith, less)) }

more : {plan : Organization} {x : Net} {l : List Net} → IsMain plan x → AreMain plan l → AreMain plan (x ∷ l)
more {plan} {x} {l} first later = record { each = each }
  where
    each : (q : ℕ) (y : Net) → slice_get (x ∷ l) q ≡ Some y → q + 2 < length (x ∷ l) → IsOneOf y (main_nets plan)
    each zero y at less = subst (λ (z : Net). IsOneOf z (main_nets plan)) (same_Some x y at) first.is
    each (suc q) y at less = later.each q y at (omega (arith, less))

joined : (plan : Organization) (xs ys : List Net) → AllMain plan xs → AreMain plan ys → AreMain plan (xs ++ ys)
joined plan [] ys a b = b
joined plan (x ∷ xs) ys a b = more a.0 (joined plan xs ys a.1 b)

-- an output, and a port
pub output_main : (plan : Organization) (c : LogicCell) (x : Net) → HasLogicCell plan c → output_of plan c ≡ x → IsOneOf x (main_nets plan)
output_main plan c x has is = subst (λ (y : Net). IsOneOf y (main_nets plan)) is (in_back (output_of plan c) (port_nets plan) (map (output_of plan) (logic_cells plan)) (to_map (output_of plan) c (logic_cells plan) (to_cells plan c has)))

pub port_main : (plan : Organization) (x : Net) → IsOneOf x (port_nets plan) → IsOneOf x (main_nets plan)
port_main plan x is = in_front x (port_nets plan) (map (output_of plan) (logic_cells plan)) is

out : (plan : Organization) (c : LogicCell) (x : Net) → HasLogicCell plan c → output_of plan c ≡ x → IsMain plan x
out plan c x has is = main plan x (output_main plan c x has is)

clock : (plan : Organization) → IsMain plan (Control Clk0)
clock plan = main plan (Control Clk0) (port_main plan (Control Clk0) (inl refl))

select : (plan : Organization) → IsMain plan (Control Csb0)
select plan = main plan (Control Csb0) (port_main plan (Control Csb0) (inr (inl refl)))

web_listed : (w : ℕ) → 0 < w → IsOneOf (Control Web0) (web_nets w)
web_listed zero some = absurd (omega (arith, some))
web_listed (suc w) some = inl refl

web : (plan : Organization) → IsWritten plan → IsMain plan (Control Web0)
web plan some = main plan (Control Web0) (port_main plan (Control Web0) (inr (inr (in_front (Control Web0) (web_nets plan.write_size) (tabulate plan.masks Wmask ++ (tabulate (addr_bits plan) Addr ++ (tabulate (inputs_of plan) Din ++ tabulate plan.word_size Dout))) (web_listed plan.write_size some)))))

mask : (plan : Organization) (m : ℕ) → m < plan.masks → IsMain plan (Wmask m)
mask plan m less = main plan (Wmask m) (port_main plan (Wmask m) (inr (inr
    (in_back (Wmask m) (web_nets plan.write_size) (tabulate plan.masks Wmask ++ (tabulate (addr_bits plan) Addr ++ (tabulate (inputs_of plan) Din ++ tabulate plan.word_size Dout)))
    (in_front (Wmask m) (tabulate plan.masks Wmask) (tabulate (addr_bits plan) Addr ++ (tabulate (inputs_of plan) Din ++ tabulate plan.word_size Dout)) (to_each plan.masks Wmask m less))))))

address : (plan : Organization) (i : ℕ) → i < addr_bits plan → IsMain plan (Addr i)
address plan i less = main plan (Addr i) (port_main plan (Addr i) (inr (inr
    (in_back (Addr i) (web_nets plan.write_size) (tabulate plan.masks Wmask ++ (tabulate (addr_bits plan) Addr ++ (tabulate (inputs_of plan) Din ++ tabulate plan.word_size Dout)))
    (in_back (Addr i) (tabulate plan.masks Wmask) (tabulate (addr_bits plan) Addr ++ (tabulate (inputs_of plan) Din ++ tabulate plan.word_size Dout))
    (in_front (Addr i) (tabulate (addr_bits plan) Addr) (tabulate (inputs_of plan) Din ++ tabulate plan.word_size Dout) (to_each (addr_bits plan) Addr i less)))))))

abbrev data_ports : Organization → List Net
data_ports plan = tabulate (inputs_of plan) Din ++ tabulate plan.word_size Dout

behind_address : (plan : Organization) (x : Net) → IsOneOf x (data_ports plan) → IsOneOf x (main_nets plan)
behind_address plan x is = port_main plan x (inr (inr
    (in_back x (web_nets plan.write_size) (tabulate plan.masks Wmask ++ (tabulate (addr_bits plan) Addr ++ data_ports plan))
    (in_back x (tabulate plan.masks Wmask) (tabulate (addr_bits plan) Addr ++ data_ports plan)
    (in_back x (tabulate (addr_bits plan) Addr) (data_ports plan) is)))))

input : (plan : Organization) (i : ℕ) → i < inputs_of plan → IsMain plan (Din i)
input plan i less = main plan (Din i) (behind_address plan (Din i) (in_front (Din i) (tabulate (inputs_of plan) Din) (tabulate plan.word_size Dout) (to_each (inputs_of plan) Din i less)))

pub result_main : (plan : Organization) (i : ℕ) → i < plan.word_size → IsOneOf (Dout i) (main_nets plan)
result_main plan i less = behind_address plan (Dout i) (in_back (Dout i) (tabulate (inputs_of plan) Din) (tabulate plan.word_size Dout) (to_each plan.word_size Dout i less))

-- the cells of lines
pick_main : (plan : Organization) (i : ℕ) (odd : Bool) → i < addr_bits plan → IsMain plan (pick i odd)
pick_main plan i true lt = out plan (Ad i) (A i) lt refl
pick_main plan i false lt = out plan (Ai i) (Na i) lt refl

picks_main : (plan : Organization) (o b k : ℕ) → o + b ≤ addr_bits plan → AllMain plan (picks o b k)
picks_main plan o zero k lt = tt
picks_main plan o (suc b) k lt = (pick_main plan o (lowest_bit k) (omega (arith, lt)), picks_main plan (suc o) b (k / 2) (omega (arith, lt)))

line : (plan : Organization) (o b k : ℕ) → HasLogicCell plan (Pi o b k) → IsMain plan (Line o b k)
line plan o b k h = out plan (Pi o b k) (Line o b k) h refl

own_line : (plan : Organization) (b : ℕ) → b < banks_of plan → 0 < plan.bank_bits → IsMain plan (Line (bank_bit plan) plan.bank_bits b)
own_line plan b lt some = line plan (bank_bit plan) plan.bank_bits b (inr (inr ((refl, refl), some)), lt)

bank_main : (plan : Organization) (n b : ℕ) → plan.bank_bits ≡ n → b < banks_of plan → AllMain plan (bank_input plan n b)
bank_main plan zero b e lt = tt
bank_main plan (suc n) b e lt = (own_line plan b lt (omega (arith, e)), tt)

mask_main : (plan : Organization) (k m : ℕ) → plan.masks ≡ k → m < enable_count k → AllMain plan (mask_input k m)
mask_main plan zero m e lt = tt
mask_main plan (suc k) m e lt = (out plan (Dm m) (M m) (omega (arith, e, lt)) refl, tt)

start : (plan : Organization) (w : ℕ) → IsWritten plan → IsMain plan (sense_start w)
start plan zero some = out plan Wli (Control Wlen) tt refl
start plan (suc w) some = out plan Rdi (Control Rd) some refl

-- So of each cell, where something is written.
pub ports_main : (plan : Organization) (c : LogicCell) → IsWritten plan → HasLogicCell plan c → AreMain plan (logic_cell_ports plan c)
ports_main plan Clki w h = more (clock plan) (more (out plan Clki (Control Clkb) tt refl) (supplies plan))
ports_main plan Csd w h = more (select plan) (more (clock plan) (more (out plan Csd (Control Csq) tt refl) (supplies plan)))
ports_main plan Wed w h = more (web plan w) (more (clock plan) (more (out plan Wed (Control Weq) w refl) (supplies plan)))
ports_main plan Csi w h = more (out plan Csd (Control Csq) tt refl) (more (out plan Csi (Control Cs) tt refl) (supplies plan))
ports_main plan Wei w h = more (out plan Wed (Control Weq) w refl) (more (out plan Wei (Control We) w refl) (supplies plan))
ports_main plan Wln w h = more (out plan Csi (Control Cs) tt refl) (more (out plan Clki (Control Clkb) tt refl) (more (out plan Wln (Control Wlb) tt refl) (supplies plan)))
ports_main plan Wli w h = more (out plan Wln (Control Wlb) tt refl) (more (out plan Wli (Control Wlen) tt refl) (supplies plan))
ports_main plan Wrn w h = more (out plan Csi (Control Cs) tt refl) (more (out plan Wei (Control We) w refl) (more (out plan Clki (Control Clkb) tt refl) (more (out plan Wrn (Control Wrb) w refl) (supplies plan))))
ports_main plan Wri w h = more (out plan Wrn (Control Wrb) w refl) (more (out plan Wri (Control Wen) w refl) (supplies plan))
ports_main plan Rdn w h = more (out plan Csi (Control Cs) tt refl) (more (out plan Wed (Control Weq) w refl) (more (out plan Clki (Control Clkb) tt refl) (more (out plan Rdn (Control Rdb) w refl) (supplies plan))))
ports_main plan Rdi w h = more (out plan Rdn (Control Rdb) w refl) (more (out plan Rdi (Control Rd) w refl) (supplies plan))
ports_main plan Dlay w h = more (out plan Clki (Control Clkb) tt refl) (more (out plan Dlay (Control Dly) tt refl) (supplies plan))
ports_main plan Senn w h = more (start plan plan.write_size w) (more (out plan Dlay (Control Dly) tt refl) (more (out plan Senn (Control Seb) tt refl) (supplies plan)))
ports_main plan Seni w h = more (out plan Senn (Control Seb) tt refl) (more (out plan Seni (Control Sen) tt refl) (supplies plan))
ports_main plan (Ad i) w h = more (address plan i h) (more (clock plan) (more (out plan (Ad i) (A i) h refl) (supplies plan)))
ports_main plan (Ai i) w h = more (out plan (Ad i) (A i) h refl) (more (out plan (Ai i) (Na i) h refl) (supplies plan))
ports_main plan (Dd i) w h = more (input plan i h) (more (clock plan) (more (out plan (Dd i) (D i) h refl) (supplies plan)))
ports_main plan (Dm m) w h = more (mask plan m h) (more (clock plan) (more (out plan (Dm m) (M m) h refl) (supplies plan)))
ports_main plan (Pn o b k) w h = joined plan (picks o b k) (LineB o b k ∷ supply_nets) (picks_main plan o b k (choice_within plan o b h.0)) (more (out plan (Pn o b k) (LineB o b k) h (last_before (picks o b k) (LineB o b k))) (supplies plan))
ports_main plan (Pi o b k) w h = more (out plan (Pn o b k) (LineB o b k) h (last_before (picks o b k) (LineB o b k))) (more (line plan o b k h) (supplies plan))
ports_main plan (Ln b) w h = more (out plan Wli (Control Wlen) tt refl) (more (own_line plan b h.0 h.1) (more (out plan (Ln b) (WlenB b) h refl) (supplies plan)))
ports_main plan (Li b) w h = more (out plan (Ln b) (WlenB b) h refl) (more (out plan (Li b) (WlenAt b) h refl) (supplies plan))
ports_main plan (Kn b) w h = more (out plan Seni (Control Sen) tt refl) (more (own_line plan b h.0 h.1) (more (out plan (Kn b) (SenB b) h refl) (supplies plan)))
ports_main plan (Ki b) w h = more (out plan (Kn b) (SenB b) h refl) (more (out plan (Ki b) (SenAt b) h refl) (supplies plan))
ports_main plan (Gn b m) w h =
    more (out plan Wri (Control Wen) w refl)
    (subst (AreMain plan) (sym (append_assoc (bank_input plan plan.bank_bits b) (mask_input plan.masks m) (WenB b m ∷ supply_nets)))
    (joined plan (bank_input plan plan.bank_bits b) (mask_input plan.masks m ++ WenB b m ∷ supply_nets) (bank_main plan plan.bank_bits b refl h.0.0)
    (joined plan (mask_input plan.masks m) (WenB b m ∷ supply_nets) (mask_main plan plan.masks m refl (enables_within plan m h.0.1))
    (more (out plan (Gn b m) (WenB b m) h (last_before (enable_inputs plan b m) (WenB b m))) (supplies plan)))))
ports_main plan (Gi b m) w h = more (out plan (Gn b m) (WenB b m) h (last_before (enable_inputs plan b m) (WenB b m))) (more (out plan (Gi b m) (WenAt b m) h refl) (supplies plan))
