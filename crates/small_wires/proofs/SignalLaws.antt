-- Signals: the nets of the main channel, and those on the ports of a cell of the logic row before its supplies.
use Rattle.std.proofs.Common.{◌≡◌, inl, inr, ◌∙◌, ℕ, zero, suc, ◌+◌, ◌≤◌, List, [], ◌∷◌, ◌++◌, map, length, Some, refl, sym, subst, length-append, arith}
use Rattle.std.specs.Prelude.{slice_get}
use Rattle.std.specs.List.{AllByRecursion}
use Rattle.std.proofs.lemmas.Option.{same_Some}
use Rattle.std.proofs.lemmas.Bool.{cases_lt}
use Rattle.sram_netlist.specs.Organization.{Organization, IsWritten, inputs_of, addr_bits}
use Rattle.sram_netlist.specs.Nets.{Net, Vdd, Gnd, Addr, Din, Dout, Wmask, LineB, WenB}
use Rattle.sram_netlist.specs.Instances.{LogicCell, Clki, Csd, Wed, Csi, Wei, Wln, Wli, Wrn, Wri, Rdn, Rdi, Dlay, Senn, Seni, Ad, Ai, Dd, Dm, Pn, Pi, Ln, Li, Kn, Ki, Gn, Gi}
use Rattle.sram_netlist.specs.Netlist.{picks, enable_inputs, supply_nets, logic_cell_ports, web_nets}
use Rattle.sram_netlist.specs.Membership.{HasLogicCell}
use Rattle.sram_netlist.specs.InstanceList.{numbers_from, tabulate, logic_cells}
use Rattle.macro_layout.specs.Pins.{port_nets, main_nets, output_of, before_supplies}
use Rattle.sram_netlist.proofs.InstanceLists.{place_in}
use Rattle.route_laws.proofs.NumberLaws.{ports_main}
use Rattle.moved_nets.specs.Moved.{Moves, logic_net}
use Rattle.small_wires.proofs.ColumnNetLaws.{HasNumber}

abbrev pub IsSignal : Net → Type 0
IsSignal Vdd = ⊥
IsSignal Gnd = ⊥
IsSignal net = Unit {0}

both : (xs ys : List Net) → AllByRecursion IsSignal xs → AllByRecursion IsSignal ys → AllByRecursion IsSignal (xs ++ ys)
both [] ys a b = b
both (x ∷ xs) ys a b = (a.0, both xs ys a.1 b)

each : (F : ℕ → Net) → ((k : ℕ) → IsSignal (F k)) → (ns : List ℕ) → AllByRecursion IsSignal (map F ns)
each F all [] = tt
each F all (n ∷ ns) = (all n, each F all ns)

at_all : (xs : List Net) (k : ℕ) (x : Net) → AllByRecursion IsSignal xs → slice_get xs k ≡ Some x → IsSignal x
at_all [] k x all e = absurd cc
at_all (y ∷ ys) zero x all e = subst IsSignal (same_Some y x e) all.0
at_all (y ∷ ys) (suc k) x all e = at_all ys k x all.1 e

-- the last of a list before its supplies
one_less : (n : Net) (xs : List Net) → 3 ≤ length xs → before_supplies (n ∷ xs) ≡ before_supplies xs
one_less n [] three = absurd (omega (arith, three))
one_less n (a ∷ []) three = absurd (omega (arith, three))
one_less n (a ∷ b ∷ []) three = absurd (omega (arith, three))
one_less n (a ∷ b ∷ c ∷ rest) three = refl

last_before : (xs : List Net) (z : Net) → before_supplies (xs ++ z ∷ supply_nets) ≡ z
last_before [] z = refl
last_before (x ∷ xs) z = let long = length-append xs (z ∷ supply_nets) in one_less x (xs ++ z ∷ supply_nets) (omega (arith, long)) ∙ last_before xs z

output_signal : (plan : Organization) (c : LogicCell) → IsSignal (output_of plan c)
output_signal plan Clki = tt
output_signal plan Csd = tt
output_signal plan Wed = tt
output_signal plan Csi = tt
output_signal plan Wei = tt
output_signal plan Wln = tt
output_signal plan Wli = tt
output_signal plan Wrn = tt
output_signal plan Wri = tt
output_signal plan Rdn = tt
output_signal plan Rdi = tt
output_signal plan Dlay = tt
output_signal plan Senn = tt
output_signal plan Seni = tt
output_signal plan (Ad i) = tt
output_signal plan (Ai i) = tt
output_signal plan (Dd i) = tt
output_signal plan (Dm m) = tt
output_signal plan (Pn o b k) = subst IsSignal (sym (last_before (picks o b k) (LineB o b k))) tt
output_signal plan (Pi o b k) = tt
output_signal plan (Ln b) = tt
output_signal plan (Li b) = tt
output_signal plan (Kn b) = tt
output_signal plan (Ki b) = tt
output_signal plan (Gn b m) = subst IsSignal (sym (last_before (enable_inputs plan b m) (WenB b m))) tt
output_signal plan (Gi b m) = tt

outputs : (plan : Organization) (cells : List LogicCell) → AllByRecursion IsSignal (map (output_of plan) cells)
outputs plan [] = tt
outputs plan (c ∷ cs) = (output_signal plan c, outputs plan cs)

webs : (n : ℕ) → AllByRecursion IsSignal (web_nets n)
webs zero = tt
webs (suc n) = (tt, tt)

-- Each net of the main channel is a signal.
pub main_signal : (plan : Organization) (k : ℕ) (x : Net) → slice_get (main_nets plan) k ≡ Some x → IsSignal x
main_signal plan k x e = at_all (main_nets plan) k x (both (port_nets plan) (map (output_of plan) (logic_cells plan)) (tt, (tt, ports)) (outputs plan (logic_cells plan))) e where
  ports : AllByRecursion IsSignal (web_nets plan.write_size ++ (tabulate plan.masks Wmask ++ (tabulate (addr_bits plan) Addr ++ (tabulate (inputs_of plan) Din ++ tabulate plan.word_size Dout))))
  ports =
      both (web_nets plan.write_size) (tabulate plan.masks Wmask ++ (tabulate (addr_bits plan) Addr ++ (tabulate (inputs_of plan) Din ++ tabulate plan.word_size Dout))) (webs plan.write_size)
      (both (tabulate plan.masks Wmask) (tabulate (addr_bits plan) Addr ++ (tabulate (inputs_of plan) Din ++ tabulate plan.word_size Dout)) (each Wmask (λ i. tt) (numbers_from 0 plan.masks))
      (both (tabulate (addr_bits plan) Addr) (tabulate (inputs_of plan) Din ++ tabulate plan.word_size Dout) (each Addr (λ i. tt) (numbers_from 0 (addr_bits plan)))
      (both (tabulate (inputs_of plan) Din) (tabulate plan.word_size Dout) (each Din (λ i. tt) (numbers_from 0 (inputs_of plan))) (each Dout (λ i. tt) (numbers_from 0 plan.word_size)))))

-- The last two of a cell's nets are its supplies

record EndsInSupplies (l : List Net) : Type 0 where
  long : 2 ≤ length l
  last : (q : ℕ) (y : Net) → slice_get l q ≡ Some y → length l ≤ q + 2 → IsSignal y → ⊥

base : EndsInSupplies supply_nets
base = record { long = omega arith; last = last } where
  last : (q : ℕ) (y : Net) → slice_get supply_nets q ≡ Some y → length supply_nets ≤ q + 2 → IsSignal y → ⊥
  last zero y e le h = subst IsSignal (sym (same_Some Vdd y e)) h
  last (suc zero) y e le h = subst IsSignal (sym (same_Some Gnd y e)) h
  last (suc (suc q)) y e le h = cc

one : (x : Net) (l : List Net) → EndsInSupplies l → EndsInSupplies (x ∷ l)
one x l e = record { long = (let a = e.long in omega (arith, a)); last = last } where
  last : (q : ℕ) (y : Net) → slice_get (x ∷ l) q ≡ Some y → length (x ∷ l) ≤ q + 2 → IsSignal y → ⊥
  last zero y at le h = let a = e.long in omega (arith, a, le)
  last (suc q) y at le h = e.last q y at (omega (arith, le)) h

some : (xs l : List Net) → EndsInSupplies l → EndsInSupplies (xs ++ l)
some [] l e = e
some (x ∷ xs) l e = one x (xs ++ l) (some xs l e)

cell_ends : (plan : Organization) (c : LogicCell) → EndsInSupplies (logic_cell_ports plan c)
cell_ends plan Clki = one _ _ (one _ _ base)
cell_ends plan Csd = one _ _ (one _ _ (one _ _ base))
cell_ends plan Wed = one _ _ (one _ _ (one _ _ base))
cell_ends plan Csi = one _ _ (one _ _ base)
cell_ends plan Wei = one _ _ (one _ _ base)
cell_ends plan Wln = one _ _ (one _ _ (one _ _ base))
cell_ends plan Wli = one _ _ (one _ _ base)
cell_ends plan Wrn = one _ _ (one _ _ (one _ _ (one _ _ base)))
cell_ends plan Wri = one _ _ (one _ _ base)
cell_ends plan Rdn = one _ _ (one _ _ (one _ _ (one _ _ base)))
cell_ends plan Rdi = one _ _ (one _ _ base)
cell_ends plan Dlay = one _ _ (one _ _ base)
cell_ends plan Senn = one _ _ (one _ _ (one _ _ base))
cell_ends plan Seni = one _ _ (one _ _ base)
cell_ends plan (Ad i) = one _ _ (one _ _ (one _ _ base))
cell_ends plan (Ai i) = one _ _ (one _ _ base)
cell_ends plan (Dd i) = one _ _ (one _ _ (one _ _ base))
cell_ends plan (Dm m) = one _ _ (one _ _ (one _ _ base))
cell_ends plan (Pn o b k) = some (picks o b k) (LineB o b k ∷ supply_nets) (one _ _ base)
cell_ends plan (Pi o b k) = one _ _ (one _ _ base)
cell_ends plan (Ln b) = one _ _ (one _ _ (one _ _ base))
cell_ends plan (Li b) = one _ _ (one _ _ base)
cell_ends plan (Kn b) = one _ _ (one _ _ (one _ _ base))
cell_ends plan (Ki b) = one _ _ (one _ _ base)
cell_ends plan (Gn b m) = some (enable_inputs plan b m) (WenB b m ∷ supply_nets) (one _ _ base)
cell_ends plan (Gi b m) = one _ _ (one _ _ base)

-- A signal on a port of a cell is one of the main channel's nets.
pub signal_number : (plan : Organization) (c : LogicCell) (port : ℕ) (net : Net) → IsWritten plan → HasLogicCell plan c → slice_get (logic_cell_ports plan c) port ≡ Some net → IsSignal net → HasNumber (main_nets plan) net
signal_number plan c port net written has on signal = elim (cases_lt (port + 2) (length (logic_cell_ports plan c))) [
  | inl lt ↦ place_in net (main_nets plan) ((ports_main plan c written has).each port net on lt)
  | inr ge ↦ absurd ((cell_ends plan c).last port net on ge signal)
]

-- what moves to a signal is one
pub signal_back : (v : Moves) (x : Net) → IsSignal (logic_net v x) → IsSignal x
signal_back v Vdd h = h
signal_back v Gnd h = h
signal_back v net h = other net h where
  other : (net : Net) → IsSignal (logic_net v net) → IsSignal net
  other Vdd h = h
  other Gnd h = h
  other net h = tt
