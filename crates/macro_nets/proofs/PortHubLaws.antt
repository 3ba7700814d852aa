-- Each port of a leaf instance is joined with the hub of its net.
use Rattle.std.proofs.Common.{◌≡◌, ◌⊎◌, inl, inr, ℕ, zero, suc, ◌+◌, ◌/◌, ◌%◌, ◌<◌, ℤ, pos, ◌≤ℤ◌, List, [], ◌∷◌, length, Option, Some, refl, sym, ap, subst, ◌∙◌, length-append, arith}
use Rattle.std.specs.Prelude.{slice_get}
use Rattle.std.proofs.lemmas.Int.{ints}
use Rattle.or_geom.specs.declared.shape.Shape.{Shape}
use Rattle.or_geom.specs.declared.place.Place.{Place}
use Rattle.cell_roles.specs.declared.role.Role.TheVariants.{Write}
use Rattle.tech_rules.specs.declared.tech.Tech.{Tech}
use Rattle.cell_hierarchy.specs.Plain.{FlatLists}
use Rattle.sram_netlist.specs.Organization.{IsWritten, inputs_of, words_per_row}
use Rattle.sram_netlist.specs.Nets.{Net, Vdd, Gnd, Clkb, Control, Dout, D, Line, Zb, Wl, Bl, Br}
use Rattle.sram_netlist.specs.Instances.{LogicCell, LeafInstance, BitAt, NandAt, DriverAt, PrechargeAt, WriteAt, SenseAt, MuxAt, TieAt, LogicAt}
use Rattle.sram_netlist.specs.Netlist.{ports, role, row_gate, row_lines, lo_net, ro_net, wlen_at, sen_at, enable_at, mask_of, supply_nets, logic_cell_ports}
use Rattle.sram_netlist.specs.Membership.{HasLeafInstance}
use Rattle.sram_netlist.proofs.Bounds.{written_all}
use Rattle.sram_rows.proofs.PlainNames.{choice_of_column}
use Rattle.macro_layout.specs.Places.{IsPlaceOf}
use Rattle.macro_layout.specs.Pins.{main_nets}
use Rattle.kit_nets.specs.StatedParts.{Source}
use Rattle.kit_nets.specs.Hubs.{IsPortJoined, IsArrayNet}
use Rattle.kit_nets.specs.OuterHubs.{AreOuterHubs}
use Rattle.kit_nets.proofs.ArrayJoinLaws.{array_hub}
use Rattle.kit_nets.proofs.ArrayNetsLaws.{some_net, not_wlen}
use Rattle.kit_nets.proofs.BankNetsLaws.{bank_joined}
use Rattle.kit_nets.proofs.DataHubLaws.{data_hub}
use Rattle.kit_nets.proofs.OuterHubLaws.{hub_is_outer}
use Rattle.kit_nets.proofs.PinJoinLaws.{standing}
use Rattle.kit_nets.proofs.SignalHubLaws.{logic_to_hub, din_to_hub, enable_to_hub, dout_to_hub}
use Rattle.supply_nets.specs.Rails.{power_port, ground_port}
use Rattle.supply_nets.specs.LaidMacro.{IsLaidMacro}
use Rattle.supply_nets.proofs.RailDemandLaws.{supplies_last}
use Rattle.supply_nets.proofs.SupplyLaws.{power_joined, ground_joined}
use Rattle.good_wires.specs.Held.{DoRailsReach}
use Rattle.macro_nets.proofs.MainNumberLaws.{line_number, wlen_number, sen_number, clock_number, din_number, dout_number, enable_number, signal_number}
use Rattle.macro_nets.proofs.RailNumberLaws.{row_line}
use Rattle.macro_nets.proofs.TapPinLaws.{lines_long, gate_joined, driver_enabled, precharge_clocked, sense_enabled}
use Rattle.macro_nets.proofs.ChoiceLaws.{choice_joined}
use Rattle.macro_nets.proofs.ListSplitLaws.{split_at, logic_signals}

pub not_sen : (n b : ℕ) → IsArrayNet (sen_at n b) → ⊥
not_sen zero b is = is
not_sen (suc n) b is = is

pub is_lo : (n b i : ℕ) → IsArrayNet (lo_net n b i)
is_lo zero b i = tt
is_lo (suc n) b i = tt

pub is_ro : (n b i : ℕ) → IsArrayNet (ro_net n b i)
is_ro zero b i = tt
is_ro (suc n) b i = tt

-- past the end
pub none_left : {X : Type 0} (port : ℕ) (net : Net) → slice_get [] port ≡ Some net → X
none_left port net h = absurd cc

gate_power : (groups : List ℕ) → (length groups ≡ 2) ⊎ (length groups ≡ 3) → power_port (row_gate groups) ≡ length groups + 1
gate_power [] (inl e) = absurd (omega (arith, e))
gate_power [] (inr e) = absurd (omega (arith, e))
gate_power (a ∷ []) (inl e) = absurd (omega (arith, e))
gate_power (a ∷ []) (inr e) = absurd (omega (arith, e))
gate_power (a ∷ b ∷ []) e = refl
gate_power (a ∷ b ∷ c ∷ []) e = refl
gate_power (a ∷ b ∷ c ∷ d ∷ gs) (inl e) = absurd (omega (arith, e))
gate_power (a ∷ b ∷ c ∷ d ∷ gs) (inr e) = absurd (omega (arith, e))

module _ (tech : Tech) (s : Source) (flat : FlatLists) (k : IsLaidMacro tech s flat) (reach : DoRailsReach s.plan s.kit s.wire s.tracks.column s.floorplan) (written : IsWritten s.plan) (outer : Net → Shape) (are : AreOuterHubs s k.main outer) where
  -- the hubs
  abbrev pub macro_hub : Net → Shape
  macro_hub net = array_hub s (data_hub s outer) net

  -- the port of the leaf, standing so, is joined with the net's hub
  abbrev Meets : (leaf : LeafInstance) (has : HasLeafInstance s.plan leaf) (place : Place) → IsPlaceOf s.plan s.kit s.floorplan leaf place → ℕ → Net → Type 0
  Meets leaf has place stands port net = IsPortJoined tech.connects s flat (standing tech.connects s flat k.by leaf has place stands) port (macro_hub net)

  named : (leaf : LeafInstance) (has : HasLeafInstance s.plan leaf) (place : Place) (stands : IsPlaceOf s.plan s.kit s.floorplan leaf place) (port : ℕ) (net name : Net) → ◌≡◌ {A = Option Net} (Some net) (Some name) → Meets leaf has place stands port net → Meets leaf has place stands port name
  named leaf has place stands port net name h = subst (λ (n : Net). Meets leaf has place stands port n) (some_net net name h)

  as_outer : (leaf : LeafInstance) (has : HasLeafInstance s.plan leaf) (place : Place) (stands : IsPlaceOf s.plan s.kit s.floorplan leaf place) (port : ℕ) (net : Net) → (IsArrayNet net → ⊥) → IsPortJoined tech.connects s flat (standing tech.connects s flat k.by leaf has place stands) port (outer net) → Meets leaf has place stands port net
  as_outer leaf has place stands port net none = subst (IsPortJoined tech.connects s flat (standing tech.connects s flat k.by leaf has place stands) port) (sym (hub_is_outer s outer net none))

  -- nets of the array
  in_array : (leaf : LeafInstance) (has : HasLeafInstance s.plan leaf) (place : Place) (stands : IsPlaceOf s.plan s.kit s.floorplan leaf place) (port : ℕ) (net name : Net) → ◌≡◌ {A = Option Net} (Some net) (Some name) → slice_get (ports s.plan leaf) port ≡ Some name → IsArrayNet net → Meets leaf has place stands port name
  in_array leaf has place stands port net name h on is = bank_joined tech s flat k.by k.joins k.sizes k.first k.pins k.build k.floor k.column outer leaf has place stands port name on (subst IsArrayNet (some_net net name h) is)

  -- supplies
  on_power : (leaf : LeafInstance) (has : HasLeafInstance s.plan leaf) (place : Place) (stands : IsPlaceOf s.plan s.kit s.floorplan leaf place) (port : ℕ) (name : Net) → power_port (role s.plan leaf) ≡ port → ◌≡◌ {A = Option Net} (Some Vdd) (Some name) → Meets leaf has place stands port name
  on_power leaf has place stands port name at h = named leaf has place stands port Vdd name h (subst (λ (p : ℕ). Meets leaf has place stands p Vdd) at (power_joined tech s flat k leaf has place stands (outer Vdd) are.power))

  on_ground : (leaf : LeafInstance) (has : HasLeafInstance s.plan leaf) (place : Place) (stands : IsPlaceOf s.plan s.kit s.floorplan leaf place) (port : ℕ) (name : Net) → ground_port (role s.plan leaf) ≡ port → ◌≡◌ {A = Option Net} (Some Gnd) (Some name) → Meets leaf has place stands port name
  on_ground leaf has place stands port name at h = named leaf has place stands port Gnd name h (subst (λ (p : ℕ). Meets leaf has place stands p Gnd) at (ground_joined tech s flat k leaf has place stands (outer Gnd) are.ground))

  -- the last two ports
  on_supply : (leaf : LeafInstance) (has : HasLeafInstance s.plan leaf) (place : Place) (stands : IsPlaceOf s.plan s.kit s.floorplan leaf place) (first j : ℕ) (name : Net) → power_port (role s.plan leaf) ≡ first → slice_get supply_nets j ≡ Some name → Meets leaf has place stands (first + j) name
  on_supply leaf has place stands first zero name at h = on_power leaf has place stands (first + 0) name (omega (arith, at)) h
  on_supply leaf has place stands first (suc zero) name at h = on_ground leaf has place stands (first + 1) name (omega (arith, at)) h
  on_supply leaf has place stands first (suc (suc j)) name at h = none_left j name h

  in_bit : (b r c : ℕ) (has : HasLeafInstance s.plan (BitAt b r c)) (place : Place) (stands : IsPlaceOf s.plan s.kit s.floorplan (BitAt b r c) place) (port : ℕ) (net : Net) → slice_get (ports s.plan (BitAt b r c)) port ≡ Some net → Meets (BitAt b r c) has place stands port net
  in_bit b r c has place stands zero net h = in_array (BitAt b r c) has place stands 0 (Bl b c) net h h tt
  in_bit b r c has place stands (suc zero) net h = in_array (BitAt b r c) has place stands 1 (Br b c) net h h tt
  in_bit b r c has place stands (suc (suc zero)) net h = in_array (BitAt b r c) has place stands 2 (Wl b r) net h h tt
  in_bit b r c has place stands (suc (suc (suc zero))) net h = on_power (BitAt b r c) has place stands 3 net refl h
  in_bit b r c has place stands (suc (suc (suc (suc zero)))) net h = on_ground (BitAt b r c) has place stands 4 net refl h
  in_bit b r c has place stands (suc (suc (suc (suc (suc port))))) net h = none_left port net h

  -- after a row's lines: what its gate drives, and its supplies
  behind_lines : (b r j : ℕ) (has : HasLeafInstance s.plan (NandAt b r)) (place : Place) (stands : IsPlaceOf s.plan s.kit s.floorplan (NandAt b r) place) (port : ℕ) (net : Net) → slice_get (ports s.plan (NandAt b r)) port ≡ Some net → port ≡ length s.plan.groups + j → slice_get (Zb b r ∷ supply_nets) j ≡ Some net → Meets (NandAt b r) has place stands port net
  behind_lines b r zero has place stands port net h at there = in_array (NandAt b r) has place stands port (Zb b r) net there h tt
  behind_lines b r (suc j) has place stands port net h at there =
      let same : (length s.plan.groups + 1) + j ≡ port = omega (arith, at) in
      subst (λ (p : ℕ). Meets (NandAt b r) has place stands p net) same (on_supply (NandAt b r) has place stands (length s.plan.groups + 1) j net (gate_power s.plan.groups k.build.groups) there)

  in_gate : (b r : ℕ) (has : HasLeafInstance s.plan (NandAt b r)) (place : Place) (stands : IsPlaceOf s.plan s.kit s.floorplan (NandAt b r) place) (port : ℕ) (net : Net) → slice_get (ports s.plan (NandAt b r)) port ≡ Some net → Meets (NandAt b r) has place stands port net
  in_gate b r has place stands port net h = elim (split_at (row_lines s.plan.groups s.plan.col_bits r) (Zb b r ∷ supply_nets) port net h) [
    | inl front ↦
        let line = row_line s.plan.groups s.plan.col_bits r port net front.1 in
        let number = line_number s.plan line.o line.b line.k (inr (inl line.group)) line.few in
        let name : slice_get (main_nets s.plan) number.number ≡ Some net = number.named ∙ ap (λ (n : Net). Some n) (sym line.is) in
        as_outer (NandAt b r) has place stands port net (subst (λ (n : Net). IsArrayNet n → ⊥) (sym line.is) (λ no. no))
        (gate_joined tech s flat k reach b r port number.number has place stands net (outer net) front.1 name (are.main number.number net name))
    | inr back ↦
        let at = back.1 in
        let long = lines_long s.plan.groups s.plan.col_bits r in
        behind_lines b r back.0 has place stands port net h (omega (arith, at, long)) back.2
  ]

  in_driver : (b r : ℕ) (has : HasLeafInstance s.plan (DriverAt b r)) (place : Place) (stands : IsPlaceOf s.plan s.kit s.floorplan (DriverAt b r) place) (port : ℕ) (net : Net) → slice_get (ports s.plan (DriverAt b r)) port ≡ Some net → Meets (DriverAt b r) has place stands port net
  in_driver b r has place stands zero net h = in_array (DriverAt b r) has place stands 0 (Zb b r) net h h tt
  in_driver b r has place stands (suc zero) net h =
      let wlen = wlen_at s.plan.bank_bits b in
      let number = wlen_number s.plan b has.0 in
      named (DriverAt b r) has place stands 1 wlen net h (as_outer (DriverAt b r) has place stands 1 wlen (not_wlen s.plan.bank_bits b) (driver_enabled tech s flat k reach b r number.number has place stands (outer wlen) number.named (are.main number.number wlen number.named)))
  in_driver b r has place stands (suc (suc zero)) net h = in_array (DriverAt b r) has place stands 2 (Wl b r) net h h tt
  in_driver b r has place stands (suc (suc (suc zero))) net h = on_power (DriverAt b r) has place stands 3 net refl h
  in_driver b r has place stands (suc (suc (suc (suc zero)))) net h = on_ground (DriverAt b r) has place stands 4 net refl h
  in_driver b r has place stands (suc (suc (suc (suc (suc port))))) net h = none_left port net h

  in_precharge : (b c : ℕ) (has : HasLeafInstance s.plan (PrechargeAt b c)) (place : Place) (stands : IsPlaceOf s.plan s.kit s.floorplan (PrechargeAt b c) place) (port : ℕ) (net : Net) → slice_get (ports s.plan (PrechargeAt b c)) port ≡ Some net → Meets (PrechargeAt b c) has place stands port net
  in_precharge b c has place stands zero net h = in_array (PrechargeAt b c) has place stands 0 (Bl b c) net h h tt
  in_precharge b c has place stands (suc zero) net h = in_array (PrechargeAt b c) has place stands 1 (Br b c) net h h tt
  in_precharge b c has place stands (suc (suc zero)) net h =
      let number = clock_number s.plan in
      named (PrechargeAt b c) has place stands 2 (Control Clkb) net h (precharge_clocked tech s flat k reach b c number.number has place stands (outer (Control Clkb)) number.named (are.main number.number (Control Clkb) number.named))
  in_precharge b c has place stands (suc (suc (suc zero))) net h = on_power (PrechargeAt b c) has place stands 3 net refl h
  in_precharge b c has place stands (suc (suc (suc (suc zero)))) net h = on_ground (PrechargeAt b c) has place stands 4 net refl h
  in_precharge b c has place stands (suc (suc (suc (suc (suc port))))) net h = none_left port net h

  in_write : (b i : ℕ) (has : HasLeafInstance s.plan (WriteAt b i)) (place : Place) (stands : IsPlaceOf s.plan s.kit s.floorplan (WriteAt b i) place) (port : ℕ) (net : Net) → slice_get (ports s.plan (WriteAt b i)) port ≡ Some net → Meets (WriteAt b i) has place stands port net
  in_write b i has place stands zero net h =
      let number = din_number s.plan i has.1 in
      named (WriteAt b i) has place stands 0 (D i) net h (din_to_hub tech s flat k.by k.joins k.sizes k.first k.pins k.floor k.main outer are b i number.number has place stands number.named)
  in_write b i has place stands (suc zero) net h = in_array (WriteAt b i) has place stands 1 (lo_net s.plan.col_bits b i) net h h (is_lo s.plan.col_bits b i)
  in_write b i has place stands (suc (suc zero)) net h = in_array (WriteAt b i) has place stands 2 (ro_net s.plan.col_bits b i) net h h (is_ro s.plan.col_bits b i)
  in_write b i has place stands (suc (suc (suc zero))) net h =
      let enable = enable_at s.plan.bank_bits s.plan.masks b (mask_of s.plan.masks s.plan.write_size i) in
      let number = enable_number s.plan k.build b i has.0 has.1 in
      named (WriteAt b i) has place stands 3 enable net h (enable_to_hub tech s flat k.by k.joins k.sizes k.first k.pins k.floor k.main outer are b i number.number has place stands number.named)
  in_write b i has place stands (suc (suc (suc (suc zero)))) net h = on_power (WriteAt b i) has place stands 4 net refl h
  in_write b i has place stands (suc (suc (suc (suc (suc zero))))) net h = on_ground (WriteAt b i) has place stands 5 net refl h
  in_write b i has place stands (suc (suc (suc (suc (suc (suc port)))))) net h = none_left port net h

  some_height : (w : ℤ) (h : ℕ) → w ≤ℤ pos h → pos 1 ≤ℤ w → 0 < h
  some_height w h a b = omega (arith, ints, a, b)

  of_input : (i : ℕ) → i < s.plan.word_size → i < inputs_of s.plan
  of_input i lt = subst (λ (n : ℕ). i < n) (sym (written_all s.plan.write_size s.plan.word_size written)) lt

  in_sense : (b i : ℕ) (has : HasLeafInstance s.plan (SenseAt b i)) (place : Place) (stands : IsPlaceOf s.plan s.kit s.floorplan (SenseAt b i) place) (port : ℕ) (net : Net) → slice_get (ports s.plan (SenseAt b i)) port ≡ Some net → Meets (SenseAt b i) has place stands port net
  in_sense b i has place stands zero net h = in_array (SenseAt b i) has place stands 0 (lo_net s.plan.col_bits b i) net h h (is_lo s.plan.col_bits b i)
  in_sense b i has place stands (suc zero) net h = in_array (SenseAt b i) has place stands 1 (ro_net s.plan.col_bits b i) net h h (is_ro s.plan.col_bits b i)
  in_sense b i has place stands (suc (suc zero)) net h =
      let number = dout_number s.plan i has.1 in
      let tall = some_height s.wire.width (s.kit.height Write) (k.inside.cells Write) k.sizes.width.from in
      named (SenseAt b i) has place stands 2 (Dout i) net h (dout_to_hub tech s flat k.by k.joins k.sizes k.first k.pins k.floor k.main outer are b i number.number has place stands (of_input i has.1) tall number.named)
  in_sense b i has place stands (suc (suc (suc zero))) net h =
      let sen = sen_at s.plan.bank_bits b in
      let number = sen_number s.plan b has.0 in
      named (SenseAt b i) has place stands 3 sen net h (as_outer (SenseAt b i) has place stands 3 sen (not_sen s.plan.bank_bits b) (sense_enabled tech s flat k reach b i number.number has place stands (outer sen) number.named (are.main number.number sen number.named)))
  in_sense b i has place stands (suc (suc (suc (suc zero)))) net h = on_power (SenseAt b i) has place stands 4 net refl h
  in_sense b i has place stands (suc (suc (suc (suc (suc zero))))) net h = on_ground (SenseAt b i) has place stands 5 net refl h
  in_sense b i has place stands (suc (suc (suc (suc (suc (suc port)))))) net h = none_left port net h

  in_mux : (b c : ℕ) (has : HasLeafInstance s.plan (MuxAt b c)) (place : Place) (stands : IsPlaceOf s.plan s.kit s.floorplan (MuxAt b c) place) (port : ℕ) (net : Net) → slice_get (ports s.plan (MuxAt b c)) port ≡ Some net → Meets (MuxAt b c) has place stands port net
  in_mux b c has place stands zero net h = in_array (MuxAt b c) has place stands 0 (Bl b c) net h h tt
  in_mux b c has place stands (suc zero) net h = in_array (MuxAt b c) has place stands 1 (Br b c) net h h tt
  in_mux b c has place stands (suc (suc zero)) net h = in_array (MuxAt b c) has place stands 2 (lo_net s.plan.col_bits b (c / words_per_row s.plan)) net h h (is_lo s.plan.col_bits b (c / words_per_row s.plan))
  in_mux b c has place stands (suc (suc (suc zero))) net h = in_array (MuxAt b c) has place stands 3 (ro_net s.plan.col_bits b (c / words_per_row s.plan)) net h h (is_ro s.plan.col_bits b (c / words_per_row s.plan))
  in_mux b c has place stands (suc (suc (suc (suc zero)))) net h =
      let choice = Line 0 s.plan.col_bits (c % words_per_row s.plan) in
      let number = line_number s.plan 0 s.plan.col_bits (c % words_per_row s.plan) (inl ((refl, refl), has.1.1)) (choice_of_column s.plan k.build c) in
      named (MuxAt b c) has place stands 4 choice net h (choice_joined tech s flat k reach b c number.number has place stands (outer choice) number.named (are.main number.number choice number.named))
  in_mux b c has place stands (suc (suc (suc (suc (suc zero))))) net h = on_power (MuxAt b c) has place stands 5 net refl h
  in_mux b c has place stands (suc (suc (suc (suc (suc (suc zero)))))) net h = on_ground (MuxAt b c) has place stands 6 net refl h
  in_mux b c has place stands (suc (suc (suc (suc (suc (suc (suc port))))))) net h = none_left port net h

  in_tie : (b c : ℕ) (has : HasLeafInstance s.plan (TieAt b c)) (place : Place) (stands : IsPlaceOf s.plan s.kit s.floorplan (TieAt b c) place) (port : ℕ) (net : Net) → slice_get (ports s.plan (TieAt b c)) port ≡ Some net → Meets (TieAt b c) has place stands port net
  in_tie b c has place stands zero net h = in_array (TieAt b c) has place stands 0 (Bl b c) net h h tt
  in_tie b c has place stands (suc zero) net h = in_array (TieAt b c) has place stands 1 (Br b c) net h h tt
  in_tie b c has place stands (suc (suc zero)) net h = on_power (TieAt b c) has place stands 2 net refl h
  in_tie b c has place stands (suc (suc (suc zero))) net h = on_ground (TieAt b c) has place stands 3 net refl h
  in_tie b c has place stands (suc (suc (suc (suc port)))) net h = none_left port net h

  in_logic : (cell : LogicCell) (has : HasLeafInstance s.plan (LogicAt cell)) (place : Place) (stands : IsPlaceOf s.plan s.kit s.floorplan (LogicAt cell) place) (port : ℕ) (net : Net) → slice_get (ports s.plan (LogicAt cell)) port ≡ Some net → Meets (LogicAt cell) has place stands port net
  in_logic cell has place stands port net h =
      let row = logic_signals s.plan cell in
      let long : length (logic_cell_ports s.plan cell) ≡ length row.signals + 2 = ap length row.are ∙ length-append row.signals supply_nets in
      elim (split_at row.signals supply_nets port net (subst (λ (l : List Net). slice_get l port ≡ Some net) row.are h)) [
        | inl front ↦
            let lt = front.0 in
            let signal : port + 2 < length (logic_cell_ports s.plan cell) = omega (arith, lt, long) in
            let number = signal_number s.plan cell port net written has h signal in
            logic_to_hub tech s flat k.by k.joins k.sizes k.first k.pins k.floor k.main outer are cell has place stands port number.number net (k.fits.logic cell) h signal number.named
        | inr back ↦
            let last = supplies_last (role s.plan (LogicAt cell)) in
            let sized = k.by.sized (LogicAt cell) has in
            subst (λ (p : ℕ). Meets (LogicAt cell) has place stands p net) (sym back.1) (on_supply (LogicAt cell) has place stands (length row.signals) back.0 net (omega (arith, last, sized, long)) back.2)
      ]

  -- Each port is joined with the hub of its net.
  pub port_joined : (leaf : LeafInstance) (has : HasLeafInstance s.plan leaf) (place : Place) (stands : IsPlaceOf s.plan s.kit s.floorplan leaf place) (port : ℕ) (net : Net) → slice_get (ports s.plan leaf) port ≡ Some net
      → IsPortJoined tech.connects s flat (standing tech.connects s flat k.by leaf has place stands) port (array_hub s (data_hub s outer) net)
  port_joined (BitAt b r c) has place stands port net h = in_bit b r c has place stands port net h
  port_joined (NandAt b r) has place stands port net h = in_gate b r has place stands port net h
  port_joined (DriverAt b r) has place stands port net h = in_driver b r has place stands port net h
  port_joined (PrechargeAt b c) has place stands port net h = in_precharge b c has place stands port net h
  port_joined (WriteAt b i) has place stands port net h = in_write b i has place stands port net h
  port_joined (SenseAt b i) has place stands port net h = in_sense b i has place stands port net h
  port_joined (MuxAt b c) has place stands port net h = in_mux b c has place stands port net h
  port_joined (TieAt b c) has place stands port net h = in_tie b c has place stands port net h
  port_joined (LogicAt cell) has place stands port net h = in_logic cell has place stands port net h
