-- The hub of the net of a port is of the net: nets of ports are the array's, the main channel's or supplies.
use Rattle.std.proofs.Common.{◌≡◌, ◌⊎◌, inl, inr, ℕ, zero, suc, ◌+◌, ◌/◌, ◌%◌, List, ◌∷◌, length, Option, Some, refl, sym, ap, subst, ◌∙◌, length-append, arith}
use Rattle.std.specs.Prelude.{slice_get}
use Rattle.or_geom.specs.declared.shape.Shape.{Shape}
use Rattle.tech_rules.specs.declared.tech.Tech.{Tech}
use Rattle.cell_hierarchy.specs.Plain.{FlatLists}
use Rattle.sram_netlist.specs.Organization.{Organization, IsBuildable, IsWritten, words_per_row}
use Rattle.sram_netlist.specs.Nets.{Net, Vdd, Gnd, Clkb, Control, Dout, D, Line, Zb, Wl, Bl, Br}
use Rattle.sram_netlist.specs.Instances.{LeafInstance, BitAt, NandAt, DriverAt, PrechargeAt, WriteAt, SenseAt, MuxAt, TieAt, LogicAt}
use Rattle.sram_netlist.specs.Netlist.{ports, row_lines, lo_net, ro_net, wlen_at, sen_at, enable_at, mask_of, supply_nets, logic_cell_ports}
use Rattle.sram_netlist.specs.Membership.{HasLeafInstance}
use Rattle.sram_rows.proofs.PlainNames.{choice_of_column}
use Rattle.good_nets.specs.Parts.{IsOfNet}
use Rattle.kit_nets.specs.StatedParts.{Source, stated_parts}
use Rattle.kit_nets.specs.Hubs.{IsArrayNet}
use Rattle.kit_nets.specs.OuterHubs.{AreOuterHubs}
use Rattle.kit_nets.proofs.ArrayJoinLaws.{array_hub}
use Rattle.kit_nets.proofs.ArrayNetsLaws.{some_net, not_wlen, none_at, no_logic}
use Rattle.kit_nets.proofs.BankNetsLaws.{not_enable, bank_hub_of}
use Rattle.kit_nets.proofs.DataHubLaws.{data_hub}
use Rattle.kit_nets.proofs.OuterHubLaws.{power_hub_of, ground_hub_of, main_hub_of}
use Rattle.supply_nets.specs.LaidMacro.{IsLaidMacro}
use Rattle.macro_nets.specs.Numbers.{HasMainNumber}
use Rattle.macro_nets.proofs.MainNumberLaws.{line_number, wlen_number, sen_number, clock_number, din_number, dout_number, enable_number, signal_number}
use Rattle.macro_nets.proofs.RailNumberLaws.{row_line}
use Rattle.macro_nets.proofs.ListSplitLaws.{split_at, logic_signals}
use Rattle.macro_nets.proofs.PortHubLaws.{not_sen, is_lo, is_ro, none_left}

-- a net of the main channel, which is none of the array's
pub record IsMainNet (plan : Organization) (net : Net) : Type 0 where
  pub numbered : HasMainNumber plan net
  pub outer : IsArrayNet net → ⊥

-- The kinds of nets of ports.
abbrev pub HasKind : Organization → Net → Type 0
HasKind plan net = IsArrayNet net ⊎ (IsMainNet plan net ⊎ ((Vdd ≡ net) ⊎ (Gnd ≡ net)))

module _ (plan : Organization) (build : IsBuildable plan) (written : IsWritten plan) where
  named : (net name : Net) → ◌≡◌ {A = Option Net} (Some net) (Some name) → HasKind plan net → HasKind plan name
  named net name h = subst (HasKind plan) (some_net net name h)

  supply : (j : ℕ) (net : Net) → slice_get supply_nets j ≡ Some net → HasKind plan net
  supply zero net h = inr (inr (inl (some_net Vdd net h)))
  supply (suc zero) net h = inr (inr (inr (some_net Gnd net h)))
  supply (suc (suc j)) net h = none_left j net h

  behind_lines : (b r j : ℕ) (net : Net) → slice_get (Zb b r ∷ supply_nets) j ≡ Some net → HasKind plan net
  behind_lines b r zero net h = named (Zb b r) net h (inl tt)
  behind_lines b r (suc j) net h = supply j net h

  -- Each is of one.
  pub port_kind : (leaf : LeafInstance) → HasLeafInstance plan leaf → (port : ℕ) (net : Net) → slice_get (ports plan leaf) port ≡ Some net → HasKind plan net
  port_kind (BitAt b r c) has zero net h = named (Bl b c) net h (inl tt)
  port_kind (BitAt b r c) has (suc zero) net h = named (Br b c) net h (inl tt)
  port_kind (BitAt b r c) has (suc (suc zero)) net h = named (Wl b r) net h (inl tt)
  port_kind (BitAt b r c) has (suc (suc (suc j))) net h = supply j net h
  port_kind (NandAt b r) has port net h = elim (split_at (row_lines plan.groups plan.col_bits r) (Zb b r ∷ supply_nets) port net h) [
    | inl front ↦
        let line = row_line plan.groups plan.col_bits r port net front.1 in
        subst (HasKind plan) (sym line.is) (inr (inl (record { numbered = line_number plan line.o line.b line.k (inr (inl line.group)) line.few; outer = λ no. no })))
    | inr back ↦ behind_lines b r back.0 net back.2
  ]
  port_kind (DriverAt b r) has zero net h = named (Zb b r) net h (inl tt)
  port_kind (DriverAt b r) has (suc zero) net h = named (wlen_at plan.bank_bits b) net h (inr (inl (record { numbered = wlen_number plan b has.0; outer = not_wlen plan.bank_bits b })))
  port_kind (DriverAt b r) has (suc (suc zero)) net h = named (Wl b r) net h (inl tt)
  port_kind (DriverAt b r) has (suc (suc (suc j))) net h = supply j net h
  port_kind (PrechargeAt b c) has zero net h = named (Bl b c) net h (inl tt)
  port_kind (PrechargeAt b c) has (suc zero) net h = named (Br b c) net h (inl tt)
  port_kind (PrechargeAt b c) has (suc (suc zero)) net h = named (Control Clkb) net h (inr (inl (record { numbered = clock_number plan; outer = λ no. no })))
  port_kind (PrechargeAt b c) has (suc (suc (suc j))) net h = supply j net h
  port_kind (WriteAt b i) has zero net h = named (D i) net h (inr (inl (record { numbered = din_number plan i has.1; outer = λ no. no })))
  port_kind (WriteAt b i) has (suc zero) net h = named (lo_net plan.col_bits b i) net h (inl (is_lo plan.col_bits b i))
  port_kind (WriteAt b i) has (suc (suc zero)) net h = named (ro_net plan.col_bits b i) net h (inl (is_ro plan.col_bits b i))
  port_kind (WriteAt b i) has (suc (suc (suc zero))) net h =
      named (enable_at plan.bank_bits plan.masks b (mask_of plan.masks plan.write_size i)) net h
      (inr (inl (record { numbered = enable_number plan build b i has.0 has.1; outer = not_enable plan.bank_bits plan.masks b (mask_of plan.masks plan.write_size i) })))
  port_kind (WriteAt b i) has (suc (suc (suc (suc j)))) net h = supply j net h
  port_kind (SenseAt b i) has zero net h = named (lo_net plan.col_bits b i) net h (inl (is_lo plan.col_bits b i))
  port_kind (SenseAt b i) has (suc zero) net h = named (ro_net plan.col_bits b i) net h (inl (is_ro plan.col_bits b i))
  port_kind (SenseAt b i) has (suc (suc zero)) net h = named (Dout i) net h (inr (inl (record { numbered = dout_number plan i has.1; outer = λ no. no })))
  port_kind (SenseAt b i) has (suc (suc (suc zero))) net h = named (sen_at plan.bank_bits b) net h (inr (inl (record { numbered = sen_number plan b has.0; outer = not_sen plan.bank_bits b })))
  port_kind (SenseAt b i) has (suc (suc (suc (suc j)))) net h = supply j net h
  port_kind (MuxAt b c) has zero net h = named (Bl b c) net h (inl tt)
  port_kind (MuxAt b c) has (suc zero) net h = named (Br b c) net h (inl tt)
  port_kind (MuxAt b c) has (suc (suc zero)) net h = named (lo_net plan.col_bits b (c / words_per_row plan)) net h (inl (is_lo plan.col_bits b (c / words_per_row plan)))
  port_kind (MuxAt b c) has (suc (suc (suc zero))) net h = named (ro_net plan.col_bits b (c / words_per_row plan)) net h (inl (is_ro plan.col_bits b (c / words_per_row plan)))
  port_kind (MuxAt b c) has (suc (suc (suc (suc zero)))) net h =
      named (Line 0 plan.col_bits (c % words_per_row plan)) net h (inr (inl (record { numbered = line_number plan 0 plan.col_bits (c % words_per_row plan) (inl ((refl, refl), has.1.1)) (choice_of_column plan build c); outer = λ no. no })))
  port_kind (MuxAt b c) has (suc (suc (suc (suc (suc j))))) net h = supply j net h
  port_kind (TieAt b c) has zero net h = named (Bl b c) net h (inl tt)
  port_kind (TieAt b c) has (suc zero) net h = named (Br b c) net h (inl tt)
  port_kind (TieAt b c) has (suc (suc j)) net h = supply j net h
  port_kind (LogicAt cell) has port net h =
      let row = logic_signals plan cell in
      let long : length (logic_cell_ports plan cell) ≡ length row.signals + 2 = ap length row.are ∙ length-append row.signals supply_nets in
      elim (split_at row.signals supply_nets port net (subst (λ (l : List Net). slice_get l port ≡ Some net) row.are h)) [
        | inl front ↦
            let lt = front.0 in
            inr (inl (record { numbered = signal_number plan cell port net written has h (omega (arith, lt, long)); outer = none_at (logic_cell_ports plan cell) port net (no_logic plan cell) h }))
        | inr back ↦ supply back.0 net back.2
      ]

module _ (tech : Tech) (s : Source) (flat : FlatLists) (k : IsLaidMacro tech s flat) (written : IsWritten s.plan) (outer : Net → Shape) (are : AreOuterHubs s k.main outer) where
  -- The hub of a main net, or of a supply, is of it.
  pub main_net_hub_of : (net : Net) → IsMainNet s.plan net → IsOfNet tech.connects (stated_parts s) net (array_hub s (data_hub s outer) net)
  main_net_hub_of net is = main_hub_of tech s flat k.by k.joins k.sizes k.first k.main outer are is.numbered.number net is.numbered.named is.outer

  pub supply_hub_of : (net : Net) → (Vdd ≡ net) ⊎ (Gnd ≡ net) → IsOfNet tech.connects (stated_parts s) net (array_hub s (data_hub s outer) net)
  supply_hub_of net (inl power) = subst (λ (n : Net). IsOfNet tech.connects (stated_parts s) n (array_hub s (data_hub s outer) n)) power (power_hub_of tech s flat k.by k.joins k.sizes k.first k.main outer are)
  supply_hub_of net (inr ground) = subst (λ (n : Net). IsOfNet tech.connects (stated_parts s) n (array_hub s (data_hub s outer) n)) ground (ground_hub_of tech s flat k.by k.joins k.sizes k.first k.main outer are)

  -- The hub of a port's net is of the net.
  pub hub_of_port : (leaf : LeafInstance) (has : HasLeafInstance s.plan leaf) (port : ℕ) (net : Net) → slice_get (ports s.plan leaf) port ≡ Some net → IsOfNet tech.connects (stated_parts s) net (array_hub s (data_hub s outer) net)
  hub_of_port leaf has port net on = elim (port_kind s.plan k.build written leaf has port net on) [
    | inl array ↦ bank_hub_of tech s flat k.by k.joins k.sizes k.first k.pins k.build k.floor k.column outer leaf has port net on array
    | inr (inl main) ↦ main_net_hub_of net main
    | inr (inr supply) ↦ supply_hub_of net supply
  ]
