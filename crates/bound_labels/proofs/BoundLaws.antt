-- In a memory whose labels and rows don't differ, and in which no free shape touches one outside of its instance, labels of pins stay.
use Rattle.std.proofs.Common.{◌≡◌, inl, inr, ℕ, zero, suc, ◌/◌, ◌%◌, List, [], ◌∷◌, map, Option, Some, subst, arith}
use Rattle.std.specs.Prelude.{slice_get}
use Rattle.or_geom.specs.declared.shape.Shape.{Shape}
use Rattle.netlist.specs.declared.rows.RowPin.{RowPin}
use Rattle.tech_rules.specs.declared.tech.Tech.{Tech}
use Rattle.tech_rules.specs.Touch.{Touch}
use Rattle.cell_hierarchy.specs.Plain.{FlatLists}
use Rattle.net_extractor.specs.PlainNetLabel.{PlainNetLabel}
use Rattle.net_extractor.specs.Extraction.{AreNetsUnder}
use Rattle.net_extractor.specs.Difference.{AreAlike}
use Rattle.sram_netlist.specs.Organization.{words_per_row}
use Rattle.sram_netlist.specs.Nets.{Net, Clkb, Control, Dout, D, Line, Zb, Wl, Bl, Br}
use Rattle.sram_netlist.specs.Instances.{LeafInstance, BitAt, NandAt, DriverAt, PrechargeAt, WriteAt, SenseAt, MuxAt, TieAt, LogicAt}
use Rattle.sram_netlist.specs.InstanceList.{logic_cells}
use Rattle.sram_netlist.specs.Netlist.{ports, lo_net, ro_net, wlen_at, sen_at, enable_at, mask_of, supply_nets, logic_cell_ports}
use Rattle.sram_netlist.specs.Membership.{HasLeafInstance}
use Rattle.sram_netlist.proofs.InstanceLists.{to_cells, of_map, of_either, place_in}
use Rattle.sram_rows.specs.Rows.{netlist_pins, RowsEqual}
use Rattle.sram_rows.proofs.PlainNames.{inputs_within, bit_of_column}
use Rattle.macro_layout.specs.Pins.{port_nets, main_nets, output_of}
use Rattle.good_nets.specs.Parts.{IsShapeOf, IsFree, IsOutside}
use Rattle.row_nets.proofs.PathLaws.{path_low}
use Rattle.kit_nets.specs.StatedParts.{Source, Standing, stated_parts, DoLabelsStay}
use Rattle.kit_nets.specs.Hubs.{IsArrayNet}
use Rattle.kit_nets.specs.OuterHubs.{AreOuterHubs}
use Rattle.kit_nets.proofs.ArrayJoinLaws.{array_hub}
use Rattle.kit_nets.proofs.ArrayNetsLaws.{some_net, none_at, no_supply, no_logic, gate_out, not_wlen}
use Rattle.kit_nets.proofs.BankNetsLaws.{not_enable}
use Rattle.kit_nets.proofs.DataHubLaws.{data_hub}
use Rattle.kit_nets.proofs.PathsTellLaws.{do_paths_tell}
use Rattle.kit_nets.proofs.PortNameLaws.{low_names}
use Rattle.macro_nets.specs.Numbers.{HasMainNumber}
use Rattle.macro_nets.proofs.OuterLaws.{outer_hubs}
use Rattle.macro_nets.proofs.PortHubLaws.{not_sen, port_joined}
use Rattle.macro_nets.proofs.PortKindLaws.{port_kind}
use Rattle.wired_macros.specs.WiredMacro.{IsWiredMacro}
use Rattle.wired_macros.specs.Texts.{AreLeavesInside}
use Rattle.wired_macros.proofs.BankWireLaws.{one_at}
use Rattle.wired_macros.proofs.CellNameLaws.{cells_differ}
use Rattle.wired_macros.proofs.TextLayerLaws.{first_texts}
use Rattle.wired_macros.proofs.TopNetLaws.{IsPortNet}
use Rattle.label_nets.specs.Anchored.{IsMatchedMacro, IsAnchored}
use Rattle.label_nets.proofs.AnchorLaws.{anchored_labels_stay}
use Rattle.bound_labels.proofs.LineLaws.{gate_anchored, word_anchored, bit_anchored, data_anchored}
use Rattle.bound_labels.proofs.OwnLaws.{own_anchored}
use Rattle.bound_labels.proofs.RowLaws.{row_anchored}
use Rattle.bound_labels.proofs.SignalLaws.{driver_port}

module _ (tech : Tech) (s : Source) (flat : FlatLists) (d : IsWiredMacro tech s flat) (inside : AreLeavesInside s) (labels : List PlainNetLabel) (nets : AreNetsUnder tech.connects flat.shapes flat.labels labels) (rows : List RowPin) (equal : RowsEqual rows (netlist_pins s.plan s.kit.cell s.bits)) (alike : AreAlike labels rows)
    (apart : (i : Standing s) (inner shape t : Shape) → IsShapeOf tech.connects (stated_parts s) i inner shape → IsFree tech.connects (stated_parts s) i inner → IsOutside tech.connects (stated_parts s) i t → Touch tech.connects shape t → ⊥) where
  abbrev outer : Net → Shape
  outer = (outer_hubs tech s flat d.laid).0

  abbrev are : AreOuterHubs s d.laid.main (outer_hubs tech s flat d.laid).0
  are = (outer_hubs tech s flat d.laid).1

  abbrev hub : Net → Shape
  hub = array_hub s (data_hub s (outer_hubs tech s flat d.laid).0)

  matched : IsMatchedMacro tech.connects s flat labels rows (array_hub s (data_hub s (outer_hubs tech s flat d.laid).0))
  matched = record {
    stated = d.laid.by;
    nets = nets;
    equal = equal;
    alike = alike;
    low_paths = λ leaf has. path_low s.plan d.laid.build leaf has;
    low_names = λ r port name named. low_names r port name named;
    to_hub = λ i port net inner shape on bound moved. port_joined tech s flat d.laid d.reach d.written outer are i.leaf i.has i.place i.stands port net on inner shape bound moved;
  }

  abbrev Anchored : Net → Type 0
  Anchored n = IsAnchored tech.connects s flat labels rows (array_hub s (data_hub s (outer_hubs tech s flat d.laid).0)) n

  own : (n : Net) → IsPortNet s.plan n → Anchored n
  own n is =
      let tell = do_paths_tell s.plan d.laid.build (cells_differ s.plan d.laid.build) (to_cells s.plan) in
      own_anchored tech s flat d outer are inside (first_texts tech s flat d.laid) tell labels nets rows equal n is

  -- a net of the main channel
  main_anchored : (n : Net) → HasMainNumber s.plan n → Anchored n
  main_anchored n at =
      of_either Anchored n (port_nets s.plan) (map (output_of s.plan) (logic_cells s.plan))
      (λ top. let place = place_in n (port_nets s.plan) top in own n (inl (record { number = place.0; listed = place.1 })))
      (λ driven. let cell = of_map (output_of s.plan) n (logic_cells s.plan) driven in let out = driver_port s.plan cell.0 n cell.2 in row_anchored tech s flat d outer are inside labels rows matched apart own d.written cell.0 cell.1 out.0 n out.1)
      (one_at (main_nets s.plan) at.number n at.named)

  -- The nets of the array, and the lines of bits

  named : (net name : Net) → ◌≡◌ {A = Option Net} (Some net) (Some name) → Anchored net → Anchored name
  named net name h = subst Anchored (some_net net name h)

  none : {X : Type 0} (net name : Net) → ◌≡◌ {A = Option Net} (Some net) (Some name) → (IsArrayNet net → ⊥) → IsArrayNet name → X
  none net name h off is = absurd (subst (λ (n : Net). IsArrayNet n → ⊥) (some_net net name h) off is)

  array_anchored : (leaf : LeafInstance) → HasLeafInstance s.plan leaf → (port : ℕ) (net : Net) → slice_get (ports s.plan leaf) port ≡ Some net → IsArrayNet net → Anchored net
  array_anchored (BitAt b r c) has zero net h is = named (Bl b c) net h (bit_anchored tech s flat d.laid outer labels rows matched 0 b c (omega arith) has.0 has.1.1)
  array_anchored (BitAt b r c) has (suc zero) net h is = named (Br b c) net h (bit_anchored tech s flat d.laid outer labels rows matched 1 b c (omega arith) has.0 has.1.1)
  array_anchored (BitAt b r c) has (suc (suc zero)) net h is = named (Wl b r) net h (word_anchored tech s flat d.laid outer labels rows matched b r has.0 has.1.0)
  array_anchored (BitAt b r c) has (suc (suc (suc port))) net h is = absurd (none_at supply_nets port net no_supply h is)
  array_anchored (NandAt b r) has port net h is = let out = gate_out s.plan.groups s.plan.col_bits r port b r net h is in subst Anchored out.is (gate_anchored tech s flat d.laid outer labels rows matched b r has.0 has.1)
  array_anchored (DriverAt b r) has zero net h is = named (Zb b r) net h (gate_anchored tech s flat d.laid outer labels rows matched b r has.0 has.1)
  array_anchored (DriverAt b r) has (suc zero) net h is = none (wlen_at s.plan.bank_bits b) net h (not_wlen s.plan.bank_bits b) is
  array_anchored (DriverAt b r) has (suc (suc zero)) net h is = named (Wl b r) net h (word_anchored tech s flat d.laid outer labels rows matched b r has.0 has.1)
  array_anchored (DriverAt b r) has (suc (suc (suc port))) net h is = absurd (none_at supply_nets port net no_supply h is)
  array_anchored (PrechargeAt b c) has zero net h is = named (Bl b c) net h (bit_anchored tech s flat d.laid outer labels rows matched 0 b c (omega arith) has.0 has.1)
  array_anchored (PrechargeAt b c) has (suc zero) net h is = named (Br b c) net h (bit_anchored tech s flat d.laid outer labels rows matched 1 b c (omega arith) has.0 has.1)
  array_anchored (PrechargeAt b c) has (suc (suc port)) net h is = absurd (none_at (Control Clkb ∷ supply_nets) port net ((λ off. off), no_supply) h is)
  array_anchored (WriteAt b i) has zero net h is = absurd (none_at (D i ∷ []) 0 net ((λ off. off), tt) h is)
  array_anchored (WriteAt b i) has (suc zero) net h is = named (lo_net s.plan.col_bits b i) net h (data_anchored tech s flat d.laid outer labels rows matched 0 b i (omega arith) d.written has.0 (inputs_within s.plan i has.1))
  array_anchored (WriteAt b i) has (suc (suc zero)) net h is = named (ro_net s.plan.col_bits b i) net h (data_anchored tech s flat d.laid outer labels rows matched 1 b i (omega arith) d.written has.0 (inputs_within s.plan i has.1))
  array_anchored (WriteAt b i) has (suc (suc (suc port))) net h is =
      let off = not_enable s.plan.bank_bits s.plan.masks b (mask_of s.plan.masks s.plan.write_size i) in
      absurd (none_at (enable_at s.plan.bank_bits s.plan.masks b (mask_of s.plan.masks s.plan.write_size i) ∷ supply_nets) port net (off, no_supply) h is)
  array_anchored (SenseAt b i) has zero net h is = named (lo_net s.plan.col_bits b i) net h (data_anchored tech s flat d.laid outer labels rows matched 0 b i (omega arith) d.written has.0 has.1)
  array_anchored (SenseAt b i) has (suc zero) net h is = named (ro_net s.plan.col_bits b i) net h (data_anchored tech s flat d.laid outer labels rows matched 1 b i (omega arith) d.written has.0 has.1)
  array_anchored (SenseAt b i) has (suc (suc port)) net h is = absurd (none_at (Dout i ∷ sen_at s.plan.bank_bits b ∷ supply_nets) port net ((λ off. off), (not_sen s.plan.bank_bits b, no_supply)) h is)
  array_anchored (MuxAt b c) has zero net h is = named (Bl b c) net h (bit_anchored tech s flat d.laid outer labels rows matched 0 b c (omega arith) has.0 has.1.0)
  array_anchored (MuxAt b c) has (suc zero) net h is = named (Br b c) net h (bit_anchored tech s flat d.laid outer labels rows matched 1 b c (omega arith) has.0 has.1.0)
  array_anchored (MuxAt b c) has (suc (suc zero)) net h is =
      named (lo_net s.plan.col_bits b (c / words_per_row s.plan)) net h (data_anchored tech s flat d.laid outer labels rows matched 0 b (c / words_per_row s.plan) (omega arith) d.written has.0 (bit_of_column s.plan d.laid.build c has.1.0))
  array_anchored (MuxAt b c) has (suc (suc (suc zero))) net h is =
      named (ro_net s.plan.col_bits b (c / words_per_row s.plan)) net h (data_anchored tech s flat d.laid outer labels rows matched 1 b (c / words_per_row s.plan) (omega arith) d.written has.0 (bit_of_column s.plan d.laid.build c has.1.0))
  array_anchored (MuxAt b c) has (suc (suc (suc (suc port)))) net h is = absurd (none_at (Line 0 s.plan.col_bits (c % words_per_row s.plan) ∷ supply_nets) port net ((λ off. off), no_supply) h is)
  array_anchored (TieAt b c) has zero net h is = named (Bl b c) net h (bit_anchored tech s flat d.laid outer labels rows matched 0 b c (omega arith) has.0 has.1.0)
  array_anchored (TieAt b c) has (suc zero) net h is = named (Br b c) net h (bit_anchored tech s flat d.laid outer labels rows matched 1 b c (omega arith) has.0 has.1.0)
  array_anchored (TieAt b c) has (suc (suc port)) net h is = absurd (none_at supply_nets port net no_supply h is)
  array_anchored (LogicAt cell) has port net h is = absurd (none_at (logic_cell_ports s.plan cell) port net (no_logic s.plan cell) h is)

  -- Each net of a leaf instance's port is anchored,
  pub port_anchored : (i : Standing s) (port : ℕ) (n : Net) → slice_get (ports s.plan i.leaf) port ≡ Some n → Anchored n
  port_anchored i port n on = elim (port_kind s.plan d.laid.build d.written i.leaf i.has port n on) [
    | inl array ↦ array_anchored i.leaf i.has port n on array
    | inr (inl main) ↦ main_anchored n main.numbered
    | inr (inr supply) ↦ own n (inr supply)
  ]

  -- so labels of pins stay.
  pub bound_labels_stay : DoLabelsStay tech.connects s flat
  bound_labels_stay = anchored_labels_stay tech.connects s flat labels rows (array_hub s (data_hub s (outer_hubs tech s flat d.laid).0)) matched port_anchored
