-- The nets of the array and the lines of bits: each port on one of them is joined with the net's hub, which is of the net.
use Rattle.std.proofs.Common.{◌≡◌, inl, inr, ℕ, zero, suc, ◌/◌, ◌<◌, List, [], ◌∷◌, Option, Some, refl, sym, subst, arith}
use Rattle.std.specs.Prelude.{slice_get, ◌%◌}
use Rattle.or_geom.specs.declared.shape.Shape.{Shape}
use Rattle.or_geom.specs.declared.place.Place.{Place}
use Rattle.tech_rules.specs.declared.tech.Tech.{Tech}
use Rattle.tech_rules.specs.Facts.{AreSizes}
use Rattle.tech_rules.specs.Net.{AreOnOneNet}
use Rattle.cell_hierarchy.specs.Plain.{FlatLists}
use Rattle.sram_netlist.specs.Organization.{Organization, IsBuildable, banks_of, words_per_row}
use Rattle.sram_netlist.specs.Nets.{Net, Dout, D, Line, Lo, Ro}
use Rattle.sram_netlist.specs.Instances.{LeafInstance, BitAt, NandAt, DriverAt, PrechargeAt, WriteAt, SenseAt, MuxAt, TieAt, LogicAt}
use Rattle.sram_netlist.specs.Netlist.{ports, lo_net, ro_net, sen_at, wlen_at, enable_at, mask_of, supply_nets, logic_cell_ports}
use Rattle.sram_netlist.specs.Membership.{HasLeafInstance}
use Rattle.sram_rows.proofs.PlainNames.{inputs_within, bit_of_column}
use Rattle.macro_layout.specs.Places.{IsPlaceOf}
use Rattle.macro_layout.specs.Floorplan.{IsFloorplan}
use Rattle.macro_layout.specs.Channels.{IsColumnChannel}
use Rattle.good_nets.specs.Parts.{IsOfNet}
use Rattle.good_nets.proofs.NetLaws.{net_of_itself, nets_on}
use Rattle.joined_nets.specs.Joints.{JoinsWires}
use Rattle.kit_nets.specs.StatedParts.{Source, stated_parts, IsStatedBy}
use Rattle.kit_nets.specs.RolePins.{AreRolePins}
use Rattle.kit_nets.specs.Hubs.{IsPortJoined, IsArrayNet, IsBehindMux}
use Rattle.kit_nets.specs.DrawnChannels.{IsDrawnChannel}
use Rattle.leaf_shapes.specs.FirstLayers.{AreFirstLayers}
use Rattle.kit_nets.proofs.ArrayNetLaws.{pin_at}
use Rattle.kit_nets.proofs.PinJoinLaws.{standing, pin_joined_by}
use Rattle.kit_nets.proofs.ArrayJoinLaws.{array_hub}
use Rattle.kit_nets.proofs.ArrayNetsLaws.{none_at, no_supply, no_logic, some_net, gate_out, IsAtChannel, array_joined}
use Rattle.kit_nets.proofs.DataHubLaws.{data_line, data_hub, line_hub, slice_place, write_place, foot_place, sense_drawn, write_drawn, mux_drawn, line_in_write, line_in_mux, line_is_bit_line}
use Rattle.kit_nets.proofs.HubOfLaws.{array_hub_of, port_nameable}

not_sen : (n b : ℕ) → IsArrayNet (sen_at n b) → ⊥
not_sen zero b is = is
not_sen (suc n) b is = is

pub not_enable : (n masks b m : ℕ) → IsArrayNet (enable_at n masks b m) → ⊥
not_enable zero zero b m is = is
not_enable zero (suc masks) b m is = is
not_enable (suc n) masks b m is = is

-- lines behind multiplexers

behind_array : (net : Net) → IsBehindMux net → IsArrayNet net
behind_array net (inl (b, i, is)) = subst IsArrayNet (sym is) tt
behind_array net (inr (b, i, is)) = subst IsArrayNet (sym is) tt

abbrev IsLine : Net → Type 0
IsLine (Lo b i) = Unit {0}
IsLine (Ro b i) = Unit {0}
IsLine net = ⊥

behind_line : (net : Net) → IsBehindMux net → IsLine net
behind_line net (inl (b, i, is)) = subst IsLine (sym is) tt
behind_line net (inr (b, i, is)) = subst IsLine (sym is) tt

abbrev NoLine : List Net → Type 0
NoLine [] = Unit {0}
NoLine (n ∷ ns) = (IsLine n → ⊥) × NoLine ns

no_line_at : (ns : List Net) (k : ℕ) (net : Net) → NoLine ns → slice_get ns k ≡ Some net → IsLine net → ⊥
no_line_at [] k net none h = absurd cc
no_line_at (n ∷ ns) zero net none h = subst (λ (m : Net). IsLine m → ⊥) (some_net n net h) none.0
no_line_at (n ∷ ns) (suc k) net none h = no_line_at ns k net none.1 h

no_line_supply : NoLine supply_nets
no_line_supply = ((λ is. is), ((λ is. is), tt))

lo_some : (n b i : ℕ) → IsLine (lo_net n b i) → 0 < n
lo_some zero b i is = absurd is
lo_some (suc n) b i is = omega arith

ro_some : (n b i : ℕ) → IsLine (ro_net n b i) → 0 < n
ro_some zero b i is = absurd is
ro_some (suc n) b i is = omega arith

renamed_line : (net name : Net) → ◌≡◌ {A = Option Net} (Some net) (Some name) → IsLine name → IsLine net
renamed_line net name h = subst IsLine (sym (some_net net name h))

wlen_no_line : (n b : ℕ) → IsLine (wlen_at n b) → ⊥
wlen_no_line zero b is = is
wlen_no_line (suc n) b is = is

sen_no_line : (n b : ℕ) → IsLine (sen_at n b) → ⊥
sen_no_line zero b is = is
sen_no_line (suc n) b is = is

enable_no_line : (n masks b m : ℕ) → IsLine (enable_at n masks b m) → ⊥
enable_no_line zero zero b m is = is
enable_no_line zero (suc masks) b m is = is
enable_no_line (suc n) masks b m is = is

-- A port is on such a line only where there are multiplexers.
pub behind_mux : (plan : Organization) (leaf : LeafInstance) (port : ℕ) (net : Net) → HasLeafInstance plan leaf → slice_get (ports plan leaf) port ≡ Some net → IsBehindMux net → 0 < plan.col_bits
behind_mux plan (BitAt b r c) port net has h is = absurd (no_line_at (ports plan (BitAt b r c)) port net ((λ no. no), ((λ no. no), ((λ no. no), no_line_supply))) h (behind_line net is))
behind_mux plan (NandAt b r) port net has h is = let out = gate_out plan.groups plan.col_bits r port b r net h (behind_array net is) in absurd (subst (λ (n : Net). IsLine n → ⊥) out.is (λ no. no) (behind_line net is))
behind_mux plan (DriverAt b r) port net has h is = absurd (no_line_at (ports plan (DriverAt b r)) port net ((λ no. no), (wlen_no_line plan.bank_bits b, ((λ no. no), no_line_supply))) h (behind_line net is))
behind_mux plan (PrechargeAt b c) port net has h is = absurd (no_line_at (ports plan (PrechargeAt b c)) port net ((λ no. no), ((λ no. no), ((λ no. no), no_line_supply))) h (behind_line net is))
behind_mux plan (WriteAt b i) zero net has h is = absurd (no_line_at (D i ∷ []) 0 net ((λ no. no), tt) h (behind_line net is))
behind_mux plan (WriteAt b i) (suc zero) net has h is = lo_some plan.col_bits b i (renamed_line (lo_net plan.col_bits b i) net h (behind_line net is))
behind_mux plan (WriteAt b i) (suc (suc zero)) net has h is = ro_some plan.col_bits b i (renamed_line (ro_net plan.col_bits b i) net h (behind_line net is))
behind_mux plan (WriteAt b i) (suc (suc (suc port))) net has h is = absurd (no_line_at (enable_at plan.bank_bits plan.masks b (mask_of plan.masks plan.write_size i) ∷ supply_nets) port net (enable_no_line plan.bank_bits plan.masks b (mask_of plan.masks plan.write_size i), no_line_supply) h (behind_line net is))
behind_mux plan (SenseAt b i) zero net has h is = lo_some plan.col_bits b i (renamed_line (lo_net plan.col_bits b i) net h (behind_line net is))
behind_mux plan (SenseAt b i) (suc zero) net has h is = ro_some plan.col_bits b i (renamed_line (ro_net plan.col_bits b i) net h (behind_line net is))
behind_mux plan (SenseAt b i) (suc (suc port)) net has h is = absurd (no_line_at (Dout i ∷ sen_at plan.bank_bits b ∷ supply_nets) port net ((λ no. no), (sen_no_line plan.bank_bits b, no_line_supply)) h (behind_line net is))
behind_mux plan (MuxAt b c) port net has h is = has.1.1
behind_mux plan (TieAt b c) port net has h is = absurd (no_line_at (ports plan (TieAt b c)) port net ((λ no. no), ((λ no. no), no_line_supply)) h (behind_line net is))
behind_mux plan (LogicAt cell) port net has h is = absurd (none_at (logic_cell_ports plan cell) port net (no_logic plan cell) h (behind_array net is))

module _ (tech : Tech) (s : Source) (flat : FlatLists) (by : IsStatedBy tech.connects s flat) (joins : JoinsWires tech.connects s.wire) (sizes : AreSizes s.wire) (first : AreFirstLayers s.layers s.wire) (pins : AreRolePins s) (build : IsBuildable s.plan) (fp : IsFloorplan s.plan s.kit s.wire s.tracks s.floorplan) (c : IsDrawnChannel (IsColumnChannel s.plan s.kit s.wire s.floorplan) s.wire s.tracks.column) (other : Net → Shape) where
  -- the hubs
  abbrev pub bank_hub : Net → Shape
  bank_hub net = array_hub s (data_hub s other) net

  line_to_hub : (n port b i : ℕ) → n ≡ s.plan.col_bits → port < 2 → b < banks_of s.plan → i < s.plan.word_size → AreOnOneNet tech.connects flat.shapes (line_hub s port b i) (bank_hub (data_line n port b i))
  line_to_hub zero zero b i e lt of_bank of_bit = line_is_bit_line tech s flat by joins sizes first pins build fp c 0 b i lt (sym e) of_bank of_bit
  line_to_hub zero (suc zero) b i e lt of_bank of_bit = line_is_bit_line tech s flat by joins sizes first pins build fp c 1 b i lt (sym e) of_bank of_bit
  line_to_hub (suc n) zero b i e lt of_bank of_bit = net_of_itself tech.connects flat.shapes (line_hub s 0 b i)
  line_to_hub (suc n) (suc zero) b i e lt of_bank of_bit = net_of_itself tech.connects flat.shapes (line_hub s 1 b i)
  line_to_hub n (suc (suc port)) b i e lt of_bank of_bit = absurd (omega (arith, lt))

  abbrev Joins : (leaf : LeafInstance) (has : HasLeafInstance s.plan leaf) (place : Place) → IsPlaceOf s.plan s.kit s.floorplan leaf place → ℕ → Net → Type 0
  Joins leaf has place stands port net = IsPortJoined tech.connects s flat (standing tech.connects s flat by leaf has place stands) port (bank_hub net)

  named : (leaf : LeafInstance) (has : HasLeafInstance s.plan leaf) (place : Place) (stands : IsPlaceOf s.plan s.kit s.floorplan leaf place) (port : ℕ) (net name : Net) → ◌≡◌ {A = Option Net} (Some net) (Some name) → Joins leaf has place stands port net → Joins leaf has place stands port name
  named leaf has place stands port net name h = subst (λ (n : Net). Joins leaf has place stands port n) (some_net net name h)

  in_sense : (port b i : ℕ) → port < 2 → (has : HasLeafInstance s.plan (SenseAt b i)) (place : Place) (stands : IsPlaceOf s.plan s.kit s.floorplan (SenseAt b i) place) → Joins (SenseAt b i) has place stands port (data_line s.plan.col_bits port b i)
  in_sense port b i lt has place stands = pin_joined_by tech.connects s flat by (SenseAt b i) has place (slice_place s b i) stands port 1 (bank_hub (data_line s.plan.col_bits port b i)) stands (sense_drawn s pins port lt).bound (line_to_hub s.plan.col_bits port b i refl lt has.0 has.1)

  in_write : (port b i : ℕ) → port < 2 → (has : HasLeafInstance s.plan (WriteAt b i)) (place : Place) (stands : IsPlaceOf s.plan s.kit s.floorplan (WriteAt b i) place) → Joins (WriteAt b i) has place stands (suc port) (data_line s.plan.col_bits port b i)
  in_write port b i lt has place stands = pin_joined_by tech.connects s flat by (WriteAt b i) has place (write_place s b i) stands (suc port) 1 (bank_hub (data_line s.plan.col_bits port b i)) stands (write_drawn s pins port lt).bound
      (nets_on tech.connects flat.shapes (pin_at s (WriteAt b i) (write_place s b i) (suc port) 1) (line_hub s port b i) (bank_hub (data_line s.plan.col_bits port b i)) (line_in_write tech s flat by joins sizes first pins build fp c port b i lt has.0 has.1) (line_to_hub s.plan.col_bits port b i refl lt has.0 (inputs_within s.plan i has.1)))

  in_mux : (port b k : ℕ) → port < 2 → (has : HasLeafInstance s.plan (MuxAt b k)) (place : Place) (stands : IsPlaceOf s.plan s.kit s.floorplan (MuxAt b k) place) → Joins (MuxAt b k) has place stands (suc (suc port)) (data_line s.plan.col_bits port b (k / words_per_row s.plan))
  in_mux port b k lt has place stands =
      let i = k / words_per_row s.plan in
      pin_joined_by tech.connects s flat by (MuxAt b k) has place (foot_place s b k) stands (suc (suc port)) 3 (bank_hub (data_line s.plan.col_bits port b i)) stands (mux_drawn s pins port lt).bound
      (nets_on tech.connects flat.shapes (pin_at s (MuxAt b k) (foot_place s b k) (suc (suc port)) 3) (line_hub s port b i) (bank_hub (data_line s.plan.col_bits port b i)) (line_in_mux tech s flat by joins sizes first pins build fp c port b k lt has) (line_to_hub s.plan.col_bits port b i refl lt has.0 (bit_of_column s.plan build k has.1.0)))

  at_channel : (leaf : LeafInstance) (has : HasLeafInstance s.plan leaf) (place : Place) (stands : IsPlaceOf s.plan s.kit s.floorplan leaf place) (port : ℕ) (net : Net) → IsAtChannel leaf port → slice_get (ports s.plan leaf) port ≡ Some net → IsArrayNet net → Joins leaf has place stands port net
  at_channel (WriteAt b i) has place stands zero net at h is = absurd (none_at (D i ∷ []) 0 net ((λ no. no), tt) h is)
  at_channel (WriteAt b i) has place stands (suc zero) net at h is = named (WriteAt b i) has place stands 1 (lo_net s.plan.col_bits b i) net h (in_write 0 b i (omega arith) has place stands)
  at_channel (WriteAt b i) has place stands (suc (suc zero)) net at h is = named (WriteAt b i) has place stands 2 (ro_net s.plan.col_bits b i) net h (in_write 1 b i (omega arith) has place stands)
  at_channel (WriteAt b i) has place stands (suc (suc (suc port))) net at h is =
      absurd (none_at (enable_at s.plan.bank_bits s.plan.masks b (mask_of s.plan.masks s.plan.write_size i) ∷ supply_nets) port net (not_enable s.plan.bank_bits s.plan.masks b (mask_of s.plan.masks s.plan.write_size i), no_supply) h is)
  at_channel (SenseAt b i) has place stands zero net at h is = named (SenseAt b i) has place stands 0 (lo_net s.plan.col_bits b i) net h (in_sense 0 b i (omega arith) has place stands)
  at_channel (SenseAt b i) has place stands (suc zero) net at h is = named (SenseAt b i) has place stands 1 (ro_net s.plan.col_bits b i) net h (in_sense 1 b i (omega arith) has place stands)
  at_channel (SenseAt b i) has place stands (suc (suc port)) net at h is = absurd (none_at (Dout i ∷ sen_at s.plan.bank_bits b ∷ supply_nets) port net ((λ no. no), (not_sen s.plan.bank_bits b, no_supply)) h is)
  at_channel (MuxAt b k) has place stands zero net at h is = absurd at
  at_channel (MuxAt b k) has place stands (suc zero) net at h is = absurd at
  at_channel (MuxAt b k) has place stands (suc (suc zero)) net at h is = named (MuxAt b k) has place stands 2 (lo_net s.plan.col_bits b (k / words_per_row s.plan)) net h (in_mux 0 b k (omega arith) has place stands)
  at_channel (MuxAt b k) has place stands (suc (suc (suc zero))) net at h is = named (MuxAt b k) has place stands 3 (ro_net s.plan.col_bits b (k / words_per_row s.plan)) net h (in_mux 1 b k (omega arith) has place stands)
  at_channel (MuxAt b k) has place stands (suc (suc (suc (suc port)))) net at h is = absurd (none_at (Line 0 s.plan.col_bits (k % words_per_row s.plan) ∷ supply_nets) port net ((λ no. no), no_supply) h is)
  at_channel (BitAt b r k) has place stands port net at h is = absurd at
  at_channel (NandAt b r) has place stands port net at h is = absurd at
  at_channel (DriverAt b r) has place stands port net at h is = absurd at
  at_channel (PrechargeAt b k) has place stands port net at h is = absurd at
  at_channel (TieAt b k) has place stands port net at h is = absurd at
  at_channel (LogicAt cell) has place stands port net at h is = absurd at

  -- Each port on a net of the array, or on a line of a bit, is joined with the net's hub.
  pub bank_joined : (leaf : LeafInstance) (has : HasLeafInstance s.plan leaf) (place : Place) (stands : IsPlaceOf s.plan s.kit s.floorplan leaf place) (port : ℕ) (net : Net) → slice_get (ports s.plan leaf) port ≡ Some net → IsArrayNet net
      → IsPortJoined tech.connects s flat (standing tech.connects s flat by leaf has place stands) port (bank_hub net)
  bank_joined = array_joined tech.connects s flat by joins pins build fp (data_hub s other) at_channel

  -- The hub of a port's net is of the net, where it is one of these.
  pub bank_hub_of : (leaf : LeafInstance) (has : HasLeafInstance s.plan leaf) (port : ℕ) (net : Net) → slice_get (ports s.plan leaf) port ≡ Some net → IsArrayNet net → IsOfNet tech.connects (stated_parts s) net (bank_hub net)
  bank_hub_of leaf has port net on is = array_hub_of tech.connects s pins build other net is (port_nameable s.plan build leaf has port net on) (behind_mux s.plan leaf port net has on)
