-- The ports of leaf instances that are on nets of the array, each joined with its net's hub.
use Rattle.std.proofs.Common.{◌≡◌, ℕ, zero, suc, ◌+◌, ◌/◌, List, [], ◌∷◌, ◌++◌, length, Option, Some, refl, sym, ap, subst, arith}
use Rattle.std.specs.Prelude.{slice_get}
use Rattle.or_geom.specs.declared.shape.Shape.{Shape}
use Rattle.or_geom.specs.declared.place.Place.{Place}
use Rattle.tech_rules.specs.declared.tech.Connect.{Connect}
use Rattle.cell_hierarchy.specs.Plain.{FlatLists}
use Rattle.sram_netlist.specs.Organization.{Organization, IsBuildable}
use Rattle.sram_netlist.specs.Nets.{Net, Clkb, Control, Line, LineB, Zb, Wl, Bl, Br, WenB}
use Rattle.sram_netlist.specs.Instances.{LogicCell, LeafInstance, Clki, Csd, Wed, Csi, Wei, Wln, Wli, Wrn, Wri, Rdn, Rdi, Dlay, Senn, Seni, Ad, Ai, Dd, Dm, Pn, Pi, Ln, Li, Kn, Ki, Gn, Gi, BitAt, NandAt, DriverAt, PrechargeAt, WriteAt, SenseAt, MuxAt, TieAt, LogicAt}
use Rattle.sram_netlist.specs.Netlist.{ports, row_lines, wlen_at, supply_nets, logic_cell_ports, sense_start, pick, picks, lowest_bit, enable_inputs, bank_input, mask_input, low_bits, high_bits}
use Rattle.std.specs.Prelude.{Bool, true, false}
use Rattle.sram_netlist.specs.Membership.{HasLeafInstance}
use Rattle.macro_layout.specs.Places.{IsPlaceOf}
use Rattle.macro_layout.specs.Floorplan.{IsFloorplan}
use Rattle.good_nets.proofs.NetLaws.{net_of_itself}
use Rattle.joined_nets.specs.Joints.{JoinsWires}
use Rattle.kit_nets.specs.StatedParts.{Source, IsStatedBy}
use Rattle.kit_nets.specs.RolePins.{AreRolePins}
use Rattle.kit_nets.specs.Hubs.{IsPortJoined, IsArrayNet}
use Rattle.kit_nets.proofs.PinJoinLaws.{standing, pin_joined_by}
use Rattle.kit_nets.proofs.ArrayHubLaws.{word_drawn, driver_in_drawn, driver_out_drawn, gate_drawn, bit_drawn, column_drawn, precharge_drawn}
use Rattle.kit_nets.proofs.ArrayJoinLaws.{bit_place, gate_place, driver_place, column_place, precharge_place, array_hub, word_in_bit, word_in_driver, gate_in_driver, line_in_bit, line_in_precharge, line_in_column, some_columns, mux_joined}

pub some_net : (a b : Net) → ◌≡◌ {A = Option Net} (Some a) (Some b) → a ≡ b
some_net a b e = cc

-- Nets of the logic row are none of the array's

abbrev pub NoArray : List Net → Type 0
NoArray [] = Unit {0}
NoArray (n ∷ ns) = (IsArrayNet n → ⊥) × NoArray ns

pub none_append : (ns ms : List Net) → NoArray ns → NoArray ms → NoArray (ns ++ ms)
none_append [] ms none more = more
none_append (n ∷ ns) ms none more = (none.0, none_append ns ms none.1 more)

pub none_at : (ns : List Net) (k : ℕ) (net : Net) → NoArray ns → slice_get ns k ≡ Some net → IsArrayNet net → ⊥
none_at [] k net none h = absurd cc
none_at (n ∷ ns) zero net none h = subst (λ (m : Net). IsArrayNet m → ⊥) (some_net n net h) none.0
none_at (n ∷ ns) (suc k) net none h = none_at ns k net none.1 h

pub no_supply : NoArray supply_nets
no_supply = ((λ is. is), ((λ is. is), tt))

no_picks : (o b k : ℕ) → NoArray (picks o b k)
no_picks o zero k = tt
no_picks o (suc b) k = (no_pick (lowest_bit k), no_picks (suc o) b (k / 2)) where
  no_pick : (one : Bool) → IsArrayNet (pick o one) → ⊥
  no_pick true is = is
  no_pick false is = is

no_start : (w : ℕ) → IsArrayNet (sense_start w) → ⊥
no_start zero is = is
no_start (suc w) is = is

no_bank : (plan : Organization) (n b : ℕ) → NoArray (bank_input plan n b)
no_bank plan zero b = tt
no_bank plan (suc n) b = ((λ is. is), tt)

no_mask : (n m : ℕ) → NoArray (mask_input n m)
no_mask zero m = tt
no_mask (suc n) m = ((λ is. is), tt)

pub no_logic : (plan : Organization) (cell : LogicCell) → NoArray (logic_cell_ports plan cell)
no_logic plan Clki = ((λ is. is), ((λ is. is), no_supply))
no_logic plan Csd = ((λ is. is), ((λ is. is), ((λ is. is), no_supply)))
no_logic plan Wed = ((λ is. is), ((λ is. is), ((λ is. is), no_supply)))
no_logic plan Csi = ((λ is. is), ((λ is. is), no_supply))
no_logic plan Wei = ((λ is. is), ((λ is. is), no_supply))
no_logic plan Wln = ((λ is. is), ((λ is. is), ((λ is. is), no_supply)))
no_logic plan Wli = ((λ is. is), ((λ is. is), no_supply))
no_logic plan Wrn = ((λ is. is), ((λ is. is), ((λ is. is), ((λ is. is), no_supply))))
no_logic plan Wri = ((λ is. is), ((λ is. is), no_supply))
no_logic plan Rdn = ((λ is. is), ((λ is. is), ((λ is. is), ((λ is. is), no_supply))))
no_logic plan Rdi = ((λ is. is), ((λ is. is), no_supply))
no_logic plan Dlay = ((λ is. is), ((λ is. is), no_supply))
no_logic plan Senn = (no_start plan.write_size, ((λ is. is), ((λ is. is), no_supply)))
no_logic plan Seni = ((λ is. is), ((λ is. is), no_supply))
no_logic plan (Ad i) = ((λ is. is), ((λ is. is), ((λ is. is), no_supply)))
no_logic plan (Ai i) = ((λ is. is), ((λ is. is), no_supply))
no_logic plan (Pn o b k) = none_append (picks o b k) (LineB o b k ∷ supply_nets) (no_picks o b k) ((λ is. is), no_supply)
no_logic plan (Pi o b k) = ((λ is. is), ((λ is. is), no_supply))
no_logic plan (Dd i) = ((λ is. is), ((λ is. is), ((λ is. is), no_supply)))
no_logic plan (Dm m) = ((λ is. is), ((λ is. is), ((λ is. is), no_supply)))
no_logic plan (Ln b) = ((λ is. is), ((λ is. is), ((λ is. is), no_supply)))
no_logic plan (Li b) = ((λ is. is), ((λ is. is), no_supply))
no_logic plan (Kn b) = ((λ is. is), ((λ is. is), ((λ is. is), no_supply)))
no_logic plan (Ki b) = ((λ is. is), ((λ is. is), no_supply))
no_logic plan (Gn b m) = none_append (enable_inputs plan b m) (WenB b m ∷ supply_nets) ((λ is. is), none_append (bank_input plan plan.bank_bits b) (mask_input plan.masks m) (no_bank plan plan.bank_bits b) (no_mask plan.masks m)) ((λ is. is), no_supply)
no_logic plan (Gi b m) = ((λ is. is), ((λ is. is), no_supply))

-- Of a row's gate only its output is

pub record IsGateOut (count port : ℕ) (out net : Net) : Type 0 where
  pub at : port ≡ count
  pub is : out ≡ net

pub gate_out : (groups : List ℕ) (o r port : ℕ) (b row : ℕ) (net : Net) → slice_get (row_lines groups o r ++ (Zb b row ∷ supply_nets)) port ≡ Some net → IsArrayNet net → IsGateOut (length groups) port (Zb b row) net
gate_out [] o r zero b row net h is = record { at = refl; is = some_net (Zb b row) net h }
gate_out [] o r (suc port) b row net h is = absurd (none_at supply_nets port net no_supply h is)
gate_out (g ∷ gs) o r zero b row net h is = absurd (none_at (Line o g (low_bits g r) ∷ []) 0 net ((λ no. no), tt) h is)
gate_out (g ∷ gs) o r (suc port) b row net h is = let later = gate_out gs (o + g) (high_bits g r) port b row net h is in let at = later.at in record { at = ap suc at; is = later.is }

pub gate_on : (groups : List ℕ) (o r b row : ℕ) → slice_get (row_lines groups o r ++ (Zb b row ∷ supply_nets)) (length groups) ≡ Some (Zb b row)
gate_on [] o r b row = refl
gate_on (g ∷ gs) o r b row = gate_on gs (o + g) (high_bits g r) b row

pub not_wlen : (n b : ℕ) → IsArrayNet (wlen_at n b) → ⊥
not_wlen zero b is = is
not_wlen (suc n) b is = is

-- ports at the column channel, and at write cells
abbrev pub IsAtChannel : LeafInstance → ℕ → Type 0
IsAtChannel (WriteAt b i) port = Unit {0}
IsAtChannel (SenseAt b i) port = Unit {0}
IsAtChannel (MuxAt b c) (suc (suc port)) = Unit {0}
IsAtChannel leaf port = ⊥

module _ (connections : List Connect) (s : Source) (flat : FlatLists) (by : IsStatedBy connections s flat) (joins : JoinsWires connections s.wire) (pins : AreRolePins s) (build : IsBuildable s.plan) (fp : IsFloorplan s.plan s.kit s.wire s.tracks s.floorplan) (other : Net → Shape) where
  -- the port of the leaf, standing so, is joined with the hub
  abbrev pub Joined : (leaf : LeafInstance) (has : HasLeafInstance s.plan leaf) (place : Place) → IsPlaceOf s.plan s.kit s.floorplan leaf place → ℕ → Net → Type 0
  Joined leaf has place stands port net = IsPortJoined connections s flat (standing connections s flat by leaf has place stands) port (array_hub s other net)

  renamed : (leaf : LeafInstance) (has : HasLeafInstance s.plan leaf) (place : Place) (stands : IsPlaceOf s.plan s.kit s.floorplan leaf place) (port : ℕ) (net name : Net) → ◌≡◌ {A = Option Net} (Some net) (Some name) → Joined leaf has place stands port net → Joined leaf has place stands port name
  renamed leaf has place stands port net name h = subst (λ (n : Net). Joined leaf has place stands port n) (some_net net name h)

  not_array : {X : Type 0} (net name : Net) → ◌≡◌ {A = Option Net} (Some net) (Some name) → (IsArrayNet net → ⊥) → IsArrayNet name → X
  not_array net name h none is = absurd (subst (λ (n : Net). IsArrayNet n → ⊥) (some_net net name h) none is)

  -- Each port on a net of the array is joined with the net's hub, but for those at the column channel.
  pub array_joined : ((leaf : LeafInstance) (has : HasLeafInstance s.plan leaf) (place : Place) (stands : IsPlaceOf s.plan s.kit s.floorplan leaf place) (port : ℕ) (net : Net) → IsAtChannel leaf port → slice_get (ports s.plan leaf) port ≡ Some net → IsArrayNet net → Joined leaf has place stands port net)
      → (leaf : LeafInstance) (has : HasLeafInstance s.plan leaf) (place : Place) (stands : IsPlaceOf s.plan s.kit s.floorplan leaf place) (port : ℕ) (net : Net) → slice_get (ports s.plan leaf) port ≡ Some net → IsArrayNet net → Joined leaf has place stands port net
  array_joined ends (BitAt b r c) has place stands zero net h is = renamed (BitAt b r c) has place stands 0 (Bl b c) net h
      (pin_joined_by connections s flat by (BitAt b r c) has place (bit_place s b r c) stands 0 1 (array_hub s other (Bl b c)) stands (bit_drawn s pins 0 (omega arith)).bound (line_in_bit connections s flat by joins pins build fp 0 b r c (omega arith) has.0 has.1.0 has.1.1))
  array_joined ends (BitAt b r c) has place stands (suc zero) net h is = renamed (BitAt b r c) has place stands 1 (Br b c) net h
      (pin_joined_by connections s flat by (BitAt b r c) has place (bit_place s b r c) stands 1 1 (array_hub s other (Br b c)) stands (bit_drawn s pins 1 (omega arith)).bound (line_in_bit connections s flat by joins pins build fp 1 b r c (omega arith) has.0 has.1.0 has.1.1))
  array_joined ends (BitAt b r c) has place stands (suc (suc zero)) net h is = renamed (BitAt b r c) has place stands 2 (Wl b r) net h
      (pin_joined_by connections s flat by (BitAt b r c) has place (bit_place s b r c) stands 2 0 (array_hub s other (Wl b r)) stands (word_drawn s pins).bound (word_in_bit connections s flat by joins pins build fp b r c has.0 has.1.0 has.1.1))
  array_joined ends (BitAt b r c) has place stands (suc (suc (suc port))) net h is = absurd (none_at supply_nets port net no_supply h is)
  array_joined ends (NandAt b r) has place stands port net h is =
      let out = gate_out s.plan.groups s.plan.col_bits r port b r net h is in
      subst (λ (p : ℕ). Joined (NandAt b r) has place stands p net) (sym out.at)
      (subst (λ (n : Net). Joined (NandAt b r) has place stands (length s.plan.groups) n) out.is
      (pin_joined_by connections s flat by (NandAt b r) has place (gate_place s b r) stands (length s.plan.groups) 0 (array_hub s other (Zb b r)) stands (gate_drawn s pins build.groups).bound
      (gate_in_driver connections s flat by joins pins build fp b r has.0 has.1 (gate_on s.plan.groups s.plan.col_bits r b r))))
  array_joined ends (DriverAt b r) has place stands zero net h is = renamed (DriverAt b r) has place stands 0 (Zb b r) net h
      (pin_joined_by connections s flat by (DriverAt b r) has place (driver_place s b r) stands 0 0 (array_hub s other (Zb b r)) stands (driver_in_drawn s pins).bound (net_of_itself connections flat.shapes (array_hub s other (Zb b r))))
  array_joined ends (DriverAt b r) has place stands (suc zero) net h is = not_array (wlen_at s.plan.bank_bits b) net h (not_wlen s.plan.bank_bits b) is
  array_joined ends (DriverAt b r) has place stands (suc (suc zero)) net h is = renamed (DriverAt b r) has place stands 2 (Wl b r) net h
      (pin_joined_by connections s flat by (DriverAt b r) has place (driver_place s b r) stands 2 0 (array_hub s other (Wl b r)) stands (driver_out_drawn s pins).bound (word_in_driver connections s flat by joins pins build fp b r has.0 has.1 (some_columns s.plan build)))
  array_joined ends (DriverAt b r) has place stands (suc (suc (suc port))) net h is = absurd (none_at supply_nets port net no_supply h is)
  array_joined ends (PrechargeAt b c) has place stands zero net h is = renamed (PrechargeAt b c) has place stands 0 (Bl b c) net h
      (pin_joined_by connections s flat by (PrechargeAt b c) has place (precharge_place s b c) stands 0 1 (array_hub s other (Bl b c)) stands (precharge_drawn s pins 0 (omega arith)).bound (line_in_precharge connections s flat by joins pins build fp 0 b c (omega arith) has.0 has.1 refl))
  array_joined ends (PrechargeAt b c) has place stands (suc zero) net h is = renamed (PrechargeAt b c) has place stands 1 (Br b c) net h
      (pin_joined_by connections s flat by (PrechargeAt b c) has place (precharge_place s b c) stands 1 1 (array_hub s other (Br b c)) stands (precharge_drawn s pins 1 (omega arith)).bound (line_in_precharge connections s flat by joins pins build fp 1 b c (omega arith) has.0 has.1 refl))
  array_joined ends (PrechargeAt b c) has place stands (suc (suc port)) net h is = absurd (none_at (Control Clkb ∷ supply_nets) port net ((λ no. no), no_supply) h is)
  array_joined ends (WriteAt b i) has place stands port net h is = ends (WriteAt b i) has place stands port net tt h is
  array_joined ends (SenseAt b i) has place stands port net h is = ends (SenseAt b i) has place stands port net tt h is
  array_joined ends (MuxAt b c) has place stands zero net h is = renamed (MuxAt b c) has place stands 0 (Bl b c) net h
      (mux_joined connections s flat by joins pins build fp 0 (omega arith) b c has place stands)
  array_joined ends (MuxAt b c) has place stands (suc zero) net h is = renamed (MuxAt b c) has place stands 1 (Br b c) net h
      (mux_joined connections s flat by joins pins build fp 1 (omega arith) b c has place stands)
  array_joined ends (MuxAt b c) has place stands (suc (suc port)) net h is = ends (MuxAt b c) has place stands (suc (suc port)) net tt h is
  array_joined ends (TieAt b c) has place stands zero net h is = renamed (TieAt b c) has place stands 0 (Bl b c) net h
      (pin_joined_by connections s flat by (TieAt b c) has place (column_place s b c) stands 0 1 (array_hub s other (Bl b c)) stands (column_drawn s pins 0 0 (omega arith)).bound (line_in_column connections s flat by joins pins build fp 0 0 b c (omega arith) (sym has.1.1) has.0 has.1.0))
  array_joined ends (TieAt b c) has place stands (suc zero) net h is = renamed (TieAt b c) has place stands 1 (Br b c) net h
      (pin_joined_by connections s flat by (TieAt b c) has place (column_place s b c) stands 1 1 (array_hub s other (Br b c)) stands (column_drawn s pins 0 1 (omega arith)).bound (line_in_column connections s flat by joins pins build fp 0 1 b c (omega arith) (sym has.1.1) has.0 has.1.0))
  array_joined ends (TieAt b c) has place stands (suc (suc port)) net h is = absurd (none_at supply_nets port net no_supply h is)
  array_joined ends (LogicAt cell) has place stands port net h is = absurd (none_at (logic_cell_ports s.plan cell) port net (no_logic s.plan cell) h is)
