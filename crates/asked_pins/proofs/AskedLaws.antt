-- Each pin that a layout asks for is demanded.
use Rattle.std.proofs.Common.{◌≡◌, ◌⊎◌, inl, inr, ℕ, zero, suc, ◌+◌, ◌<◌, Bool, true, false, cond, List, [], ◌∷◌, length, find, Some, refl, ap, sym, subst, ◌∙◌, arith}
use Rattle.std.specs.Prelude.{slice_get, if◌then◌else◌}
use Rattle.std.specs.Str.{bytes_eq}
use Rattle.std.proofs.lemmas.List.Folds.{find_at}
use Rattle.std.proofs.lemmas.Option.{same_Some, slice_get_within}
use Rattle.std.proofs.lemmas.Slice.Eq.{bytes_eq-Decides}
use Rattle.cell_roles.specs.declared.role.Role.{Role}
use Rattle.cell_roles.specs.declared.role.Role.TheVariants.{Precharge, Mux, Tie, Sense, Write, Driver}
use Rattle.leaf_shapes.specs.declared.demand.Metal.{Metal}
use Rattle.leaf_shapes.specs.declared.demand.Metal.TheVariants.{M1, M2, M3, M4}
use Rattle.leaf_shapes.specs.Demands.{role_demands}
use Rattle.leaf_shapes.proofs.PinLaws.{exists_at}
use Rattle.sram_netlist.specs.Organization.{Organization, IsBuildable}
use Rattle.sram_netlist.specs.Nets.{Net, Vdd, Gnd, Dout, Bl, Br, Zb}
use Rattle.sram_netlist.specs.Instances.{LogicCell, NandAt, DriverAt, PrechargeAt, SenseAt, MuxAt, TieAt, LogicAt}
use Rattle.sram_netlist.specs.Netlist.{role, ports, row_gate, row_lines, supply_nets, logic_role, logic_cell_ports, sen_at}
use Rattle.sram_netlist.specs.Membership.{HasLeafInstance}
use Rattle.sram_rows.proofs.LogicCells.{ports_sized}
use Rattle.macro_layout.specs.Pins.{rail_nets, column_nets, main_nets}
use Rattle.macro_layout.specs.Cells.{column_leaf}
use Rattle.floorplan.specs.Demanded.{metal_number, same_metal, asks_for, IsDemandOf}
use Rattle.main_channel.proofs.PortLaws.{which_port, logic_demand}
use Rattle.main_channel.proofs.NetLaws.{not_vdd, not_gnd}
use Rattle.port_data.proofs.NetLaws.{column_net, is_among, is_behind, among, among_muxed}
use Rattle.port_data.proofs.SenseLaws.{never}
use Rattle.bank_layout.proofs.NetLaws.{split_at}
use Rattle.bank_layout.proofs.RailNetLaws.{on_rail, rows_long, gate_off, driver_port, precharge_port, sense_port}
use Rattle.asked_pins.specs.Demanded.{IsDemandedPort}

-- What is demanded first for a port is demanded.

found_passes : {X : Type 0} (p : X → Bool) (xs : List X) (x : X) → find p xs ≡ Some x → p x ≡ true
found_passes p [] x e = absurd cc
found_passes {X} p (y ∷ ys) x e = by (p y) refl (found_passes p ys x) e where
  by : (b : Bool) → p y ≡ b → (find p ys ≡ Some x → p x ≡ true) → cond b (Some y) (find p ys) ≡ Some x → p x ≡ true
  by true passes later is = subst (λ (z : X). p z ≡ true) (same_Some y x is) passes
  by false passes later is = later is

metal_is : (a b : Metal) → same_metal a b ≡ true → metal_number a ≡ metal_number b
metal_is M1 M1 e = refl
metal_is M1 M2 e = absurd cc
metal_is M1 M3 e = absurd cc
metal_is M1 M4 e = absurd cc
metal_is M2 M1 e = absurd cc
metal_is M2 M2 e = refl
metal_is M2 M3 e = absurd cc
metal_is M2 M4 e = absurd cc
metal_is M3 M1 e = absurd cc
metal_is M3 M2 e = absurd cc
metal_is M3 M3 e = refl
metal_is M3 M4 e = absurd cc
metal_is M4 M1 e = absurd cc
metal_is M4 M2 e = absurd cc
metal_is M4 M3 e = absurd cc
metal_is M4 M4 e = refl

both_hold : (a b : Bool) → (if a then b else false) ≡ true → (a ≡ true) × (b ≡ true)
both_hold true b e = (refl, e)
both_hold false b e = absurd cc

first_is_demanded : (role : Role) (port metal k : ℕ) → IsDemandOf role port metal k → IsDemandedPort role port metal
first_is_demanded role port metal k d =
    let demand = exists_at (role_demands role) k d.there in
    let found = find_at (asks_for d.name d.on) (role_demands role) ∙ (ap (slice_get (role_demands role)) d.first ∙ demand.1) in
    let asks = both_hold (bytes_eq demand.0.pin d.name) (same_metal demand.0.metal d.on) (found_passes (asks_for d.name d.on) (role_demands role) demand.0 found) in
    let named : demand.0.pin ≡ d.name = (bytes_eq-Decides demand.0.pin d.name).0 asks.0 in
    record { place = k; demand = demand.0; there = demand.1; named = d.named ∙ ap (λ (n : List ℕ). Some n) (sym named); on = metal_is demand.0.metal d.on asks.1 ∙ d.number }

-- Ports that are asked for by number

pub write_din : IsDemandedPort Write 0 3
write_din = record { place = 0; demand = _; there = refl; named = refl; on = refl }

pub write_en : IsDemandedPort Write 3 3
write_en = record { place = 3; demand = _; there = refl; named = refl; on = refl }

pub sense_dout : IsDemandedPort Sense 2 3
sense_dout = record { place = 2; demand = _; there = refl; named = refl; on = refl }

pub sense_bl : IsDemandedPort Sense 0 1
sense_bl = record { place = 0; demand = _; there = refl; named = refl; on = refl }

pub sense_br : IsDemandedPort Sense 1 1
sense_br = record { place = 1; demand = _; there = refl; named = refl; on = refl }

pub mux_blo : IsDemandedPort Mux 2 3
mux_blo = record { place = 2; demand = _; there = refl; named = refl; on = refl }

pub mux_bro : IsDemandedPort Mux 3 3
mux_bro = record { place = 3; demand = _; there = refl; named = refl; on = refl }

pub mux_sel : IsDemandedPort Mux 4 3
mux_sel = record { place = 4; demand = _; there = refl; named = refl; on = refl }

pub tie_bl : IsDemandedPort Tie 0 3
tie_bl = record { place = 1; demand = _; there = refl; named = refl; on = refl }

pub tie_br : IsDemandedPort Tie 1 3
tie_br = record { place = 3; demand = _; there = refl; named = refl; on = refl }

driver_en : IsDemandedPort Driver 1 2
driver_en = record { place = 1; demand = _; there = refl; named = refl; on = refl }

sense_en : IsDemandedPort Sense 3 2
sense_en = record { place = 3; demand = _; there = refl; named = refl; on = refl }

precharge_en : IsDemandedPort Precharge 2 2
precharge_en = record { place = 2; demand = _; there = refl; named = refl; on = refl }

gate_input : (groups : List ℕ) (port : ℕ) → (length groups ≡ 2) ⊎ (length groups ≡ 3) → port < length groups → IsDemandedPort (row_gate groups) port 2
gate_input [] port n lt = absurd (omega (arith, lt))
gate_input (a ∷ []) port n lt = absurd (elim n [ inl e ↦ omega (arith, e) | inr e ↦ omega (arith, e) ])
gate_input (a ∷ b ∷ []) zero n lt = record { place = 0; demand = _; there = refl; named = refl; on = refl }
gate_input (a ∷ b ∷ []) (suc zero) n lt = record { place = 1; demand = _; there = refl; named = refl; on = refl }
gate_input (a ∷ b ∷ []) (suc (suc port)) n lt = absurd (omega (arith, lt))
gate_input (a ∷ b ∷ c ∷ bs) zero n lt = record { place = 0; demand = _; there = refl; named = refl; on = refl }
gate_input (a ∷ b ∷ c ∷ bs) (suc zero) n lt = record { place = 1; demand = _; there = refl; named = refl; on = refl }
gate_input (a ∷ b ∷ c ∷ bs) (suc (suc zero)) n lt = record { place = 2; demand = _; there = refl; named = refl; on = refl }
gate_input (a ∷ b ∷ c ∷ bs) (suc (suc (suc port))) n lt = absurd (elim n [ inl e ↦ omega (arith, e) | inr e ↦ omega (arith, e, lt) ])

-- Ports of cells that have taps, on the net of a rail

pub gate_asked : (plan : Organization) (rail r port : ℕ) (net : Net) → IsBuildable plan → slice_get (rail_nets plan 0) rail ≡ Some net
    → slice_get (ports plan (NandAt 0 r)) port ≡ Some net → IsDemandedPort (row_gate plan.groups) port 2
gate_asked plan rail r port net built carried on = elim (split_at (row_lines plan.groups plan.col_bits r) (Zb 0 r ∷ supply_nets) port net on) [
  | inl input ↦
      let within = slice_get_within (row_lines plan.groups plan.col_bits r) port net input in
      let long = rows_long plan.groups plan.col_bits r in
      gate_input plan.groups port built.groups (omega (arith, within, long))
  | inr other ↦ absurd (gate_off r other.k net other.at (on_rail plan rail net carried))
]

pub driver_asked : (plan : Organization) (rail r port : ℕ) (net : Net) → slice_get (rail_nets plan 0) rail ≡ Some net
    → slice_get (ports plan (DriverAt 0 r)) port ≡ Some net → IsDemandedPort Driver port 2
driver_asked plan rail r port net carried on =
    subst (λ (k : ℕ). IsDemandedPort Driver k 2) (sym (driver_port plan r port net on (on_rail plan rail net carried))) driver_en

pub enable_asked : (plan : Organization) (rail i port : ℕ) (net : Net) → slice_get (rail_nets plan 0) rail ≡ Some net
    → slice_get (ports plan (SenseAt 0 i)) port ≡ Some net → IsDemandedPort Sense port 2
enable_asked plan rail i port net carried on =
    subst (λ (k : ℕ). IsDemandedPort Sense k 2) (sym (sense_port plan i port net on (on_rail plan rail net carried))) sense_en

pub precharge_asked : (plan : Organization) (rail c port : ℕ) (net : Net) → slice_get (rail_nets plan 0) rail ≡ Some net
    → slice_get (ports plan (PrechargeAt 0 c)) port ≡ Some net → IsDemandedPort Precharge port 2
precharge_asked plan rail c port net carried on =
    subst (λ (k : ℕ). IsDemandedPort Precharge k 2) (sym (precharge_port plan c port net on (on_rail plan rail net carried))) precharge_en

-- Ports on a net of the column channel

never_muxed : (net other : Net) → is_behind net ≡ true → Some other ≡ Some net → is_behind other ≡ false → ⊥
never_muxed net other is same not = let t : true ≡ false = sym is ∙ (ap is_behind (sym (same_Some other net same)) ∙ not) in cc

enable_not_among : (bits : ℕ) → is_among (sen_at bits 0) ≡ false
enable_not_among zero = refl
enable_not_among (suc n) = refl

mux_asked : (plan : Organization) (c port : ℕ) (net : Net) → is_behind net ≡ true → slice_get (ports plan (MuxAt 0 c)) port ≡ Some net
    → IsDemandedPort Mux port 3
mux_asked plan c zero net is on = absurd (never_muxed net (Bl 0 c) is on refl)
mux_asked plan c (suc zero) net is on = absurd (never_muxed net (Br 0 c) is on refl)
mux_asked plan c (suc (suc zero)) net is on = mux_blo
mux_asked plan c (suc (suc (suc zero))) net is on = mux_bro
mux_asked plan c (suc (suc (suc (suc zero)))) net is on = mux_sel
mux_asked plan c (suc (suc (suc (suc (suc zero))))) net is on = absurd (never_muxed net Vdd is on refl)
mux_asked plan c (suc (suc (suc (suc (suc (suc zero)))))) net is on = absurd (never_muxed net Gnd is on refl)
mux_asked plan c (suc (suc (suc (suc (suc (suc (suc port))))))) net is on = absurd cc

tie_asked : (plan : Organization) (c port : ℕ) (net : Net) → is_among net ≡ true → slice_get (ports plan (TieAt 0 c)) port ≡ Some net
    → IsDemandedPort Tie port 3
tie_asked plan c zero net is on = tie_bl
tie_asked plan c (suc zero) net is on = tie_br
tie_asked plan c (suc (suc zero)) net is on = absurd (never net Vdd is on refl)
tie_asked plan c (suc (suc (suc zero))) net is on = absurd (never net Gnd is on refl)
tie_asked plan c (suc (suc (suc (suc port)))) net is on = absurd cc

muxed_or_tied : (plan : Organization) (bits c port : ℕ) (net : Net) → is_among net ≡ true → (0 < bits → is_behind net ≡ true)
    → slice_get (ports plan (column_leaf bits 0 c)) port ≡ Some net → IsDemandedPort (role plan (column_leaf bits 0 c)) port 3
muxed_or_tied plan zero c port net line muxed on = tie_asked plan c port net line on
muxed_or_tied plan (suc n) c port net line muxed on = mux_asked plan c port net (muxed (omega arith)) on

pub column_asked : (plan : Organization) (number c port : ℕ) (net : Net) → slice_get (column_nets plan) number ≡ Some net
    → slice_get (ports plan (column_leaf plan.col_bits 0 c)) port ≡ Some net → IsDemandedPort (role plan (column_leaf plan.col_bits 0 c)) port 3
column_asked plan number c port net listed on =
    let is = column_net plan number net listed in
    muxed_or_tied plan plan.col_bits c port net (among plan number net is) (λ some. among_muxed plan number net some is) on

pub lines_asked : (plan : Organization) (number i port : ℕ) (net : Net) → slice_get (column_nets plan) number ≡ Some net
    → slice_get (ports plan (SenseAt 0 i)) port ≡ Some net → IsDemandedPort Sense port 1
lines_asked plan number i port net listed on = by port (among plan number net (column_net plan number net listed)) on where
  by : (k : ℕ) → is_among net ≡ true → slice_get (ports plan (SenseAt 0 i)) k ≡ Some net → IsDemandedPort Sense k 1
  by zero is at = sense_bl
  by (suc zero) is at = sense_br
  by (suc (suc zero)) is at = absurd (never net (Dout i) is at refl)
  by (suc (suc (suc zero))) is at = absurd (never net (sen_at plan.bank_bits 0) is at (enable_not_among plan.bank_bits))
  by (suc (suc (suc (suc zero)))) is at = absurd (never net Vdd is at refl)
  by (suc (suc (suc (suc (suc zero))))) is at = absurd (never net Gnd is at refl)
  by (suc (suc (suc (suc (suc (suc k)))))) is at = absurd cc

-- Ports of the logic row on a net of the main channel

pub port_asked : (plan : Organization) (cell : LogicCell) (port : ℕ) → IsBuildable plan → HasLeafInstance plan (LogicAt cell)
    → port + 2 < length (logic_cell_ports plan cell) → IsDemandedPort (logic_role plan cell) port 1
port_asked plan cell port built has signal =
    let sized = ports_sized plan cell built has in
    first_is_demanded (logic_role plan cell) port 1 port (logic_demand plan cell port (omega (arith, signal, sized)))

pub logic_asked : (plan : Organization) (number port : ℕ) (cell : LogicCell) (net : Net) → IsBuildable plan → HasLeafInstance plan (LogicAt cell)
    → slice_get (main_nets plan) number ≡ Some net → slice_get (ports plan (LogicAt cell)) port ≡ Some net
    → IsDemandedPort (logic_role plan cell) port 1
logic_asked plan number port cell net built has listed on = elim (which_port plan cell port net on) [
  | inl signal ↦ port_asked plan cell port built has signal
  | inr (inl vdd) ↦ absurd (not_vdd plan number (listed ∙ ap (λ (n : Net). Some n) vdd))
  | inr (inr gnd) ↦ absurd (not_gnd plan number (listed ∙ ap (λ (n : Net). Some n) gnd))
]
