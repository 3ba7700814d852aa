-- The cells of the logic row: their ports and their roles.
use Rattle.std.proofs.Common.{◌≡◌, ℕ, zero, suc, ◌+◌, ◌≤◌, List, [], ◌∷◌, ◌++◌, map, length, Option, None, Some, refl, ap, sym, subst, ◌∙◌, length-append, arith}
use Rattle.std.specs.Prelude.{slice_get, option_map, codes}
use Rattle.std.proofs.lemmas.List.{length-map}
use Rattle.std.proofs.lemmas.Option.{slice_get-map}
use Rattle.or_geom.proofs.ListLaws.{all_contained, contained_at}
use Rattle.netlist.specs.declared.deck.Instance.{Instance}
use Rattle.cell_roles.specs.declared.role.Role.{Role}
use Rattle.cell_roles.specs.Roles.{role_ports}
use Rattle.leaf_shapes.specs.Demands.{role_demands}
use Rattle.sram_netlist.specs.Organization.{Organization, IsBuildable, written_bits, inputs_of, addr_bits}
use Rattle.sram_netlist.specs.Nets.{Wmask, Addr, Din, Dout}
use Rattle.sram_netlist.specs.Instances.{LogicCell, Pn, Gn}
use Rattle.sram_netlist.specs.Netlist.{gate_of, web_nets, logic_role, logic_cell_ports, enable_inputs}
use Rattle.sram_netlist.specs.Names.{net_name, with_index}
use Rattle.sram_netlist.specs.InstanceList.{tabulate, logic_cells}
use Rattle.sram_netlist.specs.Membership.{HasLogicCell}
use Rattle.sram_deck.specs.Deck.{web_ports, logic_cell, logic_instances, port_bits}
use Rattle.sram_rows.proofs.LogicCells.{cells_in, ports_sized}
use Rattle.macro_layout.specs.Pins.{port_nets, main_nets, output_of}
use Rattle.main_channel.specs.Names.{AreGates, output_name, port_count, port_names, channel_names}
use Rattle.main_channel.specs.Row.{FitRoles}
use Rattle.main_channel.proofs.TableLaws.{count_tabulated}
use Rattle.main_channel.proofs.PortLaws.{three_ports}
use Rattle.main_channel.proofs.NetLaws.{web_counted}

three_nodes : (plan : Organization) (c : LogicCell) → 3 ≤ length (map (net_name plan) (logic_cell_ports plan c))
three_nodes plan c = subst (λ (n : ℕ). 3 ≤ n) (sym (length-map (logic_cell_ports plan c) (net_name plan))) (three_ports plan c)

gates_of : (plan : Organization) (cell : Role → List ℕ) (cells : List LogicCell) → AreGates (map (logic_cell plan cell) cells)
gates_of plan cell [] = tt
gates_of plan cell (c ∷ cs) = (three_nodes plan c, gates_of plan cell cs)

pub are_gates : (plan : Organization) (cell : Role → List ℕ) (gates : List Instance) → gates ≡ logic_instances plan cell → AreGates gates
are_gates plan cell gates is = subst AreGates (sym is) (gates_of plan cell (logic_cells plan))

-- the gates of the logic row draw their ports in order
gate_demands : (n : ℕ) → length (role_ports (gate_of n)) ≡ length (role_demands (gate_of n))
gate_demands zero = refl
gate_demands (suc zero) = refl
gate_demands (suc (suc zero)) = refl
gate_demands (suc (suc (suc n))) = refl

logic_demands : (plan : Organization) (c : LogicCell) → length (role_ports (logic_role plan c)) ≡ length (role_demands (logic_role plan c))
logic_demands plan (Pn o b k) = gate_demands b
logic_demands plan (Gn bank m) = gate_demands (length (enable_inputs plan bank m))
logic_demands plan c = refl

pub cell_fits : (plan : Organization) (c : LogicCell) → IsBuildable plan → HasLogicCell plan c → length (map (net_name plan) (logic_cell_ports plan c)) ≡ length (role_demands (logic_role plan c))
cell_fits plan c p has = length-map (logic_cell_ports plan c) (net_name plan) ∙ (sym (ports_sized plan c p has) ∙ logic_demands plan c)

abbrev some_or : {X : Type 0} → X → Option X → X
some_or d None = d
some_or d (Some x) = x

nodes_fit : (plan : Organization) (cell : Role → List ℕ) (k : ℕ) (gate : Instance) (role : Role) → IsBuildable plan → option_map (logic_cell plan cell) (slice_get (logic_cells plan) k) ≡ Some gate
    → option_map (logic_role plan) (slice_get (logic_cells plan) k) ≡ Some role → length gate.nodes ≡ length (role_demands role)
nodes_fit plan cell k gate role p = by (slice_get (logic_cells plan) k) refl where
  by : (o : Option LogicCell) → slice_get (logic_cells plan) k ≡ o → option_map (logic_cell plan cell) o ≡ Some gate → option_map (logic_role plan) o ≡ Some role → length gate.nodes ≡ length (role_demands role)
  by None at none other = absurd cc
  by (Some c) at is plays =
      let has = all_contained (HasLogicCell plan) (logic_cells plan) c (cells_in plan) (contained_at (logic_cells plan) k c at) in
      let one : gate ≡ logic_cell plan cell c = ap (some_or gate) (sym is) in
      let its : role ≡ logic_role plan c = ap (some_or role) (sym plays) in
      ap (λ (g : Instance). length g.nodes) one ∙ (cell_fits plan c p has ∙ ap (λ (r : Role). length (role_demands r)) (sym its))

pub fit_roles : (plan : Organization) (cell : Role → List ℕ) (gates : List Instance) (roles : List Role) → IsBuildable plan → gates ≡ logic_instances plan cell → roles ≡ map (logic_role plan) (logic_cells plan) → FitRoles gates roles
fit_roles plan cell gates roles p are play = record {
  each = ap length play ∙ (length-map (logic_cells plan) (logic_role plan) ∙ (sym (length-map (logic_cells plan) (logic_cell plan cell)) ∙ sym (ap length are)));
  ports = λ k gate role at plays. nodes_fit plan cell k gate role p
      (sym (slice_get-map (logic_cell plan cell) (logic_cells plan) k) ∙ (ap (λ (l : List Instance). slice_get l k) (sym are) ∙ at))
      (sym (slice_get-map (logic_role plan) (logic_cells plan) k) ∙ (ap (λ (l : List Role). slice_get l k) (sym play) ∙ plays));
}

pub gates_sized : (plan : Organization) (cell : Role → List ℕ) (gates : List Instance) → gates ≡ logic_instances plan cell → length gates ≡ length (logic_cells plan)
gates_sized plan cell gates are = ap length are ∙ length-map (logic_cells plan) (logic_cell plan cell)

-- how many names there are
web_sized : (w : ℕ) → length (web_ports w) ≡ written_bits w 1
web_sized zero = refl
web_sized (suc w) = refl

pub names_sized : (plan : Organization) (gates : List Instance) → length (channel_names plan gates) ≡ port_count plan + length gates
names_sized plan gates =
    let masks = count_tabulated plan.masks (with_index (codes "wmask0")) in
    let address = count_tabulated (addr_bits plan) (with_index (codes "addr0")) in
    let web = web_sized plan.write_size in
    let ins = count_tabulated (inputs_of plan) (with_index (codes "din0")) in
    let outs = count_tabulated plan.word_size (with_index (codes "dout0")) in
    let f = length-append (web_ports plan.write_size) (port_bits plan.masks (codes "wmask0") ++ (port_bits (addr_bits plan) (codes "addr0") ++ (port_bits (inputs_of plan) (codes "din0") ++ port_bits plan.word_size (codes "dout0")))) in
    let a = length-append (port_bits plan.masks (codes "wmask0")) (port_bits (addr_bits plan) (codes "addr0") ++ (port_bits (inputs_of plan) (codes "din0") ++ port_bits plan.word_size (codes "dout0"))) in
    let b = length-append (port_bits (addr_bits plan) (codes "addr0")) (port_bits (inputs_of plan) (codes "din0") ++ port_bits plan.word_size (codes "dout0")) in
    let c = length-append (port_bits (inputs_of plan) (codes "din0")) (port_bits plan.word_size (codes "dout0")) in
    let d = length-append (port_names plan) (map output_name gates) in
    let e = length-map gates output_name in
    omega (arith, web, masks, address, ins, outs, f, a, b, c, d, e)

-- how many nets there are
pub ports_counted : (plan : Organization) → length (port_nets plan) ≡ port_count plan
ports_counted plan =
    let masks = count_tabulated plan.masks Wmask in
    let address = count_tabulated (addr_bits plan) Addr in
    let web = web_counted plan.write_size in
    let ins = count_tabulated (inputs_of plan) Din in
    let outs = count_tabulated plan.word_size Dout in
    let d = length-append (web_nets plan.write_size) (tabulate plan.masks Wmask ++ (tabulate (addr_bits plan) Addr ++ (tabulate (inputs_of plan) Din ++ tabulate plan.word_size Dout))) in
    let a = length-append (tabulate plan.masks Wmask) (tabulate (addr_bits plan) Addr ++ (tabulate (inputs_of plan) Din ++ tabulate plan.word_size Dout)) in
    let b = length-append (tabulate (addr_bits plan) Addr) (tabulate (inputs_of plan) Din ++ tabulate plan.word_size Dout) in
    let c = length-append (tabulate (inputs_of plan) Din) (tabulate plan.word_size Dout) in
    omega (arith, web, masks, address, ins, outs, d, a, b, c)

pub nets_counted : (plan : Organization) → length (main_nets plan) ≡ port_count plan + length (logic_cells plan)
nets_counted plan =
    let ports = ports_counted plan in
    let outputs = length-map (logic_cells plan) (output_of plan) in
    let all = length-append (port_nets plan) (map (output_of plan) (logic_cells plan)) in
    omega (arith, ports, outputs, all)
