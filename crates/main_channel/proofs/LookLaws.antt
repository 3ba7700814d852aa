-- A name's number is its net's place among the nets of the channel.
use Rattle.std.proofs.Common.{◌≡◌, ℕ, zero, suc, ◌≤◌, ◌-◌, List, [], ◌∷◌, ◌++◌, map, length, get_or, Option, Some, refl, ap, sym, ◌∙◌, arith}
use Rattle.std.specs.Prelude.{slice_get, option_map, codes}
use Rattle.std.proofs.lemmas.List.{length-map}
use Rattle.std.proofs.lemmas.Option.{slice_get-map, get_or_from_slice_get}
use Rattle.cell_roles.specs.declared.role.Role.{Role}
use Rattle.spice_netlist.specs.Names.{index_of}
use Rattle.sram_netlist.specs.Organization.{Organization, IsBuildable, inputs_of, addr_bits}
use Rattle.sram_netlist.specs.Nets.{Net, Addr, Din, Dout, Wmask}
use Rattle.sram_netlist.specs.Instances.{LogicCell}
use Rattle.sram_netlist.specs.Netlist.{web_nets, logic_cell_ports}
use Rattle.sram_netlist.specs.Names.{net_name}
use Rattle.sram_netlist.specs.InstanceList.{tabulate, logic_cells}
use Rattle.sram_deck.specs.Deck.{web_ports, logic_cell, logic_instances, port_bits}
use Rattle.sram_rows.proofs.FindLaws.{spot, find_some}
use Rattle.port_lists.proofs.TabulateLaws.{map_append}
use Rattle.macro_layout.specs.Pins.{port_nets, before_supplies, output_of, main_nets}
use Rattle.main_channel.specs.Names.{output_name, port_names, channel_names}
use Rattle.main_channel.proofs.ListLaws.{exists_in, one_there, value_of}
use Rattle.main_channel.proofs.TableLaws.{map_tabulated}
use Rattle.main_channel.proofs.NameLaws.{IsChannelNet, names_told}
use Rattle.main_channel.proofs.NetLaws.{before_at, main_net, one_number}
use Rattle.main_channel.proofs.PortLaws.{three_ports}

-- The names of the channel are those of its nets.
web_named : (plan : Organization) (w : ℕ) → map (net_name plan) (web_nets w) ≡ web_ports w
web_named plan zero = refl
web_named plan (suc w) = refl

ports_named : (plan : Organization) → map (net_name plan) (port_nets plan) ≡ port_names plan
ports_named plan =
    let name = net_name plan in
    let outs = tabulate plan.word_size Dout in
    let ins = tabulate (inputs_of plan) Din ++ outs in
    let address = tabulate (addr_bits plan) Addr ++ ins in
    let masks = tabulate plan.masks Wmask ++ address in
    let bits : List ℕ → ℕ → List (List ℕ) = λ letters n. port_bits n letters in
    ap (λ (l : List (List ℕ)). codes "clk0" ∷ codes "csb0" ∷ l)
    (map_append name (web_nets plan.write_size) masks
    ∙ (λ i. web_named plan plan.write_size i ++ (map_append name (tabulate plan.masks Wmask) address
    ∙ (λ i. map_tabulated name plan.masks Wmask i ++ (map_append name (tabulate (addr_bits plan) Addr) ins
    ∙ (λ i. map_tabulated name (addr_bits plan) Addr i ++ (map_append name (tabulate (inputs_of plan) Din) outs
    ∙ (λ i. map_tabulated name (inputs_of plan) Din i ++ map_tabulated name plan.word_size Dout i)) i)) i)) i))

named_at : (plan : Organization) (xs : List Net) → 3 ≤ length xs → get_or (map (net_name plan) xs) (length (map (net_name plan) xs) - 3) [] ≡ net_name plan (before_supplies xs)
named_at plan xs three =
    let long = length-map xs (net_name plan) in
    get_or_from_slice_get (map (net_name plan) xs) (length (map (net_name plan) xs) - 3) (net_name plan (before_supplies xs)) []
    (slice_get-map (net_name plan) xs (length (map (net_name plan) xs) - 3) ∙ (ap (λ (n : ℕ). option_map (net_name plan) (slice_get xs (n - 3))) long ∙ ap (option_map (net_name plan)) (before_at xs three)))

outputs_named : (plan : Organization) (cell : Role → List ℕ) (cells : List LogicCell) → map output_name (map (logic_cell plan cell) cells) ≡ map (net_name plan) (map (output_of plan) cells)
outputs_named plan cell [] = refl
outputs_named plan cell (c ∷ cs) = λ i. named_at plan (logic_cell_ports plan c) (three_ports plan c) i ∷ outputs_named plan cell cs i

pub channel_named : (plan : Organization) (cell : Role → List ℕ) → channel_names plan (logic_instances plan cell) ≡ map (net_name plan) (main_nets plan)
channel_named plan cell =
    (λ i. sym (ports_named plan) i ++ outputs_named plan cell (logic_cells plan) i)
    ∙ sym (map_append (net_name plan) (port_nets plan) (map (output_of plan) (logic_cells plan)))

-- numbers by names
pub record IsNumbering (plan : Organization) (look : List ℕ → Option ℕ) : Type 0 where
  pub found : (x : Net) (k : ℕ) → IsChannelNet plan x → look (net_name plan x) ≡ Some k → slice_get (main_nets plan) k ≡ Some x
  pub there : (x : Net) (k : ℕ) → slice_get (main_nets plan) k ≡ Some x → look (net_name plan x) ≡ Some k

module _ (plan : Organization) (p : IsBuildable plan) (names : List (List ℕ)) (look : List ℕ → Option ℕ) (named : names ≡ map (net_name plan) (main_nets plan)) (looked : (name : List ℕ) → look name ≡ index_of names name) where
  name_found : (x : Net) (k : ℕ) → IsChannelNet plan x → look (net_name plan x) ≡ Some k → slice_get (main_nets plan) k ≡ Some x
  name_found x k told e =
      let s = spot (net_name plan x) names 0 k (sym (looked (net_name plan x)) ∙ e) in
      let is = s.is in
      let within = s.within in
      let long = ap length named ∙ length-map (main_nets plan) (net_name plan) in
      let y = exists_in (main_nets plan) s.at (omega (arith, within, long)) in
      let read : get_or names s.at [] ≡ net_name plan y.0 =
      ap (λ (l : List (List ℕ)). get_or l s.at []) named
      ∙ get_or_from_slice_get (map (net_name plan) (main_nets plan)) s.at (net_name plan y.0) [] (slice_get-map (net_name plan) (main_nets plan) s.at ∙ ap (option_map (net_name plan)) y.1) in
      let same : y.0 ≡ x = names_told plan p y.0 x (main_net plan s.at y.0 y.1) told (sym read ∙ s.name) in
      let at : k ≡ s.at = omega (arith, is) in
      ap (slice_get (main_nets plan)) at ∙ (y.1 ∙ ap (λ (z : Net). Some z) same)

  name_there : (x : Net) (k : ℕ) → slice_get (main_nets plan) k ≡ Some x → look (net_name plan x) ≡ Some k
  name_there x k at =
      let told = main_net plan k x at in
      let listed : slice_get names k ≡ Some (net_name plan x) = ap (λ (l : List (List ℕ)). slice_get l k) named ∙ (slice_get-map (net_name plan) (main_nets plan) k ∙ ap (option_map (net_name plan)) at) in
      let j = value_of (index_of names (net_name plan x)) (find_some (net_name plan x) 0 names (one_there names k (net_name plan x) listed)) in
      let e = looked (net_name plan x) ∙ j.1 in
      e ∙ ap (λ (n : ℕ). Some n) (one_number plan p j.0 k x (name_found x j.0 told e) at)

  pub numbering_is : IsNumbering plan look
  numbering_is = record { found = name_found; there = name_there }
