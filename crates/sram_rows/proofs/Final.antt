-- Flat rows of the written deck are the reference netlist's, and no fault applies.
use Rattle.std.proofs.Common.{◌≡◌, ◌≢◌, inl, inr, ℕ, zero, suc, ◌+◌, ◌<◌, ◌≤◌, List, [], ◌∷◌, ◌++◌, length, map, Option, None, refl, sym, ap, subst, ◌∙◌, arith, Bool, true, false, cond}
use Rattle.std.specs.Prelude.{codes}
use Rattle.std.specs.List.{flat_map, AllByRecursion}
use Rattle.std.proofs.lemmas.List.{map-append, length-map, length-append}
use Rattle.std.proofs.lemmas.Option.{none-some}
use Rattle.netlist.specs.declared.deck.Subckt.{Subckt}
use Rattle.netlist.specs.declared.rows.RowPin.{RowPin}
use Rattle.spice_netlist.specs.declared.resolved.ResolvedSubckt.{ResolvedSubckt}
use Rattle.spice_netlist.specs.declared.fault.FlatFault.{FlatFault}
use Rattle.spice_netlist.specs.declared.fault.FlatFault.TheVariants.{UnknownSubckt, Cycle, PortCount, TooMany, Memory}
use Rattle.spice_text.specs.Writable.{lowered_subckt}
use Rattle.spice_text.specs.Words.{lower}
use Rattle.spice_netlist.specs.Names.{index_of}
use Rattle.spice_netlist.specs.Resolved.{names_of, resolved_subckts, resolved_instance, ports_at, leaf_at}
use Rattle.spice_netlist.specs.Walk.{FlatInstance, visits, visits_by, walk_at, first_bad, leaf_count, FlatNet, local}
use Rattle.spice_netlist.specs.Pins.{NamedPin, pins_of, port_row, pin_row, named_rows, pins_from, pins_in}
use Rattle.spice_netlist.specs.Numbers.{label_of_named, net_at, AreNumberedRows, PinLabel}
use Rattle.spice_netlist.specs.Faults.{IsTooMany, IsFaultAt, IsFaultOfTop, AreRowsAt, AreRows}
use Rattle.row_laws.specs.Flattens.{moved, zip_rows, Flattens, rows_from}
use Rattle.row_laws.proofs.CaseLaws.{case_forgotten}
use Rattle.row_laws.proofs.NumberingLaws.{SomeRows, deck_rows}
use Rattle.row_laws.proofs.LookLaws.{all_append, all_map}
use Rattle.sram_netlist.specs.Organization.{Organization, inputs_of, addr_bits, IsBuildable}
use Rattle.sram_netlist.specs.Nets.{Net, Vdd, Gnd, Control, Clk0, Csb0, Web0, Addr, Din, Dout, Wmask}
use Rattle.sram_netlist.specs.Instances.{LeafInstance}
use Rattle.cell_roles.specs.declared.role.Role.{Role}
use Rattle.cell_roles.specs.Roles.{role_ports, supplies}
use Rattle.sram_netlist.specs.Membership.{IsNameable}
use Rattle.sram_netlist.specs.Netlist.{web_nets, role, ports}
use Rattle.sram_netlist.specs.Names.{leaf_path, full_name, net_name}
use Rattle.sram_netlist.specs.BitCells.{BitCells}
use Rattle.sram_netlist.specs.InstanceList.{numbers_from, tabulate, leaf_instances}
use Rattle.sram_netlist.proofs.TextLaws.{texts_tell}
use Rattle.sram_netlist.proofs.Bounds.{bounds, written_most}
use Rattle.sram_deck.specs.Deck.{web_ports, port_bits, written_subckts, top_ports, top_instances}
use Rattle.sram_rows.specs.Rows.{cell_at, macro_nets, NetlistPin, port_pin, pins_with_nets, leaf_pins, netlist_pins, net_of_pin, RowsEqual, AreLeavesFor, DeckIsNetlist, RowsEqualNetlist}
use Rattle.sram_rows.proofs.Segments.{all_tabulate}
use Rattle.sram_rows.proofs.PlainNames.{inputs_within}
use Rattle.sram_rows.proofs.LeafInstances.{row_of, below}
use Rattle.sram_rows.proofs.TopLevel.{top_flat}
use Rattle.sram_rows.proofs.WrittenSubckts.{find, subckts, count, deck_long, bank_cells, bank_cell, logic_cell, has_leaves, top_there, top_ports_are, top_has}
use Rattle.sram_rows.proofs.Reach.{acyclic, there}
use Rattle.sram_rows.proofs.Counts.{each_long, leaves_few_all, rows_few}
use Rattle.sram_rows.proofs.NameableNets.{HaveNets, leaves_have}
use Rattle.spice_netlist.specs.NetKeys.{net_key}
use Rattle.spice_netlist.proofs.LowLaws.{keys_tell_nets}

maps : {X Y Z : Type 0} (f : Y → Z) (g : X → Y) (xs : List X) → map f (map g xs) ≡ map (λ x. f (g x)) xs
maps f g [] = refl
maps {X} {Y} {Z} f g (x ∷ xs) = ap (λ (l : List Z). f (g x) ∷ l) (maps f g xs)

map_flat : {X Y Z : Type 0} (f : Y → Z) (g : X → List Y) (h : X → List Z) (xs : List X) → ((x : X) → map f (g x) ≡ h x) → map f (flat_map g xs) ≡ flat_map h xs
map_flat f g h [] e = refl
map_flat f g h (x ∷ xs) e = map-append f (g x) (flat_map g xs) ∙ (λ i. e x i ++ map_flat f g h xs e i)

-- a row with its net's key
abbrev keyed : NamedPin → NamedPin
keyed r = record { path = r.path; leaf = r.leaf; pin = r.pin; net = local (net_key r.net) }

abbrev key_net : FlatNet → FlatNet
key_net n = local (net_key n)

keyed_ports : (ps : List (List ℕ)) → map keyed (map port_row ps) ≡ map port_row ps
keyed_ports [] = refl
keyed_ports (q ∷ ps) = ap (λ (rows : List NamedPin). port_row q ∷ rows) (keyed_ports ps)

keyed_pins : (subckts : List ResolvedSubckt) (path : List ℕ) (of port : ℕ) (nets : List FlatNet)
    → map keyed (map (pin_row subckts) (pins_from path of port nets)) ≡ map (pin_row subckts) (pins_from path of port (map key_net nets))
keyed_pins subckts path of port [] = refl
keyed_pins subckts path of port (n ∷ nets) =
    ap (λ (rows : List NamedPin). keyed (pin_row subckts (record { path = path; of = of; port = port; net = n })) ∷ rows) (keyed_pins subckts path of (port + 1) nets)

keyed_visit : (subckts : List ResolvedSubckt) (v : FlatInstance) → map keyed (map (pin_row subckts) (pins_in subckts v)) ≡ map (pin_row subckts) (pins_in subckts (moved [] net_key v))
keyed_visit subckts v = by (leaf_at subckts v.of)
  where
    by : (b : Bool) → map keyed (map (pin_row subckts) (cond b (pins_from v.path v.of 0 v.nets) [])) ≡ map (pin_row subckts) (cond b (pins_from v.path v.of 0 (map key_net v.nets)) [])
    by true = keyed_pins subckts v.path v.of 0 v.nets
    by false = refl

-- the rows of a walk that began at the top, with keys in place of nets
keyed_walk : (subckts : List ResolvedSubckt) (vs : List FlatInstance) → map keyed (map (pin_row subckts) (pins_of subckts vs)) ≡ rows_from subckts [] net_key vs
keyed_walk subckts [] = refl
keyed_walk subckts (v ∷ vs) =
    ap (map keyed) (map-append (pin_row subckts) (pins_in subckts v) (pins_of subckts vs))
    ∙ map-append keyed (map (pin_row subckts) (pins_in subckts v)) (map (pin_row subckts) (pins_of subckts vs))
    ∙ (λ i. keyed_visit subckts v i ++ keyed_walk subckts vs i)
    ∙ sym (map-append (pin_row subckts) (pins_in subckts (moved [] net_key v)) (pins_of subckts (map (moved [] net_key) vs)))

keyed_labels : (named : List NamedPin) → map label_of_named named ≡ map label_of_named (map keyed named)
keyed_labels [] = refl
keyed_labels (r ∷ named) = ap (λ (labels : List PinLabel). label_of_named r ∷ labels) (keyed_labels named)

keyed_at : (named : List NamedPin) (k : ℕ) → k < length named → net_at (map keyed named) k ≡ key_net (net_at named k)
keyed_at [] k lt = absurd (omega arith)
keyed_at (r ∷ named) zero lt = refl
keyed_at (r ∷ named) (suc k) lt = keyed_at named k (omega arith)

-- a pin with its net's name
abbrev named_of : Organization → NetlistPin → NamedPin
named_of plan q = record { path = q.path; leaf = q.cell; pin = q.pin; net = local (full_name plan q.net) }

zips : (plan : Organization) (at cell : List ℕ) (ps : List (List ℕ)) (xs : List Net) → map (named_of plan) (pins_with_nets at cell ps xs) ≡ zip_rows at cell ps (map (full_name plan) xs)
zips plan at cell [] xs = refl
zips plan at cell (q ∷ ps) [] = refl
zips plan at cell (q ∷ ps) (x ∷ xs) = ap (λ (rows : List NamedPin). record { path = at; leaf = cell; pin = q; net = local (full_name plan x) } ∷ rows) (zips plan at cell ps xs)

-- the ports
web_all : (P : Net → Type 0) (w : ℕ) → P (Control Web0) → AllByRecursion P (web_nets w)
web_all P zero h = tt
web_all P (suc w) h = (h, tt)

macro_all : (plan : Organization) (P : Net → Type 0) → P (Control Clk0) → P (Control Csb0) → P (Control Web0) → ((k : ℕ) → k < plan.masks → P (Wmask k)) → ((k : ℕ) → k < addr_bits plan → P (Addr k)) → ((k : ℕ) → k < plan.word_size → P (Din k))
    → ((k : ℕ) → k < plan.word_size → P (Dout k)) → P Vdd → P Gnd → AllByRecursion P (macro_nets plan)
macro_all plan P clk csb web wmask addr din dout vdd gnd =
    let p3 = tabulate plan.word_size Dout ++ (Vdd ∷ Gnd ∷ []) in
    let p2 = tabulate (inputs_of plan) Din ++ p3 in
    let p1 = tabulate (addr_bits plan) Addr ++ p2 in
    let p0 = tabulate plan.masks Wmask ++ p1 in (
      clk,
      (
        csb,
        all_append P (web_nets plan.write_size) p0 (web_all P plan.write_size web)
            (all_append P (tabulate plan.masks Wmask) p1 (all_tabulate P plan.masks Wmask wmask)
            (all_append P (tabulate (addr_bits plan) Addr) p2 (all_tabulate P (addr_bits plan) Addr addr)
            (all_append P (tabulate (inputs_of plan) Din) p3 (all_tabulate P (inputs_of plan) Din (λ k lt. din k (inputs_within plan k lt)))
            (all_append P (tabulate plan.word_size Dout) (Vdd ∷ Gnd ∷ []) (all_tabulate P plan.word_size Dout dout) (vdd, (gnd, tt)))))),
      ),
    )

same_ports : (plan : Organization) (xs : List Net) → AllByRecursion (λ x. full_name plan x ≡ net_name plan x) xs → map port_row (map (net_name plan) xs) ≡ map (named_of plan) (map (port_pin plan) xs)
same_ports plan [] all = refl
same_ports plan (x ∷ xs) all = λ i. record { path = []; leaf = []; pin = net_name plan x; net = local (sym all.0 i) } ∷ same_ports plan xs all.1 i

web_named : (plan : Organization) (w : ℕ) → map (net_name plan) (web_nets w) ≡ web_ports w
web_named plan zero = refl
web_named plan (suc w) = refl

-- so many nets, and then others
each_named : (plan : Organization) (n : ℕ) (f : ℕ → Net) (xs : List Net) (ns : List (List ℕ)) → map (net_name plan) xs ≡ ns → map (net_name plan) (tabulate n f ++ xs) ≡ tabulate n (λ k. net_name plan (f k)) ++ ns
each_named plan n f xs ns e = map-append (net_name plan) (tabulate n f) xs ∙ (λ i. maps (net_name plan) f (numbers_from 0 n) i ++ e i)

ports_named : (plan : Organization) → map port_row (top_ports plan) ≡ map (named_of plan) (map (port_pin plan) (macro_nets plan))
ports_named plan =
    let x3 = tabulate plan.word_size Dout ++ (Vdd ∷ Gnd ∷ []) in
    let x2 = tabulate (inputs_of plan) Din ++ x3 in
    let x1 = tabulate (addr_bits plan) Addr ++ x2 in
    let x0 = tabulate plan.masks Wmask ++ x1 in
    let n3 = port_bits plan.word_size (codes "dout0") ++ supplies in
    let n2 = port_bits (inputs_of plan) (codes "din0") ++ n3 in
    let n1 = port_bits (addr_bits plan) (codes "addr0") ++ n2 in
    let n0 = port_bits plan.masks (codes "wmask0") ++ n1 in
    let behind : map (net_name plan) x0 ≡ n0 =
    each_named plan plan.masks Wmask x1 n1 (each_named plan (addr_bits plan) Addr x2 n2 (each_named plan (inputs_of plan) Din x3 n3 (each_named plan plan.word_size Dout (Vdd ∷ Gnd ∷ []) supplies refl))) in
    let names : map (net_name plan) (macro_nets plan) ≡ top_ports plan =
    λ i. codes "clk0" ∷ codes "csb0" ∷ (map-append (net_name plan) (web_nets plan.write_size) x0 ∙ (λ j. web_named plan plan.write_size j ++ behind j)) i in
    ap (map port_row) (sym names) ∙ same_ports plan (macro_nets plan) (macro_all plan (λ x. full_name plan x ≡ net_name plan x) refl refl refl (λ k lt. refl) (λ k lt. refl) (λ k lt. refl) (λ k lt. refl) refl refl)

macro_have : (plan : Organization) → HaveNets plan (macro_nets plan)
macro_have plan = macro_all plan (IsNameable plan) tt tt tt (λ k lt. lt) (λ k lt. lt) (λ k lt. lt) (λ k lt. lt) tt tt

web_few : (w : ℕ) → length (web_nets w) ≤ 1
web_few zero = omega arith
web_few (suc w) = omega arith

-- the pins' nets are the plan's
zip_nets : (plan : Organization) (at cell : List ℕ) (ps : List (List ℕ)) (xs : List Net) → HaveNets plan xs → AllByRecursion (λ q. IsNameable plan q.net) (pins_with_nets at cell ps xs)
zip_nets plan at cell [] xs all = tt
zip_nets plan at cell (q ∷ ps) [] all = tt
zip_nets plan at cell (q ∷ ps) (x ∷ xs) all = (all.0, zip_nets plan at cell ps xs all.1)

leaf_nets : (plan : Organization) (cell : Role → List ℕ) (bits : BitCells) (xs : List LeafInstance) → AllByRecursion (λ x. HaveNets plan (ports plan x)) xs → AllByRecursion (λ q. IsNameable plan q.net) (flat_map (leaf_pins plan cell bits) xs)
leaf_nets plan cell bits [] all = tt
leaf_nets plan cell bits (x ∷ xs) all =
    all_append (λ q. IsNameable plan q.net) (leaf_pins plan cell bits x) (flat_map (leaf_pins plan cell bits) xs)
    (zip_nets plan (leaf_path plan x) (lower (cell_at plan cell bits x)) (role_ports (role plan x)) (ports plan x) all.0) (leaf_nets plan cell bits xs all.1)

pin_nets : (plan : Organization) (cell : Role → List ℕ) (bits : BitCells) → IsBuildable plan → AllByRecursion (λ q. IsNameable plan q.net) (netlist_pins plan cell bits)
pin_nets plan cell bits p =
    all_append (λ q. IsNameable plan q.net) (map (port_pin plan) (macro_nets plan)) (flat_map (leaf_pins plan cell bits) (leaf_instances plan))
    (all_map (λ q. IsNameable plan q.net) (port_pin plan) (macro_nets plan) (macro_have plan)) (leaf_nets plan cell bits (leaf_instances plan) (leaves_have plan p))

net_has : (plan : Organization) (ps : List NetlistPin) (k : ℕ) → AllByRecursion (λ q. IsNameable plan q.net) ps → IsNameable plan (net_of_pin ps k)
net_has plan [] k all = tt
net_has plan (q ∷ ps) zero all = all.0
net_has plan (q ∷ ps) (suc k) all = net_has plan ps k all.1

net_text : (plan : Organization) (ps : List NetlistPin) (k : ℕ) → k < length ps → net_at (map (named_of plan) ps) k ≡ local (full_name plan (net_of_pin ps k))
net_text plan [] k lt = absurd (omega arith)
net_text plan (q ∷ ps) zero lt = refl
net_text plan (q ∷ ps) (suc k) lt = net_text plan ps k (omega arith)

-- numbered rows that have these pins with keys in place of nets
equal : (plan : Organization) (cell : Role → List ℕ) (bits : BitCells) (rows : List RowPin) (named : List NamedPin) → IsBuildable plan → map keyed named ≡ map (named_of plan) (netlist_pins plan cell bits) → AreNumberedRows named rows
    → ((j k : ℕ) → net_key (net_at named j) ≡ net_key (net_at named k) → net_at named j ≡ net_at named k) → RowsEqual rows (netlist_pins plan cell bits)
equal plan cell bits rows named p same numbered tell = let ps = netlist_pins plan cell bits in record {
  labels = numbered.labels ∙ keyed_labels named ∙ ap (map label_of_named) same ∙ maps label_of_named (named_of plan) ps;
  nets = λ j k lt_j lt_k.
      let one = numbered.one j k (omega (arith, long, lt_j)) (omega (arith, long, lt_k)) in (
        λ e. texts_tell plan (net_of_pin ps j) (net_of_pin ps k) p (net_has plan ps j (pin_nets plan cell bits p)) (net_has plan ps k (pin_nets plan cell bits p)) (sym (key_is j lt_j) ∙ ap net_key (one.0 e) ∙ key_is k lt_k),
        λ e. one.1 (tell j k (key_is j lt_j ∙ ap (λ (x : Net). full_name plan x) e ∙ sym (key_is k lt_k))),
      );
}
  where
    long : length named ≡ length (netlist_pins plan cell bits)
    long = sym (length-map named keyed) ∙ ap length same ∙ length-map (netlist_pins plan cell bits) (named_of plan)

    key_is : (k : ℕ) → k < length (netlist_pins plan cell bits) → net_key (net_at named k) ≡ full_name plan (net_of_pin (netlist_pins plan cell bits) k)
    key_is k lt =
        ap net_key (sym (keyed_at named k (omega (arith, long, lt))) ∙ ap (λ (rows : List NamedPin). net_at rows k) same ∙ net_text plan (netlist_pins plan cell bits) k lt)

module _ (plan : Organization) (p : IsBuildable plan) (cell : Role → List ℕ) (bits : BitCells) (ends : List (List ℕ)) (leaves : List Subckt) (n : List ℕ) (kit : AreLeavesFor plan cell bits ends leaves n) (top : List ℕ) (is_top : top ≡ lower n) where
  abbrev bs : List ResolvedSubckt
  bs = subckts plan p cell bits ends leaves n kit top is_top

  abbrev at : List ℕ → Option ℕ
  at = find plan p cell bits ends leaves n kit top is_top

  abbrev index : ℕ
  index = length leaves + (count plan p cell bits ends leaves n kit top is_top + 5)

  abbrev depth : ℕ
  depth = length leaves + (count plan p cell bits ends leaves n kit top is_top + 2)

  abbrev walk : List FlatInstance
  walk = visits_by bs (below bs (suc (suc (suc depth)))) (map (resolved_instance at) (top_instances plan n))

  walk_is : walk_at bs index ≡ walk
  walk_is =
      let long = deck_long plan p cell bits ends leaves n kit top is_top in
      let deep : length bs ≡ suc (suc (suc (suc depth))) = omega (arith, long) in
      λ i. visits bs (deep i) (top_has plan p cell bits ends leaves n kit top is_top i)

  flat : Flattens (row_of plan cell bits) bs [] net_key walk (leaf_instances plan)
  flat =
      top_flat plan p cell bits n bs at (has_leaves plan p cell bits ends leaves n kit top is_top) (bank_cells plan p cell bits ends leaves n kit top is_top)
      (logic_cell plan p cell bits ends leaves n kit top is_top) (bank_cell plan p cell bits ends leaves n kit top is_top) depth

  rows_are : map keyed (map (pin_row bs) (pins_of bs (walk_at bs index))) ≡ flat_map (row_of plan cell bits) (leaf_instances plan)
  rows_are = ap (λ (vs : List FlatInstance). map keyed (map (pin_row bs) (pins_of bs vs))) walk_is ∙ keyed_walk bs walk ∙ flat.rows

  pub named_are : map keyed (named_rows bs index) ≡ map (named_of plan) (netlist_pins plan cell bits)
  named_are =
      map-append keyed (map port_row (ports_at bs index)) (map (pin_row bs) (pins_of bs (walk_at bs index)))
      ∙ (λ i. (keyed_ports (ports_at bs index) ∙ ap (map port_row) (top_ports_are plan p cell bits ends leaves n kit top is_top)) i ++ rows_are i)
      ∙ (λ i. ports_named plan i ++ sym (map_flat (named_of plan) (leaf_pins plan cell bits) (row_of plan cell bits) (leaf_instances plan) (λ x. zips plan (leaf_path plan x) (lower (cell_at plan cell bits x)) (role_ports (role plan x)) (ports plan x))) i)
      ∙ sym (map-append (named_of plan) (map (port_pin plan) (macro_nets plan)) (flat_map (leaf_pins plan cell bits) (leaf_instances plan)))

  good : first_bad bs (walk_at bs index) ≡ None
  good = ap (first_bad bs) walk_is ∙ flat.good

  leaves_few : leaf_count bs (walk_at bs index) ≤ 300000
  leaves_few = let few = leaves_few_all plan p in let same : leaf_count bs (walk_at bs index) ≡ length (leaf_instances plan) = ap (leaf_count bs) walk_is ∙ flat.leaves in omega (arith, few, same)

  ports_long : length (macro_nets plan) ≤ 2000
  ports_long =
      let bd = bounds plan p in
      let w = each_long plan.masks Wmask in
      let a = each_long (addr_bits plan) Addr in
      let i = each_long (inputs_of plan) Din in
      let o = each_long plan.word_size Dout in
      let x3 = tabulate plan.word_size Dout ++ (Vdd ∷ Gnd ∷ []) in
      let x2 = tabulate (inputs_of plan) Din ++ x3 in
      let x1 = tabulate (addr_bits plan) Addr ++ x2 in
      let l0 = length-append (web_nets plan.write_size) (tabulate plan.masks Wmask ++ x1) in
      let l1 = length-append (tabulate plan.masks Wmask) x1 in
      let l2 = length-append (tabulate (addr_bits plan) Addr) x2 in
      let l3 = length-append (tabulate (inputs_of plan) Din) x3 in
      let l4 = length-append (tabulate plan.word_size Dout) (Vdd ∷ Gnd ∷ []) in
      let web = web_few plan.write_size in
      let inputs = written_most plan.write_size plan.word_size in
      let masks = bd.masks in
      let address = bd.address in
      let words = bd.words in
      omega (arith, w, a, i, o, l0, l1, l2, l3, l4, web, inputs, masks, address, words)

  pins_few : length (named_rows bs index) ≤ 2200000
  pins_few =
      let long = length-append (map port_row (ports_at bs index)) (map (pin_row bs) (pins_of bs (walk_at bs index))) in
      let ports = length-map (ports_at bs index) port_row in
      let same_ports : length (ports_at bs index) ≡ length (top_ports plan) = ap length (top_ports_are plan p cell bits ends leaves n kit top is_top) in
      let macro : length (top_ports plan) ≡ length (macro_nets plan) = sym (length-map (top_ports plan) port_row) ∙ ap length (ports_named plan) ∙ length-map (map (port_pin plan) (macro_nets plan)) (named_of plan) ∙ length-map (macro_nets plan) (port_pin plan) in
      let rest : length (map (pin_row bs) (pins_of bs (walk_at bs index))) ≡ length (flat_map (row_of plan cell bits) (leaf_instances plan)) = sym (length-map (map (pin_row bs) (pins_of bs (walk_at bs index))) keyed) ∙ ap length rows_are in
      let few = rows_few plan cell bits p in
      let few_ports = ports_long in
      omega (arith, long, ports, same_ports, macro, rest, few, few_ports)

  -- there are rows
  pub some : SomeRows (named_rows bs index) → (rows : List RowPin) × AreRowsAt bs index rows
  some numbered = (
    numbered.rows,
    record {
      hierarchy = record { there = there plan p cell bits ends leaves n kit top is_top; acyclic = acyclic plan p cell bits ends leaves n kit top is_top };
      good = good;
      small = record { leaves = let few = leaves_few in omega (arith, few); pins = let few = pins_few in omega (arith, few) };
      numbered = numbered.numbered;
    },
  )

  no_many : (count : ℕ) → IsTooMany bs index count → ⊥
  no_many count many = elim many.either [
    | inl h ↦ let few = leaves_few in let lt = h.0 in omega (arith, few, lt)
    | inr h ↦ let few = pins_few in let lt = h.1 in omega (arith, few, lt)
  ]

  no_fault_at : (fault : FlatFault) → fault ≢ Memory → IsFaultAt bs index fault → ⊥
  no_fault_at (UnknownSubckt name) off f = there plan p cell bits ends leaves n kit top is_top name f.has
  no_fault_at (Cycle name) off f = acyclic plan p cell bits ends leaves n kit top is_top f.1.has.index f.1.has.reached f.1.has.itself
  no_fault_at (PortCount leaf_path) off f = none-some leaf_path (sym good ∙ f.1)
  no_fault_at (TooMany count) off f = no_many count f.2
  no_fault_at Memory off f = off refl

module _ (plan : Organization) (cell : Role → List ℕ) (bits : BitCells) (ends : List (List ℕ)) (leaves : List Subckt) (n top : List ℕ) (p : IsBuildable plan) (kit : AreLeavesFor plan cell bits ends leaves n) (is_top : lower top ≡ lower n) where
  abbrev deck : List Subckt
  deck = leaves ++ written_subckts plan cell bits n

  abbrev built_subckts : List ResolvedSubckt
  built_subckts = resolved_subckts deck (lower top) ends

  abbrev top_index : ℕ
  top_index = length leaves + (count plan p cell bits ends leaves n kit (lower top) is_top + 5)

  rows_built : DeckIsNetlist plan cell bits ends deck top
  rows_built =
      let spot = top_there plan p cell bits ends leaves n kit (lower top) is_top in
      record {
        some =
            let r = some plan p cell bits ends leaves n kit (lower top) is_top (deck_rows deck (lower top) ends top_index) in
            (r.0, subst (λ (o : Option ℕ). AreRows built_subckts o r.0) (sym spot) r.1);
        rows = λ rows flat_rows.
            let r : AreRowsAt built_subckts top_index rows = subst (λ (o : Option ℕ). AreRows built_subckts o rows) spot flat_rows in
            equal plan cell bits rows (named_rows built_subckts top_index) p (named_are plan p cell bits ends leaves n kit (lower top) is_top) r.numbered
            (λ j k e. (keys_tell_nets deck (lower top) ends top_index j k).0 e);
        faults = λ fault off f. no_fault_at plan p cell bits ends leaves n kit (lower top) is_top fault off (subst (λ (o : Option ℕ). IsFaultOfTop built_subckts (lower top) o fault) spot f);
      }

  -- read back, in lower case
  abbrev read : List Subckt
  read = leaves ++ map lowered_subckt (written_subckts plan cell bits n)

  rows_read : DeckIsNetlist plan cell bits ends deck top → DeckIsNetlist plan cell bits ends read top
  rows_read built =
      let alike = case_forgotten leaves (written_subckts plan cell bits n) (lower top) ends in
      let read_subckts = resolved_subckts read (lower top) ends in
      record {
        some = (
          built.some.0,
          subst (λ (names : List (List ℕ)). AreRows read_subckts (index_of names (lower top)) built.some.0) (sym alike.names)
              (subst (λ (bs : List ResolvedSubckt). AreRows bs (index_of (names_of deck) (lower top)) built.some.0) (sym alike.subckts) built.some.1),
        );
        rows = λ rows flat_rows. built.rows rows (subst (λ (names : List (List ℕ)). AreRows built_subckts (index_of names (lower top)) rows) alike.names
            (subst (λ (bs : List ResolvedSubckt). AreRows bs (index_of (names_of read) (lower top)) rows) alike.subckts flat_rows));
        faults = λ fault off f. built.faults fault off (subst (λ (names : List (List ℕ)). IsFaultOfTop built_subckts (lower top) (index_of names (lower top)) fault) alike.names
            (subst (λ (bs : List ResolvedSubckt). IsFaultOfTop bs (lower top) (index_of (names_of read) (lower top)) fault) alike.subckts f));
      }

pub rows_equal : RowsEqualNetlist
rows_equal plan cell bits ends leaves n top p kit is_top = let built = rows_built plan cell bits ends leaves n top p kit is_top in (built, rows_read plan cell bits ends leaves n top p kit is_top built)
