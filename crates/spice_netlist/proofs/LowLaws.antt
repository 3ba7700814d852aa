-- The nets of a walk through subcircuits whose names are in lower case have theirs in lower case.
use Rattle.std.proofs.Common.{◌≡◌, ℕ, zero, suc, ◌+◌, List, [], ◌∷◌, ◌++◌, length, map, get_or, Bool, true, false, cond, Option, None, Some, refl, sym, ap, subst, ◌∙◌, arith}
use Rattle.std.specs.List.{AllByRecursion}
use Rattle.std.proofs.lemmas.List.{map-append}
use Rattle.std.specs.Char.{to_ascii_lowercase}
use Rattle.std.proofs.lemmas.Bool.Decides.{nat_tests}
use Rattle.netlist.specs.declared.deck.Instance.{Instance}
use Rattle.netlist.specs.declared.deck.Subckt.{Subckt}
use Rattle.spice_text.specs.Words.{lower}
use Rattle.spice_netlist.specs.declared.resolved.ResolvedSubckt.{ResolvedSubckt}
use Rattle.spice_netlist.specs.declared.resolved.ResolvedInstance.{ResolvedInstance}
use Rattle.spice_netlist.specs.Names.{index_of}
use Rattle.spice_netlist.specs.Resolved.{names_of, resolved_instance, is_leaf, resolved_subckt, resolved_subckts, ports_at, leaf_at, instances_at}
use Rattle.spice_netlist.specs.LowerCase.{IsLowInstance, AreLow}
use Rattle.spice_netlist.specs.Walk.{FlatNet, local, FlatInstance, node_or, net_by, net_above, visit_above, visits_in, visits_by, visits, walk_at}
use Rattle.spice_netlist.specs.Pins.{pins_from, pins_in, pins_of, NamedPin, port_row, pin_row, named_rows}
use Rattle.spice_netlist.specs.NetKeys.{net_key, KeysTellNets}
use Rattle.spice_netlist.specs.Numbers.{net_at}
use Rattle.spice_netlist.proofs.NetKeyLaws.{IsLowNet, one_low_net}

-- a name in lower case stays as it is
low_byte : (c : ℕ) → to_ascii_lowercase (to_ascii_lowercase c) ≡ to_ascii_lowercase c
low_byte c = grind (arith, nat_tests)

low_name : (name : List ℕ) → lower (lower name) ≡ lower name
low_name [] = refl
low_name (c ∷ name) = λ i. low_byte c i ∷ low_name name i

low_names : (names : List (List ℕ)) → map lower (map lower names) ≡ map lower names
low_names [] = refl
low_names (n ∷ names) = λ i. low_name n i ∷ low_names names i

-- resolved subcircuits have names in lower case
module _ (index : List ℕ → Option ℕ) where
  low_instances : (is : List Instance) → AllByRecursion IsLowInstance (map (resolved_instance index) is)
  low_instances [] = tt
  low_instances (i ∷ is) = (record { name = low_name i.name; nodes = low_names i.nodes }, low_instances is)

  low_if : (leaf : Bool) (is : List Instance) → AllByRecursion IsLowInstance (cond leaf [] (map (resolved_instance index) is))
  low_if true is = tt
  low_if false is = low_instances is

  low_subckts : (top : List ℕ) (leaf : List ℕ → Option ℕ) (ss : List Subckt) → AreLow (map (resolved_subckt top leaf index) ss)
  low_subckts top leaf [] = tt
  low_subckts top leaf (s ∷ ss) = (record { ports = low_names s.ports; instances = low_if (is_leaf top leaf s) s.instances }, low_subckts top leaf ss)

pub resolved_low : (subckts : List Subckt) (top : List ℕ) (leaves : List (List ℕ)) → AreLow (resolved_subckts subckts top leaves)
resolved_low subckts top leaves = low_subckts (index_of (names_of subckts)) top (index_of (map lower leaves)) subckts

-- one of them
lower_at : (names : List (List ℕ)) (k : ℕ) → lower (get_or names k []) ≡ get_or (map lower names) k []
lower_at [] zero = refl
lower_at [] (suc k) = refl
lower_at (n ∷ names) zero = refl
lower_at (n ∷ names) (suc k) = lower_at names k

low_at : (names : List (List ℕ)) (k : ℕ) → map lower names ≡ names → lower (get_or names k []) ≡ get_or names k []
low_at names k e = lower_at names k ∙ ap (λ (l : List (List ℕ)). get_or l k []) e

low_local : (name : List ℕ) → lower name ≡ name → IsLowNet (local name)
low_local name e = record { path = refl; name = e }

low_locals : (names : List (List ℕ)) → map lower names ≡ names → AllByRecursion IsLowNet (map local names)
low_locals [] e = tt
low_locals (n ∷ names) e =
    let first : lower n ≡ n = cc in
    let rest : map lower names ≡ names = cc in
    (low_local n first, low_locals names rest)

instances_low : (ss : List ResolvedSubckt) (k : ℕ) → AreLow ss → AllByRecursion IsLowInstance (instances_at ss k)
instances_low [] zero low = tt
instances_low [] (suc k) low = tt
instances_low (s ∷ ss) zero low = low.0.instances
instances_low (s ∷ ss) (suc k) low = instances_low ss k low.1

ports_low : (ss : List ResolvedSubckt) (k : ℕ) → AreLow ss → map lower (ports_at ss k) ≡ ports_at ss k
ports_low [] zero low = refl
ports_low [] (suc k) low = refl
ports_low (s ∷ ss) zero low = low.0.ports
ports_low (s ∷ ss) (suc k) low = ports_low ss k low.1

-- the walk
abbrev IsLowVisit : FlatInstance → Type 0
IsLowVisit v = AllByRecursion IsLowNet v.nets

both_low : {X : Type 0} (P : X → Type 0) (xs ys : List X) → AllByRecursion P xs → AllByRecursion P ys → AllByRecursion P (xs ++ ys)
both_low P [] ys a b = b
both_low P (x ∷ xs) ys a b = (a.0, both_low P xs ys a.1 b)

module _ (p : ResolvedInstance) (ports : List (List ℕ)) (low : IsLowInstance p) where
  low_node : (name : List ℕ) (o : Option ℕ) → lower name ≡ name → IsLowNet (node_or (record { path = p.name ∷ []; name = name }) p.nodes o)
  low_node name None e = record { path = ap (λ (n : List ℕ). n ∷ []) low.name; name = e }
  low_node name (Some k) e = low_local (get_or p.nodes k []) (low_at p.nodes k low.nodes)

  low_by : (path : List (List ℕ)) (name : List ℕ) → map lower path ≡ path → lower name ≡ name → IsLowNet (net_by p ports path name)
  low_by [] name way e = low_node name (index_of ports name) e
  low_by (i ∷ path) name way e = record { path = λ k. low.name k ∷ way k; name = e }

  low_above : (nets : List FlatNet) → AllByRecursion IsLowNet nets → AllByRecursion IsLowNet (map (net_above p ports) nets)
  low_above [] all = tt
  low_above (n ∷ nets) all = (low_by n.path n.name all.0.path all.0.name, low_above nets all.1)

  low_visits : (vs : List FlatInstance) → AllByRecursion IsLowVisit vs → AllByRecursion IsLowVisit (map (visit_above p ports) vs)
  low_visits [] all = tt
  low_visits (v ∷ vs) all = (low_above v.nets all.0, low_visits vs all.1)

module _ (ss : List ResolvedSubckt) (low : AreLow ss) where
  low_in : (f : ℕ → List FlatInstance) → ((k : ℕ) → AllByRecursion IsLowVisit (f k)) → (p : ResolvedInstance) (o : Option ℕ) → IsLowInstance p → AllByRecursion IsLowVisit (visits_in ss f p o)
  low_in f inside p None h = tt
  low_in f inside p (Some k) h = (low_locals p.nodes h.nodes, low_visits p (ports_at ss k) h (f k) (inside k))

  low_all : (f : ℕ → List FlatInstance) → ((k : ℕ) → AllByRecursion IsLowVisit (f k)) → (ps : List ResolvedInstance) → AllByRecursion IsLowInstance ps → AllByRecursion IsLowVisit (visits_by ss f ps)
  low_all f inside [] all = tt
  low_all f inside (p ∷ ps) all =
      both_low IsLowVisit (visits_in ss f p p.index) (visits_by ss f ps) (low_in f inside p p.index all.0) (low_all f inside ps all.1)

  low_levels : (depth : ℕ) (ps : List ResolvedInstance) → AllByRecursion IsLowInstance ps → AllByRecursion IsLowVisit (visits ss depth ps)
  low_levels zero ps all = tt
  low_levels (suc depth) ps all =
      low_all (λ k. visits ss depth (instances_at ss k)) (λ k. low_levels depth (instances_at ss k) (instances_low ss k low)) ps all

  -- the rows
  low_from : (path : List ℕ) (of port : ℕ) (nets : List FlatNet) → AllByRecursion IsLowNet nets
      → AllByRecursion (λ (r : NamedPin). IsLowNet r.net) (map (pin_row ss) (pins_from path of port nets))
  low_from path of port [] all = tt
  low_from path of port (n ∷ nets) all = (all.0, low_from path of (port + 1) nets all.1)

  low_pins_in : (leaf : Bool) (v : FlatInstance) → IsLowVisit v
      → AllByRecursion (λ (r : NamedPin). IsLowNet r.net) (map (pin_row ss) (cond leaf (pins_from v.path v.of 0 v.nets) []))
  low_pins_in true v h = low_from v.path v.of 0 v.nets h
  low_pins_in false v h = tt

  low_pins : (vs : List FlatInstance) → AllByRecursion IsLowVisit vs → AllByRecursion (λ (r : NamedPin). IsLowNet r.net) (map (pin_row ss) (pins_of ss vs))
  low_pins [] all = tt
  low_pins (v ∷ vs) all =
      subst (AllByRecursion (λ (r : NamedPin). IsLowNet r.net)) (sym (map-append (pin_row ss) (pins_in ss v) (pins_of ss vs)))
      (both_low (λ (r : NamedPin). IsLowNet r.net) (map (pin_row ss) (pins_in ss v)) (map (pin_row ss) (pins_of ss vs)) (low_pins_in (leaf_at ss v.of) v all.0) (low_pins vs all.1))

  low_ports : (ports : List (List ℕ)) → map lower ports ≡ ports → AllByRecursion (λ (r : NamedPin). IsLowNet r.net) (map port_row ports)
  low_ports [] e = tt
  low_ports (p ∷ ports) e =
      let first : lower p ≡ p = cc in
      let rest : map lower ports ≡ ports = cc in
      (low_local p first, low_ports ports rest)

  low_rows : (top : ℕ) → AllByRecursion (λ (r : NamedPin). IsLowNet r.net) (named_rows ss top)
  low_rows top =
      both_low (λ (r : NamedPin). IsLowNet r.net) (map port_row (ports_at ss top)) (map (pin_row ss) (pins_of ss (walk_at ss top)))
      (low_ports (ports_at ss top) (ports_low ss top low))
      (low_pins (walk_at ss top) (low_levels (length ss) (instances_at ss top) (instances_low ss top low)))

low_net_at : (named : List NamedPin) (k : ℕ) → AllByRecursion (λ (r : NamedPin). IsLowNet r.net) named → IsLowNet (net_at named k)
low_net_at [] zero all = low_local [] refl
low_net_at [] (suc k) all = low_local [] refl
low_net_at (r ∷ named) zero all = all.0
low_net_at (r ∷ named) (suc k) all = low_net_at named k all.1

-- so their keys tell them
pub keys_tell : (ss : List ResolvedSubckt) (top j k : ℕ) → AreLow ss → net_key (net_at (named_rows ss top) j) ≡ net_key (net_at (named_rows ss top) k) → net_at (named_rows ss top) j ≡ net_at (named_rows ss top) k
keys_tell ss top j k low e =
    let named = named_rows ss top in
    let rows = low_rows ss low top in
    one_low_net (net_at named j) (net_at named k) (low_net_at named j rows) (low_net_at named k rows) e

pub keys_tell_nets : KeysTellNets
keys_tell_nets subckts top leaves index j k =
    (keys_tell (resolved_subckts subckts top leaves) index j k (resolved_low subckts top leaves), λ e. ap net_key e)
