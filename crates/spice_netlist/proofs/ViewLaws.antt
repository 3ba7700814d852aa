-- The walk inside an instance, seen from the top.
use Rattle.std.proofs.Common.{◌≡◌, ℕ, ◌+◌, ◌<◌, List, [], ◌∷◌, ◌++◌, length, map, cond, Option, None, Some, refl, sym, ap, ◌∙◌, append_assoc, arith}
use Rattle.std.proofs.lemmas.List.{map-append, get_or-map, length-append, length-map, nil_from_length}
use Rattle.std.proofs.lemmas.List.Concat.{flat_map-append}
use Rattle.spice_netlist.specs.declared.resolved.ResolvedSubckt.{ResolvedSubckt}
use Rattle.spice_netlist.specs.declared.resolved.ResolvedInstance.{ResolvedInstance}
use Rattle.spice_netlist.specs.Names.{index_of}
use Rattle.spice_netlist.specs.Resolved.{ports_at, leaf_at}
use Rattle.spice_netlist.specs.Walk.{FlatNet, local, FlatInstance, node_or, net_by, net_above, visit_above, visits_in, visits_by}
use Rattle.spice_netlist.specs.Pins.{NamedPin, pins_in, pins_of, pin_row}
use Rattle.spice_netlist.specs.NetKeys.{path_key}
use Rattle.spice_netlist.specs.Levels.{View, key_or, seen_name, seen_net, seen_visit}
use Rattle.spice_netlist.proofs.PinLaws.{length_cond}
use Rattle.spice_netlist.proofs.ResolvedLaws.{index_within}

-- what is seen inside the instance, whose subcircuit has these ports
abbrev pub view_in : View → ResolvedInstance → List (List ℕ) → View
view_in v p ports = record {
  path = (v.path ++ p.name) ++ 47 ∷ [];
  inside = (v.inside ++ p.name) ++ 65 ∷ [];
  find = index_of ports;
  nets = map (seen_name v) p.nodes;
}

behind : (a b : List ℕ) (m : ℕ) (c : List ℕ) → a ++ (b ++ m ∷ c) ≡ ((a ++ b) ++ m ∷ []) ++ c
behind a b m c = sym (append_assoc (a ++ b) (m ∷ []) c ∙ append_assoc a b (m ∷ c))

-- an instance with as many nodes as its subcircuit has ports
module _ (v : View) (p : ResolvedInstance) (ports : List (List ℕ)) (sized : length p.nodes ≡ length ports) where
  net_by_port : (n : List ℕ) (o : Option ℕ) → ((j : ℕ) → o ≡ Some j → j < length p.nodes)
      → seen_net v (node_or (record { path = p.name ∷ []; name = n }) p.nodes o) ≡ local (key_or (((v.inside ++ p.name) ++ 65 ∷ []) ++ n) (map (seen_name v) p.nodes) o)
  net_by_port n None few = ap local (behind v.inside p.name 65 n)
  net_by_port n (Some j) few = ap local (sym (get_or-map (seen_name v) p.nodes j [] [] (few j refl)))

  net_by_path : (path : List (List ℕ)) (n : List ℕ) → seen_net v (net_by p ports path n) ≡ seen_net (view_in v p ports) (record { path = path; name = n })
  net_by_path [] n = net_by_port n (index_of ports n) (λ j is. let lt = index_within ports n j is in omega (arith, lt, sized))
  net_by_path (i ∷ path) n = ap local (behind v.inside p.name 65 (path_key (i ∷ path) n))

  nets_seen : (ns : List FlatNet) → map (seen_net v) (map (net_above p ports) ns) ≡ map (seen_net (view_in v p ports)) ns
  nets_seen [] = refl
  nets_seen (n ∷ ns) = λ i. net_by_path n.path n.name i ∷ nets_seen ns i

  visits_seen : (vs : List FlatInstance) → map (seen_visit v) (map (visit_above p ports) vs) ≡ map (seen_visit (view_in v p ports)) vs
  visits_seen [] = refl
  visits_seen (x ∷ xs) = λ i. record { path = behind v.path p.name 47 x.path i; of = x.of; nets = nets_seen x.nets i } ∷ visits_seen xs i

-- the rows of visits, seen from the top
abbrev pub seen_rows : List ResolvedSubckt → View → List FlatInstance → List NamedPin
seen_rows subckts v vs = map (pin_row subckts) (pins_of subckts (map (seen_visit v) vs))

-- the rows of the instance itself, an instance of the subcircuit at the index
abbrev pub own_rows : List ResolvedSubckt → View → ResolvedInstance → ℕ → List NamedPin
own_rows subckts v p k = map (pin_row subckts) (pins_in subckts (record { path = v.path ++ p.name; of = k; nets = map (seen_net v) (map local p.nodes) }))

module _ (subckts : List ResolvedSubckt) (v : View) where
  seen_append : (xs ys : List FlatInstance) → seen_rows subckts v (xs ++ ys) ≡ seen_rows subckts v xs ++ seen_rows subckts v ys
  seen_append xs ys =
      ap (λ (vs : List FlatInstance). map (pin_row subckts) (pins_of subckts vs)) (map-append (seen_visit v) xs ys)
      ∙ ap (map (pin_row subckts)) (flat_map-append (pins_in subckts) (map (seen_visit v) xs) (map (seen_visit v) ys))
      ∙ map-append (pin_row subckts) (pins_of subckts (map (seen_visit v) xs)) (pins_of subckts (map (seen_visit v) ys))

  -- an instance whose subcircuit isn't there has none
  pub rows_absent : (f : ℕ → List FlatInstance) (p : ResolvedInstance) (ps : List ResolvedInstance) → p.index ≡ None → seen_rows subckts v (visits_by subckts f (p ∷ ps)) ≡ seen_rows subckts v (visits_by subckts f ps)
  rows_absent f p ps none = ap (λ (o : Option ℕ). seen_rows subckts v (visits_in subckts f p o ++ visits_by subckts f ps)) none

  -- another has its own, and then those inside it
  pub rows_there : (f : ℕ → List FlatInstance) (p : ResolvedInstance) (ps : List ResolvedInstance) (k : ℕ) → p.index ≡ Some k → length p.nodes ≡ length (ports_at subckts k)
      → seen_rows subckts v (visits_by subckts f (p ∷ ps)) ≡ own_rows subckts v p k ++ (seen_rows subckts (view_in v p (ports_at subckts k)) (f k) ++ seen_rows subckts v (visits_by subckts f ps))
  rows_there f p ps k some h =
      let me : FlatInstance = record { path = v.path ++ p.name; of = k; nets = map (seen_net v) (map local p.nodes) } in
      ap (λ (o : Option ℕ). seen_rows subckts v (visits_in subckts f p o ++ visits_by subckts f ps)) some
      ∙ seen_append (visits_in subckts f p (Some k)) (visits_by subckts f ps)
      ∙ ap (λ (rows : List NamedPin). rows ++ seen_rows subckts v (visits_by subckts f ps)) (map-append (pin_row subckts) (pins_in subckts me) (pins_of subckts (map (seen_visit v) (map (visit_above p (ports_at subckts k)) (f k)))))
      ∙ ap (λ (vs : List FlatInstance). (own_rows subckts v p k ++ map (pin_row subckts) (pins_of subckts vs)) ++ seen_rows subckts v (visits_by subckts f ps)) (visits_seen v p (ports_at subckts k) h (f k))
      ∙ append_assoc (own_rows subckts v p k) (seen_rows subckts (view_in v p (ports_at subckts k)) (f k)) (seen_rows subckts v (visits_by subckts f ps))

-- as many pins are seen as there are
length_seen : (subckts : List ResolvedSubckt) (v : View) (vs : List FlatInstance) → length (pins_of subckts (map (seen_visit v) vs)) ≡ length (pins_of subckts vs)
length_seen subckts v [] = refl
length_seen subckts v (x ∷ xs) =
    length-append (pins_in subckts (seen_visit v x)) (pins_of subckts (map (seen_visit v) xs))
    ∙ (λ i. own i + length_seen subckts v xs i)
    ∙ sym (length-append (pins_in subckts x) (pins_of subckts xs))
  where
    own : length (pins_in subckts (seen_visit v x)) ≡ length (pins_in subckts x)
    own =
        length_cond (leaf_at subckts x.of) (v.path ++ x.path) x.of (map (seen_net v) x.nets)
        ∙ ap (λ (n : ℕ). cond (leaf_at subckts x.of) n 0) (length-map x.nets (seen_net v))
        ∙ sym (length_cond (leaf_at subckts x.of) x.path x.of x.nets)

-- so where there are none, there are no rows
pub rows_bare : (subckts : List ResolvedSubckt) (v : View) (vs : List FlatInstance) → length (pins_of subckts vs) ≡ 0 → seen_rows subckts v vs ≡ []
rows_bare subckts v vs none = ap (map (pin_row subckts)) (nil_from_length (pins_of subckts (map (seen_visit v) vs)) (length_seen subckts v vs ∙ none))
