-- Pins and counts over lists of visits, and seen from outside.
use Rattle.std.proofs.Common.{◌≡◌, ℕ, suc, ◌+◌, List, [], ◌∷◌, ◌++◌, length, map, Bool, true, false, cond, Option, None, Some, refl, sym, ap, ◌∙◌, append_assoc, add_assoc, zero-add, arith}
use Rattle.std.proofs.lemmas.List.{map-append, length-map, append-nil, length-append}
use Rattle.std.proofs.lemmas.List.Concat.{flat_map-append}
use Rattle.spice_netlist.specs.declared.resolved.ResolvedSubckt.{ResolvedSubckt}
use Rattle.spice_netlist.specs.declared.resolved.ResolvedInstance.{ResolvedInstance}
use Rattle.spice_netlist.specs.Resolved.{leaf_at, ports_at}
use Rattle.spice_netlist.specs.Walk.{FlatNet, local, FlatInstance, net_above, path_above, visit_above, visits_in, visits_by, leaf_count}
use Rattle.spice_netlist.specs.Pins.{InstancePin, pins_from, pin_above, pins_in, pins_of}

from_above : (instance : ResolvedInstance) (ports : List (List ℕ)) (path : List ℕ) (of port : ℕ) (nets : List FlatNet) → pins_from (path_above instance path) of port (map (net_above instance ports) nets) ≡ map (pin_above instance ports) (pins_from path of port nets)
from_above instance ports path of port [] = refl
from_above instance ports path of port (net ∷ nets) =
    let me : InstancePin = record { path = path_above instance path; of = of; port = port; net = net_above instance ports net } in
    ap (λ (ps : List InstancePin). me ∷ ps) (from_above instance ports path of (port + 1) nets)

in_above : (instance : ResolvedInstance) (ports : List (List ℕ)) (leaf : Bool) (v : FlatInstance)
    → cond leaf (pins_from (path_above instance v.path) v.of 0 (map (net_above instance ports) v.nets)) [] ≡ map (pin_above instance ports) (cond leaf (pins_from v.path v.of 0 v.nets) [])
in_above instance ports true v = from_above instance ports v.path v.of 0 v.nets
in_above instance ports false v = refl

pub pins-above : (subckts : List ResolvedSubckt) (instance : ResolvedInstance) (ports : List (List ℕ)) (vs : List FlatInstance) → pins_of subckts (map (visit_above instance ports) vs) ≡ map (pin_above instance ports) (pins_of subckts vs)
pins-above subckts instance ports [] = refl
pins-above subckts instance ports (v ∷ vs) =
    ap (λ (ps : List InstancePin). pins_in subckts (visit_above instance ports v) ++ ps) (pins-above subckts instance ports vs)
    ∙ ap (λ (ps : List InstancePin). ps ++ map (pin_above instance ports) (pins_of subckts vs)) (in_above instance ports (leaf_at subckts v.of) v)
    ∙ sym (map-append (pin_above instance ports) (pins_in subckts v) (pins_of subckts vs))

pub count-above : (subckts : List ResolvedSubckt) (instance : ResolvedInstance) (ports : List (List ℕ)) (vs : List FlatInstance) → leaf_count subckts (map (visit_above instance ports) vs) ≡ leaf_count subckts vs
count-above subckts instance ports [] = refl
count-above subckts instance ports (v ∷ vs) = ap (λ (n : ℕ). cond (leaf_at subckts v.of) 1 0 + n) (count-above subckts instance ports vs)

pub count-append : (subckts : List ResolvedSubckt) (xs ys : List FlatInstance) → leaf_count subckts (xs ++ ys) ≡ leaf_count subckts xs + leaf_count subckts ys
count-append subckts [] ys = sym (zero-add (leaf_count subckts ys))
count-append subckts (v ∷ xs) ys = ap (λ (n : ℕ). cond (leaf_at subckts v.of) 1 0 + n) (count-append subckts xs ys) ∙ sym (add_assoc (cond (leaf_at subckts v.of) 1 0) (leaf_count subckts xs) (leaf_count subckts ys))

-- the pins so far and those of the next instance
module _ (subckts : List ResolvedSubckt) (f : ℕ → List FlatInstance) (p : ResolvedInstance) (front : List ResolvedInstance) where
  pub visits_push : visits_by subckts f (front ++ p ∷ []) ≡ visits_by subckts f front ++ visits_in subckts f p p.index
  visits_push = flat_map-append (λ (q : ResolvedInstance). visits_in subckts f q q.index) front (p ∷ []) ∙ ap (λ (vs : List FlatInstance). visits_by subckts f front ++ vs) (append-nil (visits_in subckts f p p.index))

  pub visits_absent : p.index ≡ None → visits_by subckts f (front ++ p ∷ []) ≡ visits_by subckts f front
  visits_absent none = visits_push ∙ ap (λ (o : Option ℕ). visits_by subckts f front ++ visits_in subckts f p o) none ∙ append-nil (visits_by subckts f front)

  visits_there : (k : ℕ) → p.index ≡ Some k → visits_by subckts f (front ++ p ∷ []) ≡ visits_by subckts f front ++ visits_in subckts f p (Some k)
  visits_there k some = visits_push ∙ ap (λ (o : Option ℕ). visits_by subckts f front ++ visits_in subckts f p o) some

  pub pins_there : (k : ℕ) → p.index ≡ Some k
      → pins_of subckts (visits_by subckts f (front ++ p ∷ []))
      ≡ (pins_of subckts (visits_by subckts f front) ++ cond (leaf_at subckts k) (pins_from p.name k 0 (map local p.nodes)) []) ++ map (pin_above p (ports_at subckts k)) (pins_of subckts (f k))
  pins_there k some =
      ap (pins_of subckts) (visits_there k some)
      ∙ flat_map-append (pins_in subckts) (visits_by subckts f front) (visits_in subckts f p (Some k))
      ∙ ap (λ (ps : List InstancePin). pins_of subckts (visits_by subckts f front) ++ (cond (leaf_at subckts k) (pins_from p.name k 0 (map local p.nodes)) [] ++ ps)) (pins-above subckts p (ports_at subckts k) (f k))
      ∙ sym (append_assoc (pins_of subckts (visits_by subckts f front)) (cond (leaf_at subckts k) (pins_from p.name k 0 (map local p.nodes)) []) (map (pin_above p (ports_at subckts k)) (pins_of subckts (f k))))

  pub count_there : (k : ℕ) → p.index ≡ Some k → leaf_count subckts (visits_by subckts f (front ++ p ∷ [])) ≡ leaf_count subckts (visits_by subckts f front) + (cond (leaf_at subckts k) 1 0 + leaf_count subckts (f k))
  count_there k some =
      ap (leaf_count subckts) (visits_there k some)
      ∙ count-append subckts (visits_by subckts f front) (visits_in subckts f p (Some k))
      ∙ ap (λ (n : ℕ). leaf_count subckts (visits_by subckts f front) + (cond (leaf_at subckts k) 1 0 + n)) (count-above subckts p (ports_at subckts k) (f k))

pub length_from : (path : List ℕ) (of port : ℕ) (nets : List FlatNet) → length (pins_from path of port nets) ≡ length nets
length_from path of port [] = refl
length_from path of port (net ∷ nets) = ap suc (length_from path of (port + 1) nets)

pub length_cond : (leaf : Bool) (path : List ℕ) (of : ℕ) (nets : List FlatNet) → length (cond leaf (pins_from path of 0 nets) []) ≡ cond leaf (length nets) 0
length_cond true path of nets = length_from path of 0 nets
length_cond false path of nets = refl

pub length_there : (subckts : List ResolvedSubckt) (f : ℕ → List FlatInstance) (p : ResolvedInstance) (front : List ResolvedInstance) (k : ℕ) → p.index ≡ Some k
    → length (pins_of subckts (visits_by subckts f (front ++ p ∷ []))) ≡ length (pins_of subckts (visits_by subckts f front)) + (cond (leaf_at subckts k) (length p.nodes) 0 + length (pins_of subckts (f k)))
length_there subckts f p front k some =
    let whole = ap length (pins_there subckts f p front k some) in
    let outer = length-append (pins_of subckts (visits_by subckts f front) ++ cond (leaf_at subckts k) (pins_from p.name k 0 (map local p.nodes)) []) (map (pin_above p (ports_at subckts k)) (pins_of subckts (f k))) in
    let inner = length-append (pins_of subckts (visits_by subckts f front)) (cond (leaf_at subckts k) (pins_from p.name k 0 (map local p.nodes)) []) in
    let own = length_cond (leaf_at subckts k) p.name k (map local p.nodes) ∙ ap (λ (n : ℕ). cond (leaf_at subckts k) n 0) (length-map p.nodes local) in
    let below = length-map (pins_of subckts (f k)) (pin_above p (ports_at subckts k)) in
    omega (arith, whole, outer, inner, own, below)
