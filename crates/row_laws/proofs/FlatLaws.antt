-- What a list of instances flattens to, by what each instance flattens to.
use Rattle.std.proofs.Common.{◌≡◌, ℕ, ◌+◌, List, [], ◌∷◌, ◌++◌, length, map, get_or, Bool, true, false, cond, nat_eq, option_map, Option, None, Some, refl, sym, ap, subst, ◌∙◌, append_assoc, arith}
use Rattle.std.specs.List.{flat_map, AllByRecursion}
use Rattle.std.proofs.lemmas.Bool.Decides.{nat_tests}
use Rattle.std.proofs.lemmas.List.{map-append, get_or_at, length-append, length-map, append-nil}
use Rattle.std.proofs.lemmas.List.Concat.{flat_map-append}
use Rattle.spice_netlist.specs.declared.resolved.ResolvedSubckt.{ResolvedSubckt}
use Rattle.spice_netlist.specs.declared.resolved.ResolvedInstance.{ResolvedInstance}
use Rattle.spice_netlist.specs.Resolved.{subckt_name_at, ports_at, leaf_at}
use Rattle.spice_netlist.specs.Walk.{FlatNet, local, FlatInstance, net_above, path_above, visit_above, visits_in, visits_by, first_bad, leaf_count}
use Rattle.spice_netlist.specs.Pins.{InstancePin, NamedPin, pins_from, pins_in, pins_of, pin_row}
use Rattle.spice_netlist.proofs.BadLaws.{or_later, bad-append, bad-above}
use Rattle.spice_netlist.proofs.PinLaws.{count-append, count-above}
use Rattle.row_laws.specs.Flattens.{moved, rows_from, zip_rows, Flattens, path_in, see_in}

good_append : (subckts : List ResolvedSubckt) (xs ys : List FlatInstance) → first_bad subckts xs ≡ None → first_bad subckts ys ≡ None → first_bad subckts (xs ++ ys) ≡ None
good_append subckts xs ys e f = bad-append subckts xs ys ∙ ap (λ (o : Option (List ℕ)). or_later o (first_bad subckts ys)) e ∙ f

good_above : (subckts : List ResolvedSubckt) (p : ResolvedInstance) (ports : List (List ℕ)) (vs : List FlatInstance) → first_bad subckts vs ≡ None
    → first_bad subckts (map (visit_above p ports) vs) ≡ None
good_above subckts p ports vs e = bad-above subckts p ports vs ∙ ap (option_map (path_above p)) e

pub rows_append : (subckts : List ResolvedSubckt) (above : List ℕ) (see : FlatNet → List ℕ) (xs ys : List FlatInstance) → rows_from subckts above see (xs ++ ys) ≡ rows_from subckts above see xs ++ rows_from subckts above see ys
rows_append subckts above see xs ys =
    ap (λ (vs : List FlatInstance). map (pin_row subckts) (pins_of subckts vs)) (map-append (moved above see) xs ys)
    ∙ ap (map (pin_row subckts)) (flat_map-append (pins_in subckts) (map (moved above see) xs) (map (moved above see) ys))
    ∙ map-append (pin_row subckts) (pins_of subckts (map (moved above see) xs)) (pins_of subckts (map (moved above see) ys))

pub map_map : (f g : FlatNet → FlatNet) (xs : List FlatNet) → map f (map g xs) ≡ map (λ x. f (g x)) xs
map_map f g [] = refl
map_map f g (x ∷ xs) = ap (λ (l : List FlatNet). f (g x) ∷ l) (map_map f g xs)

-- nets whose names are keys
by_keys : (see : FlatNet → List ℕ) (xs : List FlatNet) → map (λ n. local (see n)) xs ≡ map local (map see xs)
by_keys see [] = refl
by_keys see (x ∷ xs) = ap (λ (l : List FlatNet). local (see x) ∷ l) (by_keys see xs)

regroup : (a b c : List ℕ) → a ++ (b ++ 47 ∷ c) ≡ (a ++ (b ++ (47 ∷ []))) ++ c
regroup a b c = sym (append_assoc a (b ++ (47 ∷ [])) c ∙ ap (λ (l : List ℕ). a ++ l) (append_assoc b (47 ∷ []) c))

moved_above : (above : List ℕ) (see : FlatNet → List ℕ) (p : ResolvedInstance) (ports : List (List ℕ)) (vs : List FlatInstance)
    → map (moved above see) (map (visit_above p ports) vs) ≡ map (moved (path_in above p) (λ n. see (net_above p ports n))) vs
moved_above above see p ports [] = refl
moved_above above see p ports (v ∷ vs) = λ i. record { path = regroup above p.name v.path i; of = v.of; nets = map_map (λ n. local (see n)) (net_above p ports) v.nets i } ∷ moved_above above see p ports vs i

-- the pins of a leaf
pins_zip : (subckts : List ResolvedSubckt) (path : List ℕ) (k : ℕ) (before ps nets : List (List ℕ)) → ports_at subckts k ≡ before ++ ps → length ps ≡ length nets
    → map (pin_row subckts) (pins_from path k (length before) (map local nets)) ≡ zip_rows path (subckt_name_at subckts k) ps nets
pins_zip subckts path k before [] [] is sized = refl
pins_zip subckts path k before [] (net ∷ nets) is sized = absurd (omega (arith, sized))
pins_zip subckts path k before (p ∷ ps) [] is sized = absurd (omega (arith, sized))
pins_zip subckts path k before (p ∷ ps) (net ∷ nets) is sized =
    let pin : get_or (ports_at subckts k) (length before) [] ≡ p = ap (λ (l : List (List ℕ)). get_or l (length before) []) is ∙ get_or_at before p ps [] (length before) refl in
    let further : length before + 1 ≡ length (before ++ (p ∷ [])) = sym (length-append before (p ∷ [])) in
    let more = pins_zip subckts path k (before ++ (p ∷ [])) ps nets (is ∙ sym (append_assoc before (p ∷ []) ps)) (omega (arith, sized)) in
    (λ i. record { path = path; leaf = subckt_name_at subckts k; pin = pin i; net = local net } ∷ map (pin_row subckts) (pins_from path k (further i) (map local nets)))
    ∙ ap (λ (rows : List NamedPin). record { path = path; leaf = subckt_name_at subckts k; pin = p; net = local net } ∷ rows) more

nat_same : (a b : ℕ) → a ≡ b → nat_eq a b ≡ true
nat_same a b e = grind (arith, nat_tests)

module _ {X : Type 0} (row_of : X → List NamedPin) (subckts : List ResolvedSubckt) (above : List ℕ) (see : FlatNet → List ℕ) where
  pub flat_none : Flattens row_of subckts above see [] []
  flat_none = record { rows = refl; good = refl; leaves = refl }

  pub flat_both : (vs ws : List FlatInstance) (xs ys : List X) → Flattens row_of subckts above see vs xs → Flattens row_of subckts above see ws ys → Flattens row_of subckts above see (vs ++ ws) (xs ++ ys)
  flat_both vs ws xs ys a b = record {
    rows = rows_append subckts above see vs ws ∙ (λ i. a.rows i ++ b.rows i) ∙ sym (flat_map-append row_of xs ys);
    good = good_append subckts vs ws a.good b.good;
    leaves = count-append subckts vs ws ∙ (λ i. a.leaves i + b.leaves i) ∙ sym (length-append xs ys);
  }

  -- instances one after another
  pub flat_instances : (f : ℕ → List FlatInstance) (ps qs : List ResolvedInstance) (xs ys : List X) → Flattens row_of subckts above see (visits_by subckts f ps) xs → Flattens row_of subckts above see (visits_by subckts f qs) ys
      → Flattens row_of subckts above see (visits_by subckts f (ps ++ qs)) (xs ++ ys)
  flat_instances f ps qs xs ys a b =
      subst (λ (vs : List FlatInstance). Flattens row_of subckts above see vs (xs ++ ys)) (sym (flat_map-append (λ (p : ResolvedInstance). visits_in subckts f p p.index) ps qs))
      (flat_both (visits_by subckts f ps) (visits_by subckts f qs) xs ys a b)

  -- an instance of a leaf
  pub flat_leaf : (f : ℕ → List FlatInstance) (p : ResolvedInstance) (k : ℕ) (x : X) (leaf : List ℕ) (pins nets : List (List ℕ)) → p.index ≡ Some k → leaf_at subckts k ≡ true → subckt_name_at subckts k ≡ leaf → ports_at subckts k ≡ pins → f k ≡ []
      → map see (map local p.nodes) ≡ nets → length pins ≡ length nets → row_of x ≡ zip_rows (above ++ p.name) leaf pins nets
      → Flattens row_of subckts above see (visits_in subckts f p p.index) (x ∷ [])
  flat_leaf f p k x leaf pins nets there is_leaf named ported bare seen sized is =
      let me : FlatInstance = record { path = p.name; of = k; nets = map local p.nodes } in
      let long : length nets ≡ length p.nodes = ap length (sym seen) ∙ length-map (map local p.nodes) see ∙ length-map p.nodes local in
      let keys : map (λ n. local (see n)) (map local p.nodes) ≡ map local nets = by_keys see (map local p.nodes) ∙ ap (map local) seen in
      let start : rows_from subckts above see (me ∷ []) ≡ zip_rows (above ++ p.name) leaf pins nets =
      ap (λ (b : Bool). map (pin_row subckts) (cond b (pins_from (above ++ p.name) k 0 (map (λ n. local (see n)) (map local p.nodes))) [] ++ [])) is_leaf
      ∙ ap (map (pin_row subckts)) (append-nil (pins_from (above ++ p.name) k 0 (map (λ n. local (see n)) (map local p.nodes))))
      ∙ ap (λ (ns : List FlatNet). map (pin_row subckts) (pins_from (above ++ p.name) k 0 ns)) keys
      ∙ pins_zip subckts (above ++ p.name) k [] pins nets ported sized
      ∙ ap (λ (l : List ℕ). zip_rows (above ++ p.name) l pins nets) named in
      let alone : visits_in subckts f p (Some k) ≡ me ∷ [] = ap (λ (vs : List FlatInstance). me ∷ map (visit_above p (ports_at subckts k)) vs) bare in
      subst (λ (o : Option ℕ). Flattens row_of subckts above see (visits_in subckts f p o) (x ∷ [])) (sym there)
      (subst (λ (vs : List FlatInstance). Flattens row_of subckts above see vs (x ∷ [])) (sym alone) (record {
        rows = start ∙ sym is ∙ sym (append-nil (row_of x));
        good = ap (λ (b : Bool). cond b None (Some p.name))
            (nat_same (length (map local p.nodes)) (length (ports_at subckts k)) (length-map p.nodes local ∙ sym long ∙ sym sized ∙ ap length (sym ported)));
        leaves = ap (λ (b : Bool). cond b 1 0 + 0) is_leaf;
      }))

  -- an instance of a subcircuit flattens to what the subcircuit does, seen from further up
  pub flat_cell : (f : ℕ → List FlatInstance) (p : ResolvedInstance) (k : ℕ) (xs : List X) → p.index ≡ Some k → leaf_at subckts k ≡ false → length p.nodes ≡ length (ports_at subckts k)
      → Flattens row_of subckts (path_in above p) (see_in subckts see p k) (f k) xs → Flattens row_of subckts above see (visits_in subckts f p p.index) xs
  flat_cell f p k xs there no_leaf sized inner =
      let me : FlatInstance = record { path = p.name; of = k; nets = map local p.nodes } in
      let own : pins_in subckts (moved above see me) ≡ [] = ap (λ (b : Bool). cond b (pins_from (above ++ p.name) k 0 (map (λ n. local (see n)) (map local p.nodes))) []) no_leaf in
      subst (λ (o : Option ℕ). Flattens row_of subckts above see (visits_in subckts f p o) xs) (sym there) (record {
        rows =
            ap (λ (ps : List InstancePin). map (pin_row subckts) (ps ++ pins_of subckts (map (moved above see) (map (visit_above p (ports_at subckts k)) (f k))))) own
            ∙ ap (λ (vs : List FlatInstance). map (pin_row subckts) (pins_of subckts vs)) (moved_above above see p (ports_at subckts k) (f k))
            ∙ inner.rows;
        good =
            ap (λ (b : Bool). cond b (first_bad subckts (map (visit_above p (ports_at subckts k)) (f k))) (Some p.name)) (nat_same (length (map local p.nodes)) (length (ports_at subckts k)) (length-map p.nodes local ∙ sized))
            ∙ good_above subckts p (ports_at subckts k) (f k) inner.good;
        leaves =
            ap (λ (b : Bool). cond b 1 0 + leaf_count subckts (map (visit_above p (ports_at subckts k)) (f k))) no_leaf
            ∙ (let e = count-above subckts p (ports_at subckts k) (f k) in omega (arith, e))
            ∙ inner.leaves;
      })

  -- a instance for each item of a list, which flattens to one item or to a list of items
  pub flat_each : {K I : Type 0} (f : ℕ → List FlatInstance) (instance : I → ResolvedInstance) (at : K → I) (item : K → X) (ks : List K) → AllByRecursion (λ k. Flattens row_of subckts above see (visits_in subckts f (instance (at k)) (instance (at k)).index) (item k ∷ [])) ks
      → Flattens row_of subckts above see (visits_by subckts f (map instance (map at ks))) (map item ks)
  flat_each f instance at item [] all = flat_none
  flat_each f instance at item (k ∷ ks) all = flat_both (visits_in subckts f (instance (at k)) (instance (at k)).index) (visits_by subckts f (map instance (map at ks))) (item k ∷ []) (map item ks) all.0 (flat_each f instance at item ks all.1)

  pub flat_eachs : {K I : Type 0} (f : ℕ → List FlatInstance) (instance : I → ResolvedInstance) (at : K → I) (items : K → List X) (ks : List K) → AllByRecursion (λ k. Flattens row_of subckts above see (visits_in subckts f (instance (at k)) (instance (at k)).index) (items k)) ks
      → Flattens row_of subckts above see (visits_by subckts f (map instance (map at ks))) (flat_map items ks)
  flat_eachs f instance at items [] all = flat_none
  flat_eachs f instance at items (k ∷ ks) all = flat_both (visits_in subckts f (instance (at k)) (instance (at k)).index) (visits_by subckts f (map instance (map at ks))) (items k) (flat_map items ks) all.0 (flat_eachs f instance at items ks all.1)
