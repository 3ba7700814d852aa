-- The steps of the walk: what is left to write, and what is left to do.
use Rattle.std.proofs.Common.{◌≡◌, ℕ, ◌+◌, ◌<◌, ◌≤◌, List, [], ◌∷◌, ◌++◌, length, map, take, Bool, true, false, cond, nat_eq, Option, None, Some, refl, sym, ap, subst, ◌∙◌, append_assoc, arith}
use Rattle.std.specs.Prelude.{Contains}
use Rattle.std.specs.List.{cons_option}
use Rattle.std.proofs.lemmas.Bool.Decides.{nat_tests}
use Rattle.std.proofs.lemmas.List.{append-nil, length-append, length-map, length-take-le, take_all, take-append-le}
use Rattle.or_geom.proofs.ListLaws.{contains_first, contains_option}
use Rattle.reference_graph.specs.Reaches.{Reaches}
use Rattle.reference_graph.proofs.PathLaws.{reaches_on, reaches_start}
use Rattle.spice_netlist.specs.Limits.{most_pins}
use Rattle.spice_netlist.specs.declared.resolved.ResolvedSubckt.{ResolvedSubckt}
use Rattle.spice_netlist.specs.declared.resolved.ResolvedInstance.{ResolvedInstance}
use Rattle.spice_netlist.specs.declared.level.WalkLevel.{WalkLevel}
use Rattle.spice_netlist.specs.declared.level.LevelNet.{LevelNet}
use Rattle.spice_netlist.specs.declared.rows.RowList.{RowList}
use Rattle.spice_netlist.specs.Names.{index_of}
use Rattle.spice_netlist.specs.Found.{found}
use Rattle.spice_netlist.specs.Resolved.{ports_at, instances_at, subckt_references, graph}
use Rattle.spice_netlist.specs.Walk.{FlatNet, local, FlatInstance, net_above, visit_above, visits_in, visits_by, walk_at, first_bad}
use Rattle.spice_netlist.specs.Pins.{NamedPin, pins_in, pins_of, pin_row}
use Rattle.spice_netlist.specs.NetKeys.{path_key}
use Rattle.spice_netlist.specs.Levels.{level_key, keyed_net, AreWithinPath, View, key_or, seen_name, seen_key, seen_net, seen_visit, view_of}
use Rattle.spice_netlist.specs.Descent.{IsWalkable}
use Rattle.spice_netlist.specs.Rows.{AddsRows, net_count}
use Rattle.spice_netlist.proofs.WalkLaws.{refers_references}
use Rattle.spice_netlist.proofs.ViewLaws.{view_in, seen_rows, own_rows, rows_absent, rows_there, rows_bare}
use Rattle.spice_netlist.proofs.LevelLaws.{take_again, front_same, near_more, texts_same, view_same, view_keeps}
use Rattle.spice_netlist.proofs.RowLaws.{adds_none, adds_then}
use Rattle.spice_netlist.proofs.KeyedLaws.{own_key, keyed_visit, length_keyed, adds_by_key}

-- each instance has as many nodes as its subcircuit has ports
abbrev pub AreGood : List ResolvedSubckt → List FlatInstance → Type 0
AreGood subckts [] = Unit {0}
AreGood subckts (v ∷ vs) = (length v.nets ≡ length (ports_at subckts v.of)) × AreGood subckts vs

same_number : (a b : ℕ) → nat_eq a b ≡ true → a ≡ b
same_number a b e = grind (arith, nat_tests)

good_from : (b : Bool) (rest : Option (List ℕ)) (path : List ℕ) → cond b rest (Some path) ≡ None → (b ≡ true) × (rest ≡ None)
good_from true rest path e = (refl, e)
good_from false rest path e = absurd cc

pub good_of : (subckts : List ResolvedSubckt) (vs : List FlatInstance) → first_bad subckts vs ≡ None → AreGood subckts vs
good_of subckts [] e = tt
good_of subckts (v ∷ vs) e =
    let h = good_from (nat_eq (length v.nets) (length (ports_at subckts v.of))) (first_bad subckts vs) v.path e in
    (same_number (length v.nets) (length (ports_at subckts v.of)) h.0, good_of subckts vs h.1)

good_split : (subckts : List ResolvedSubckt) (xs ys : List FlatInstance) → AreGood subckts (xs ++ ys) → AreGood subckts xs × AreGood subckts ys
good_split subckts [] ys g = (tt, g)
good_split subckts (x ∷ xs) ys g = let h = good_split subckts xs ys g.1 in ((g.0, h.0), h.1)

good_above : (subckts : List ResolvedSubckt) (p : ResolvedInstance) (ports : List (List ℕ)) (vs : List FlatInstance) → AreGood subckts (map (visit_above p ports) vs) → AreGood subckts vs
good_above subckts p ports [] g = tt
good_above subckts p ports (v ∷ vs) g = (sym (length-map v.nets (net_above p ports)) ∙ g.0, good_above subckts p ports vs g.1)

-- of the instances
pub record AreInstancesGood (subckts : List ResolvedSubckt) (f : ℕ → List FlatInstance) (p : ResolvedInstance) (ps : List ResolvedInstance) (k : ℕ) : Type 0 where
  pub sized : length p.nodes ≡ length (ports_at subckts k)
  pub inside : AreGood subckts (f k)
  pub others : AreGood subckts (visits_by subckts f ps)

instances_good : (subckts : List ResolvedSubckt) (f : ℕ → List FlatInstance) (p : ResolvedInstance) (ps : List ResolvedInstance) (k : ℕ) → p.index ≡ Some k → AreGood subckts (visits_by subckts f (p ∷ ps)) → AreInstancesGood subckts f p ps k
instances_good subckts f p ps k some g =
    let h : AreGood subckts (visits_in subckts f p (Some k) ++ visits_by subckts f ps) = subst (λ (o : Option ℕ). AreGood subckts (visits_in subckts f p o ++ visits_by subckts f ps)) some g in
    let s = good_split subckts (map (visit_above p (ports_at subckts k)) (f k)) (visits_by subckts f ps) h.1 in
    record { sized = sym (length-map p.nodes local) ∙ h.0; inside = good_above subckts p (ports_at subckts k) (f k) s.0; others = s.1 }

-- a bound on the steps inside visits: their instances and the levels of them
abbrev pub cost : List ResolvedSubckt → List FlatInstance → ℕ
cost subckts [] = 0
cost subckts (v ∷ vs) = (2 + length (instances_at subckts v.of)) + cost subckts vs

cost_append : (subckts : List ResolvedSubckt) (xs ys : List FlatInstance) → cost subckts (xs ++ ys) ≡ cost subckts xs + cost subckts ys
cost_append subckts [] ys = omega arith
cost_append subckts (x ∷ xs) ys = let h = cost_append subckts xs ys in omega (arith, h)

cost_above : (subckts : List ResolvedSubckt) (p : ResolvedInstance) (ports : List (List ℕ)) (vs : List FlatInstance) → cost subckts (map (visit_above p ports) vs) ≡ cost subckts vs
cost_above subckts p ports [] = refl
cost_above subckts p ports (v ∷ vs) = ap (λ (n : ℕ). (2 + length (instances_at subckts v.of)) + n) (cost_above subckts p ports vs)

cost_there : (subckts : List ResolvedSubckt) (f : ℕ → List FlatInstance) (p : ResolvedInstance) (ps : List ResolvedInstance) (k : ℕ) → p.index ≡ Some k
    → cost subckts (visits_by subckts f (p ∷ ps)) ≡ (2 + length (instances_at subckts k)) + (cost subckts (f k) + cost subckts (visits_by subckts f ps))
cost_there subckts f p ps k some =
    ap (λ (o : Option ℕ). cost subckts (visits_in subckts f p o ++ visits_by subckts f ps)) some
    ∙ ap (λ (n : ℕ). (2 + length (instances_at subckts k)) + n) (cost_append subckts (map (visit_above p (ports_at subckts k)) (f k)) (visits_by subckts f ps) ∙ ap (λ (n : ℕ). n + cost subckts (visits_by subckts f ps)) (cost_above subckts p (ports_at subckts k) (f k)))

-- a bound on the steps that are left to do
abbrev pub weight : List ResolvedSubckt → List WalkLevel → ℕ
weight subckts [] = 0
weight subckts (f ∷ fs) = (1 + (length f.instances.now + cost subckts (visits_by subckts (walk_at subckts) f.instances.now))) + weight subckts fs

-- the rows that are left to write
abbrev pub still : List ResolvedSubckt → List ℕ → List ℕ → List WalkLevel → List NamedPin
still subckts path net [] = []
still subckts path net (f ∷ fs) = seen_rows subckts (view_of path net f) (visits_by subckts (walk_at subckts) f.instances.now) ++ still subckts path net fs

-- a level, to which at most so many bytes of the path lead
pub record IsOpen (subckts : List ResolvedSubckt) (top limit : ℕ) (f : WalkLevel) : Type 0 where
  pub within : f.prefix ≤ limit
  pub near : AreWithinPath f.prefix f.nets.items
  pub reached : (k : ℕ) → Contains (subckt_references f.instances.now) k → Reaches (graph subckts) top k
  pub good : AreGood subckts (visits_by subckts (walk_at subckts) f.instances.now)

-- levels, the innermost first
abbrev pub AreNested : List ResolvedSubckt → ℕ → ℕ → List WalkLevel → Type 0
AreNested subckts top limit [] = Unit {0}
AreNested subckts top limit (f ∷ fs) = IsOpen subckts top limit f × AreNested subckts top f.prefix fs

at_limit : (subckts : List ResolvedSubckt) (top limit limit' : ℕ) (f : WalkLevel) → f.prefix ≤ limit' → IsOpen subckts top limit f → IsOpen subckts top limit' f
at_limit subckts top limit limit' f le o = record { within = le; near = o.near; reached = o.reached; good = o.good }

still_same : (subckts : List ResolvedSubckt) (top limit : ℕ) (path path' net net' : List ℕ) → take limit path ≡ take limit path' → take limit net ≡ take limit net' → (fs : List WalkLevel) → AreNested subckts top limit fs → still subckts path net fs ≡ still subckts path' net' fs
still_same subckts top limit path path' net net' p n [] nested = refl
still_same subckts top limit path path' net net' p n (f ∷ fs) nested =
    let p' = front_same f.prefix limit path path' nested.0.within p in
    let n' = front_same f.prefix limit net net' nested.0.within n in
    λ i. seen_rows subckts (view_same path path' net net' f p' n' nested.0.near i) (visits_by subckts (walk_at subckts) f.instances.now) ++ still_same subckts top f.prefix path path' net net' p' n' fs nested.1 i

-- all rows of the walk, by their keys
abbrev pub below : List ResolvedSubckt → ℕ → List NamedPin
below subckts top = map (pin_row subckts) (pins_of subckts (map keyed_visit (walk_at subckts top)))

-- the walk is in a level, with the others around it, and has added rows
pub record IsUnderWay (subckts : List ResolvedSubckt) (top : ℕ) (old new : RowList) (path net : List ℕ) (f : WalkLevel) (outer : List WalkLevel) : Type 0 where
  pub here : f.prefix ≡ length path
  pub even : length net ≡ length path
  pub nested : AreNested subckts top f.prefix (f ∷ outer)
  pub done : List NamedPin
  pub added : AddsRows old new done
  pub left : done ++ still subckts path net (f ∷ outer) ≡ below subckts top

-- the walk is at an instance of a subcircuit at the index, whose own rows it has added
pub record HasWritten (subckts : List ResolvedSubckt) (top : ℕ) (old new : RowList) (path net : List ℕ) (f : WalkLevel) (outer : List WalkLevel) (p : ResolvedInstance) (k : ℕ) : Type 0 where
  pub here : f.prefix ≡ length path
  pub even : length net ≡ length path
  pub nested : AreNested subckts top f.prefix (f ∷ outer)
  pub reached : Reaches (graph subckts) top k
  pub good : AreGood subckts (walk_at subckts k)
  pub done : List NamedPin
  pub added : AddsRows old new done
  pub left : done ++ (seen_rows subckts (view_in (view_of path net f) p (ports_at subckts k)) (walk_at subckts k) ++ still subckts path net (f ∷ outer)) ≡ below subckts top

-- nets by their keys
same_nets : (v : View) (path : List ℕ) (nets : List LevelNet) (names : List (List ℕ)) → map (level_key path) nets ≡ map (seen_name v) names → map (keyed_net path) nets ≡ map (seen_net v) (map local names)
same_nets v path nets names texts = by_keys nets ∙ ap (map local) texts ∙ sym (by_names names) where
  by_keys : (ns : List LevelNet) → map (keyed_net path) ns ≡ map local (map (level_key path) ns)
  by_keys [] = refl
  by_keys (n ∷ ns) = ap (λ (l : List FlatNet). keyed_net path n ∷ l) (by_keys ns)

  by_names : (ns : List (List ℕ)) → map (seen_net v) (map local ns) ≡ map local (map (seen_name v) ns)
  by_names [] = refl
  by_names (n ∷ ns) = ap (λ (l : List FlatNet). local (seen_name v n) ∷ l) (by_names ns)

-- at the top nets have their own keys
module _ (v : View) (inside : v.inside ≡ []) (none : (name : List ℕ) → v.find name ≡ None) where
  top_key : (path : List (List ℕ)) (name : List ℕ) → seen_key v path name ≡ path_key path name
  top_key [] name = ap (λ (o : Option ℕ). key_or (v.inside ++ name) v.nets o) (none name) ∙ ap (λ (l : List ℕ). l ++ name) inside
  top_key (i ∷ path) name = ap (λ (l : List ℕ). l ++ path_key (i ∷ path) name) inside

  top_nets : (ns : List FlatNet) → map (seen_net v) ns ≡ map own_key ns
  top_nets [] = refl
  top_nets (n ∷ ns) = λ i. local (top_key n.path n.name i) ∷ top_nets ns i

  top_visits : v.path ≡ [] → (vs : List FlatInstance) → map (seen_visit v) vs ≡ map keyed_visit vs
  top_visits path [] = refl
  top_visits path (x ∷ xs) = λ i. record { path = path i ++ x.path; of = x.of; nets = top_nets x.nets i } ∷ top_visits path xs i

module _ (subckts : List ResolvedSubckt) (top : ℕ) (old : RowList) (walkable : IsWalkable subckts top) where
  pub begins : (path net : List ℕ) (f : WalkLevel) → path ≡ [] → net ≡ [] → f.instances.now ≡ instances_at subckts top → ((name : List ℕ) → found f.ports.now name ≡ None) → f.nets.items ≡ [] → f.prefix ≡ 0 → IsUnderWay subckts top old old path net f []
  begins path net f p n instances none nets prefix =
      let whole : visits_by subckts (walk_at subckts) f.instances.now ≡ walk_at subckts top =
      ap (visits_by subckts (walk_at subckts)) instances ∙ sym (walkable.whole top (reaches_start (graph subckts) top top refl)) in
      let v = view_of path net f in
      let no_path : v.path ≡ [] = λ i. take (prefix i) (p i) in
      let no_inside : v.inside ≡ [] = λ i. take (prefix i) (n i) in
      record {
        here = prefix ∙ sym (ap length p);
        even = ap length n ∙ sym (ap length p);
        nested = (
          record {
            within = omega arith;
            near = subst (λ (ns : List LevelNet). AreWithinPath f.prefix ns) (sym nets) tt;
            reached = λ k c.
                reaches_on (graph subckts) top top k (reaches_start (graph subckts) top top refl)
                (subst (λ (ks : List ℕ). Contains ks k) (ap subckt_references instances ∙ sym (refers_references subckts top)) c);
            good = subst (AreGood subckts) (sym whole) (good_of subckts (walk_at subckts top) walkable.good);
          },
          tt,
        );
        done = [];
        added = adds_none old;
        left =
            append-nil (seen_rows subckts v (visits_by subckts (walk_at subckts) f.instances.now))
            ∙ ap (λ (vs : List FlatInstance). map (pin_row subckts) (pins_of subckts vs)) (top_visits v no_inside none no_path (visits_by subckts (walk_at subckts) f.instances.now) ∙ ap (map keyed_visit) whole);
      }

  pub ends : (new : RowList) (path net : List ℕ) (f : WalkLevel) → f.instances.now ≡ [] → IsUnderWay subckts top old new path net f [] → AddsRows old new (map (pin_row subckts) (pins_of subckts (walk_at subckts top)))
  ends new path net f none u =
      let nothing : still subckts path net (f ∷ []) ≡ [] = ap (λ (ps : List ResolvedInstance). seen_rows subckts (view_of path net f) (visits_by subckts (walk_at subckts) ps) ++ []) none in
      adds_by_key old new subckts (walk_at subckts top) (subst (AddsRows old new) (sym (ap (λ (l : List NamedPin). u.done ++ l) nothing ∙ append-nil u.done) ∙ u.left) u.added)

  -- back into the level around
  pub leaves : (new : RowList) (path path' net net' : List ℕ) (f g : WalkLevel) (outer : List WalkLevel) → f.instances.now ≡ [] → path' ≡ take g.prefix path → net' ≡ take g.prefix net → IsUnderWay subckts top old new path net f (g ∷ outer)
      → IsUnderWay subckts top old new path' net' g outer
  leaves new path path' net net' f g outer none p n u =
      let nothing : still subckts path net (f ∷ g ∷ outer) ≡ still subckts path net (g ∷ outer) =
      ap (λ (ps : List ResolvedInstance). seen_rows subckts (view_of path net f) (visits_by subckts (walk_at subckts) ps) ++ still subckts path net (g ∷ outer)) none in
      let inner : AreNested subckts top g.prefix (g ∷ outer) = (at_limit subckts top f.prefix g.prefix g (omega arith) u.nested.1.0, u.nested.1.1) in
      let short = u.nested.1.0.within in
      let path_long = length-take-le g.prefix path (omega (arith, short, u.here)) in
      let net_long = length-take-le g.prefix net (omega (arith, short, u.here, u.even)) in
      record {
        here = sym (ap length p ∙ path_long);
        even = ap length n ∙ net_long ∙ sym (ap length p ∙ path_long);
        nested = inner;
        done = u.done;
        added = u.added;
        left =
            ap (λ (l : List NamedPin). u.done ++ l)
            (still_same subckts top g.prefix path' path net' net (ap (take g.prefix) p ∙ take_again g.prefix path) (ap (take g.prefix) n ∙ take_again g.prefix net) (g ∷ outer) inner ∙ sym nothing)
            ∙ u.left;
      }

  -- the level without its first instance
  module _ (new : RowList) (path net : List ℕ) (f f' : WalkLevel) (outer : List WalkLevel) (p : ResolvedInstance) (first : f.instances.now ≡ p ∷ f'.instances.now) (ports_is : f'.ports.now ≡ f.ports.now) (nets_is : f'.nets.items ≡ f.nets.items) (prefix_is : f'.prefix ≡ f.prefix)
      (u : IsUnderWay subckts top old new path net f outer) where
    good_here : AreGood subckts (visits_by subckts (walk_at subckts) (p ∷ f'.instances.now))
    good_here = subst (λ (ps : List ResolvedInstance). AreGood subckts (visits_by subckts (walk_at subckts) ps)) first u.nested.0.good

    level_open : AreGood subckts (visits_by subckts (walk_at subckts) f'.instances.now) → AreNested subckts top f'.prefix (f' ∷ outer)
    level_open good = (
      record {
        within = omega arith;
        near = subst (AreWithinPath f'.prefix) (sym nets_is) (subst (λ (w : ℕ). AreWithinPath w f.nets.items) (sym prefix_is) u.nested.0.near);
        reached = λ k c. u.nested.0.reached k (subst (λ (ps : List ResolvedInstance). Contains (subckt_references ps) k) (sym first) (contains_option p.index (subckt_references f'.instances.now) k c));
        good = good;
      },
      subst (λ (w : ℕ). AreNested subckts top w outer) (sym prefix_is) u.nested.1,
    )

    first_rows : seen_rows subckts (view_of path net f) (visits_by subckts (walk_at subckts) f.instances.now) ≡ seen_rows subckts (view_of path net f') (visits_by subckts (walk_at subckts) (p ∷ f'.instances.now))
    first_rows = λ i. seen_rows subckts (sym (view_keeps path net f f' ports_is nets_is prefix_is) i) (visits_by subckts (walk_at subckts) (first i))

    -- past an instance whose subcircuit isn't there
    pub skips : p.index ≡ None → IsUnderWay subckts top old new path net f' outer
    skips none =
        let absent : visits_by subckts (walk_at subckts) (p ∷ f'.instances.now) ≡ visits_by subckts (walk_at subckts) f'.instances.now =
        ap (λ (o : Option ℕ). visits_in subckts (walk_at subckts) p o ++ visits_by subckts (walk_at subckts) f'.instances.now) none in
        record {
          here = prefix_is ∙ u.here;
          even = u.even;
          nested = level_open (subst (AreGood subckts) absent good_here);
          done = u.done;
          added = u.added;
          left =
              ap (λ (l : List NamedPin). u.done ++ (l ++ still subckts path net outer)) (sym (first_rows ∙ rows_absent subckts (view_of path net f') (walk_at subckts) p f'.instances.now none))
              ∙ u.left;
        }

    module _ (k : ℕ) (some : p.index ≡ Some k) where
      pub reached_here : Reaches (graph subckts) top k
      reached_here = u.nested.0.reached k (subst (λ (ps : List ResolvedInstance). Contains (subckt_references ps) k) (sym first) (subst (λ (o : Option ℕ). Contains (cons_option o (subckt_references f'.instances.now)) k) (sym some) (contains_first k (subckt_references f'.instances.now))))

      pub index_here : k < length subckts
      index_here = walkable.within k reached_here

      instances_here : AreInstancesGood subckts (walk_at subckts) p f'.instances.now k
      instances_here = instances_good subckts (walk_at subckts) p f'.instances.now k some good_here

      split_left : u.done ++ (own_rows subckts (view_of path net f') p k ++ (seen_rows subckts (view_in (view_of path net f') p (ports_at subckts k)) (walk_at subckts k) ++ still subckts path net (f' ∷ outer))) ≡ below subckts top
      split_left =
          let own = own_rows subckts (view_of path net f') p k in
          let inside = seen_rows subckts (view_in (view_of path net f') p (ports_at subckts k)) (walk_at subckts k) in
          let others = seen_rows subckts (view_of path net f') (visits_by subckts (walk_at subckts) f'.instances.now) in
          let around = still subckts path net outer in
          let joined : (own ++ (inside ++ others)) ++ around ≡ own ++ (inside ++ (others ++ around)) = append_assoc own (inside ++ others) around ∙ ap (λ (l : List NamedPin). own ++ l) (append_assoc inside others around) in
          ap (λ (l : List NamedPin). u.done ++ l)
          (sym (ap (λ (l : List NamedPin). l ++ around) (first_rows ∙ rows_there subckts (view_of path net f') (walk_at subckts) p f'.instances.now k some instances_here.sized) ∙ joined))
          ∙ u.left

      module _ (nets : List LevelNet) (texts : map (level_key net) nets ≡ map (seen_name (view_of path net f')) p.nodes) where
        own_is : map (pin_row subckts) (pins_in subckts (record { path = path ++ p.name; of = k; nets = map (keyed_net net) nets })) ≡ own_rows subckts (view_of path net f') p k
        own_is =
            let whole : take f'.prefix path ≡ path = take_all f'.prefix path (omega (arith, prefix_is, u.here)) in
            let same = same_nets (view_of path net f') net nets p.nodes texts in
            λ i. map (pin_row subckts) (pins_in subckts (record { path = sym whole i ++ p.name; of = k; nets = same i }))

        pub few_pins : net_count old + length (pins_of subckts (walk_at subckts top)) ≤ most_pins → net_count new + length (pins_in subckts (record { path = path ++ p.name; of = k; nets = map (keyed_net net) nets })) ≤ most_pins
        few_pins most =
            let own = pins_in subckts (record { path = path ++ p.name; of = k; nets = map (keyed_net net) nets }) in
            let rest = seen_rows subckts (view_in (view_of path net f') p (ports_at subckts k)) (walk_at subckts k) ++ still subckts path net (f' ∷ outer) in
            let all = ap length split_left in
            let outermost = length-append u.done (own_rows subckts (view_of path net f') p k ++ rest) in
            let inner = length-append (own_rows subckts (view_of path net f') p k) rest in
            let same = ap length own_is in
            let mapped = length-map own (pin_row subckts) in
            let whole = length-map (pins_of subckts (map keyed_visit (walk_at subckts top))) (pin_row subckts) in
            let as_many = length_keyed subckts (walk_at subckts top) in
            omega (arith, all, outermost, inner, same, mapped, whole, as_many, u.added.few, most)

        -- with the rows of the instance itself
        pub writes : (new' : RowList) → AddsRows new new' (map (pin_row subckts) (pins_in subckts (record { path = path ++ p.name; of = k; nets = map (keyed_net net) nets }))) → HasWritten subckts top old new' path net f' outer p k
        writes new' added =
            let own = own_rows subckts (view_of path net f') p k in
            let rest = seen_rows subckts (view_in (view_of path net f') p (ports_at subckts k)) (walk_at subckts k) ++ still subckts path net (f' ∷ outer) in
            record {
              here = prefix_is ∙ u.here;
              even = u.even;
              nested = level_open instances_here.others;
              reached = reached_here;
              good = instances_here.inside;
              done = u.done ++ own;
              added = adds_then old new new' u.done own u.added (subst (AddsRows new new') own_is added);
              left = append_assoc u.done own rest ∙ split_left;
            }

  -- past an instance without pins inside
  pub passes : (new : RowList) (path net : List ℕ) (f : WalkLevel) (outer : List WalkLevel) (p : ResolvedInstance) (k : ℕ) → length (pins_of subckts (walk_at subckts k)) ≡ 0 → HasWritten subckts top old new path net f outer p k → IsUnderWay subckts top old new path net f outer
  passes new path net f outer p k bare w =
      let gone : seen_rows subckts (view_in (view_of path net f) p (ports_at subckts k)) (walk_at subckts k) ≡ [] = rows_bare subckts (view_in (view_of path net f) p (ports_at subckts k)) (walk_at subckts k) bare in
      record {
        here = w.here;
        even = w.even;
        nested = w.nested;
        done = w.done;
        added = w.added;
        left = ap (λ (l : List NamedPin). w.done ++ (l ++ still subckts path net (f ∷ outer))) (sym gone) ∙ w.left;
      }

  -- into the instance
  module _ (new : RowList) (path net path' net' : List ℕ) (f g : WalkLevel) (outer : List WalkLevel) (p : ResolvedInstance) (k : ℕ) (instances : g.instances.now ≡ instances_at subckts k) (look : (name : List ℕ) → found g.ports.now name ≡ index_of (ports_at subckts k) name)
      (near : AreWithinPath f.prefix g.nets.items) (texts : map (level_key net) g.nets.items ≡ map (seen_name (view_of path net f)) p.nodes) (path_is : path' ≡ (path ++ p.name) ++ 47 ∷ []) (net_is : net' ≡ (net ++ p.name) ++ 65 ∷ []) (prefix : g.prefix ≡ length path')
      (w : HasWritten subckts top old new path net f outer p k) where
    longer : length path' ≡ (length path + length p.name) + 1
    longer = ap length path_is ∙ length-append (path ++ p.name) (47 ∷ []) ∙ ap (λ (n : ℕ). n + 1) (length-append path p.name)

    longer_net : length net' ≡ (length net + length p.name) + 1
    longer_net = ap length net_is ∙ length-append (net ++ p.name) (65 ∷ []) ∙ ap (λ (n : ℕ). n + 1) (length-append net p.name)

    front_path : take f.prefix path' ≡ take f.prefix path
    front_path = ap (take f.prefix) (path_is ∙ append_assoc path p.name (47 ∷ [])) ∙ take-append-le f.prefix path (p.name ++ 47 ∷ []) (omega (arith, w.here))

    front_net : take f.prefix net' ≡ take f.prefix net
    front_net = ap (take f.prefix) (net_is ∙ append_assoc net p.name (65 ∷ [])) ∙ take-append-le f.prefix net (p.name ++ 65 ∷ []) (omega (arith, w.here, w.even))

    inner_view : view_of path' net' g ≡ view_in (view_of path net f) p (ports_at subckts k)
    inner_view =
        let path_whole : take g.prefix path' ≡ (take f.prefix path ++ p.name) ++ 47 ∷ [] =
        take_all g.prefix path' (omega (arith, prefix)) ∙ path_is ∙ ap (λ (l : List ℕ). (l ++ p.name) ++ 47 ∷ []) (sym (take_all f.prefix path (omega (arith, w.here)))) in
        let net_whole : take g.prefix net' ≡ (take f.prefix net ++ p.name) ++ 65 ∷ [] =
        take_all g.prefix net' (omega (arith, prefix, longer, longer_net, w.even)) ∙ net_is ∙ ap (λ (l : List ℕ). (l ++ p.name) ++ 65 ∷ []) (sym (take_all f.prefix net (omega (arith, w.here, w.even)))) in
        let nets_whole : map (level_key net') g.nets.items ≡ map (seen_name (view_of path net f)) p.nodes = texts_same f.prefix net' net front_net g.nets.items near ∙ texts in
        λ i. record { path = path_whole i; inside = net_whole i; find = λ name. look name i; nets = nets_whole i }

    whole_here : visits_by subckts (walk_at subckts) g.instances.now ≡ walk_at subckts k
    whole_here = ap (visits_by subckts (walk_at subckts)) instances ∙ sym (walkable.whole k w.reached)

    pub enters : IsUnderWay subckts top old new path' net' g (f ∷ outer)
    enters =
        let around : AreNested subckts top g.prefix (f ∷ outer) = (at_limit subckts top f.prefix g.prefix f (omega (arith, w.here, longer, prefix)) w.nested.0, w.nested.1) in
        record {
          here = prefix;
          even = omega (arith, longer, longer_net, w.even);
          nested = (
            record {
              within = omega arith;
              near = near_more f.prefix g.prefix g.nets.items (omega (arith, w.here, longer, prefix)) near;
              reached = λ j c. reaches_on (graph subckts) top k j w.reached (subst (λ (ks : List ℕ). Contains ks j) (ap subckt_references instances ∙ sym (refers_references subckts k)) c);
              good = subst (AreGood subckts) (sym whole_here) w.good;
            },
            around,
          );
          done = w.done;
          added = w.added;
          left =
              (λ i. w.done ++ (seen_rows subckts (inner_view i) (whole_here i) ++ still_same subckts top f.prefix path' path net' net front_path front_net (f ∷ outer) w.nested i))
              ∙ w.left;
        }

    pub lighter_inside : (b : WalkLevel) → b.instances.now ≡ p ∷ f.instances.now → p.index ≡ Some k → weight subckts (g ∷ f ∷ outer) < weight subckts (b ∷ outer)
    lighter_inside b first some =
        let here = ap (cost subckts) whole_here in
        let long = ap length instances in
        let before = ap (λ (ps : List ResolvedInstance). cost subckts (visits_by subckts (walk_at subckts) ps)) first ∙ cost_there subckts (walk_at subckts) p f.instances.now k some in
        let before_long = ap length first in
        omega (arith, here, long, before, before_long)

pub lighter_past : (subckts : List ResolvedSubckt) (f f' : WalkLevel) (outer : List WalkLevel) (p : ResolvedInstance) (k : ℕ) → f.instances.now ≡ p ∷ f'.instances.now → p.index ≡ Some k → weight subckts (f' ∷ outer) < weight subckts (f ∷ outer)
lighter_past subckts f f' outer p k first some =
    let before = ap (λ (ps : List ResolvedInstance). cost subckts (visits_by subckts (walk_at subckts) ps)) first ∙ cost_there subckts (walk_at subckts) p f'.instances.now k some in
    let long = ap length first in
    omega (arith, before, long)
