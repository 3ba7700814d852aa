-- The first instance whose nodes aren't as many as its ports: over lists of visits, and seen from outside.
use Rattle.std.proofs.Common.{◌≡◌, ℕ, ◌<◌, List, [], ◌∷◌, ◌++◌, length, map, Bool, true, false, cond, nat_eq, Option, None, Some, is_some, option_map, refl, sym, ap, subst, ◌∙◌, append_assoc}
use Rattle.std.proofs.lemmas.Bool.{false≢true}
use Rattle.std.proofs.lemmas.List.{length-map}
use Rattle.std.specs.Prelude.{IsSome, MatchOption, Contains}
use Rattle.or_geom.proofs.ListLaws.{none_is}
use denote.Ref.{Bor}
use Rattle.spice_netlist.specs.declared.resolved.ResolvedSubckt.{ResolvedSubckt}
use Rattle.spice_netlist.specs.declared.resolved.ResolvedInstance.{ResolvedInstance}
use Rattle.spice_netlist.specs.declared.ports.BadInstance.{BadInstance}
use Rattle.spice_netlist.specs.declared.ports.BadInstance.TheVariants.{Inside}
use Rattle.spice_netlist.specs.Bad.{bad_at, bad_in, IsBadInstance}
use Rattle.spice_netlist.specs.Resolved.{ports_at, instances_at, subckt_references}
use Rattle.spice_netlist.specs.Tables.{IsSubcktOrder}
use Rattle.spice_netlist.specs.Walk.{local, FlatInstance, net_above, path_above, visit_above, visits_in, visits_by, walk_at, first_bad}
use Rattle.spice_netlist.proofs.TableLaws.{listed_below, walk_opened, walk_shorter}

-- the path that comes first, if it's there
abbrev pub or_later : Option (List ℕ) → Option (List ℕ) → Option (List ℕ)
or_later None later = later
or_later (Some path) later = Some path

abbrev pub above : ResolvedInstance → Option (List ℕ) → Option (List ℕ)
above instance path = option_map (path_above instance) path

choice : (b : Bool) (path : List ℕ) (rest later : Option (List ℕ)) → cond b (or_later rest later) (Some path) ≡ or_later (cond b rest (Some path)) later
choice true path rest later = refl
choice false path rest later = refl

pub bad-append : (subckts : List ResolvedSubckt) (xs ys : List FlatInstance) → first_bad subckts (xs ++ ys) ≡ or_later (first_bad subckts xs) (first_bad subckts ys)
bad-append subckts [] ys = refl
bad-append subckts (v ∷ xs) ys =
    ap (λ (o : Option (List ℕ)). cond (nat_eq (length v.nets) (length (ports_at subckts v.of))) o (Some v.path)) (bad-append subckts xs ys)
    ∙ choice (nat_eq (length v.nets) (length (ports_at subckts v.of))) v.path (first_bad subckts xs) (first_bad subckts ys)

lifted : (instance : ResolvedInstance) (b : Bool) (path : List ℕ) (rest : Option (List ℕ)) → cond b (above instance rest) (Some (path_above instance path)) ≡ above instance (cond b rest (Some path))
lifted instance true path rest = refl
lifted instance false path rest = refl

pub bad-above : (subckts : List ResolvedSubckt) (instance : ResolvedInstance) (ports : List (List ℕ)) (vs : List FlatInstance) → first_bad subckts (map (visit_above instance ports) vs) ≡ above instance (first_bad subckts vs)
bad-above subckts instance ports [] = refl
bad-above subckts instance ports (v ∷ vs) =
    ap (λ (n : ℕ). cond (nat_eq n (length (ports_at subckts v.of))) (first_bad subckts (map (visit_above instance ports) vs)) (Some (path_above instance v.path))) (length-map v.nets (net_above instance ports))
    ∙ ap (λ (o : Option (List ℕ)). cond (nat_eq (length v.nets) (length (ports_at subckts v.of))) o (Some (path_above instance v.path))) (bad-above subckts instance ports vs)
    ∙ lifted instance (nat_eq (length v.nets) (length (ports_at subckts v.of))) v.path (first_bad subckts vs)

pub first_some : (f : List ℕ → List ℕ) (o later : Option (List ℕ)) → IsSome o → or_later (option_map f o) later ≡ option_map f o
first_some f None later is = absurd (false≢true is)
first_some f (Some path) later is = refl

pub still_some : (f : List ℕ → List ℕ) (o : Option (List ℕ)) → IsSome o → IsSome (option_map f o)
still_some f None is = absurd (false≢true is)
still_some f (Some path) is = refl

module _ (subckts : List ResolvedSubckt) (f : ℕ → List FlatInstance) (p : ResolvedInstance) (ps : List ResolvedInstance) where
  -- an instance whose subcircuit is there
  bad_some : (k : ℕ) → p.index ≡ Some k
      → first_bad subckts (visits_by subckts f (p ∷ ps)) ≡ cond (nat_eq (length p.nodes) (length (ports_at subckts k))) (or_later (above p (first_bad subckts (f k))) (first_bad subckts (visits_by subckts f ps))) (Some p.name)
  bad_some k some =
      ap (λ (o : Option ℕ). first_bad subckts (visits_in subckts f p o ++ visits_by subckts f ps)) some
      ∙ ap (λ (n : ℕ). cond (nat_eq n (length (ports_at subckts k))) (first_bad subckts (map (visit_above p (ports_at subckts k)) (f k) ++ visits_by subckts f ps)) (Some p.name)) (length-map p.nodes local)
      ∙ ap (λ (o : Option (List ℕ)). cond (nat_eq (length p.nodes) (length (ports_at subckts k))) o (Some p.name))
      (bad-append subckts (map (visit_above p (ports_at subckts k)) (f k)) (visits_by subckts f ps) ∙ ap (λ (o : Option (List ℕ)). or_later o (first_bad subckts (visits_by subckts f ps))) (bad-above subckts p (ports_at subckts k) (f k)))

  bad_good : (k : ℕ) → p.index ≡ Some k → nat_eq (length p.nodes) (length (ports_at subckts k)) ≡ true → (o : Option (List ℕ)) → first_bad subckts (f k) ≡ o
      → first_bad subckts (visits_by subckts f (p ∷ ps)) ≡ or_later (above p o) (first_bad subckts (visits_by subckts f ps))
  bad_good k some good o is =
      bad_some k some
      ∙ ap (λ (b : Bool). cond b (or_later (above p (first_bad subckts (f k))) (first_bad subckts (visits_by subckts f ps))) (Some p.name)) good
      ∙ ap (λ (o : Option (List ℕ)). or_later (above p o) (first_bad subckts (visits_by subckts f ps))) is

  pub bad_inside : (k : ℕ) → p.index ≡ Some k → nat_eq (length p.nodes) (length (ports_at subckts k)) ≡ true → IsSome (first_bad subckts (f k))
      → first_bad subckts (visits_by subckts f (p ∷ ps)) ≡ option_map (path_above p) (first_bad subckts (f k))
  bad_inside k some good is = bad_good k some good (first_bad subckts (f k)) refl ∙ first_some (path_above p) (first_bad subckts (f k)) (first_bad subckts (visits_by subckts f ps)) is

  pub bad_later : (k : ℕ) → p.index ≡ Some k → nat_eq (length p.nodes) (length (ports_at subckts k)) ≡ true → is_some (first_bad subckts (f k)) ≡ false → first_bad subckts (visits_by subckts f (p ∷ ps)) ≡ first_bad subckts (visits_by subckts f ps)
  bad_later k some good is = bad_good k some good None (none_is (first_bad subckts (f k)) (sym is))

-- whether an instance was found says whether there is a bad instance
pub mark_is : (subckts : List ResolvedSubckt) (instances : List ResolvedInstance) (found : Option BadInstance) → MatchOption found (bad_in subckts instances ≡ None) (IsBadInstance subckts instances) → is_some found ≡ is_some (bad_in subckts instances)
mark_is subckts instances None h = sym (ap is_some h)
mark_is subckts instances (Some instance) h = sym h.some

-- below a subcircuit are its instances and all inside them
pub bad_opened : (subckts : List ResolvedSubckt) (index : ℕ) (instances : List ResolvedInstance) → instances ≡ instances_at subckts index → walk_at subckts index ≡ visits_by subckts (walk_at subckts) (instances_at subckts index) → bad_in subckts instances ≡ bad_at subckts index
bad_opened subckts index instances is opens = ap (bad_in subckts) is ∙ sym (ap (first_bad subckts) opens)

further : (path name : List ℕ) (rest : Option (List ℕ)) → option_map (λ r. path ++ r) (option_map (λ r. name ++ 47 ∷ r) rest) ≡ option_map (λ r. ((path ++ name) ++ 47 ∷ []) ++ r) rest
further path name None = refl
further path name (Some rest) = ap (λ (l : List ℕ). Some l) (sym (append_assoc (path ++ name) (47 ∷ []) rest ∙ append_assoc path name (47 ∷ rest)))

-- the path from the top, if there is one, begins with this one and goes on below the subcircuit at the index
pub record GoesOn (subckts : List ResolvedSubckt) (order : List ℕ) (top index : ℕ) (path : List ℕ) : Type 0 where
  pub listed : Contains order index
  pub whole : bad_at subckts top ≡ option_map (λ rest. path ++ rest) (bad_at subckts index)

module _ (subckts : List ResolvedSubckt) (order : List ℕ) (top index : ℕ) (path : List ℕ) (instances : List ResolvedInstance) (u : IsSubcktOrder subckts order) (is : instances ≡ instances_at subckts index) (g : GoesOn subckts order top index path) where
  pub goes_by_parts : bad_at subckts top ≡ option_map (λ rest. path ++ rest) (bad_in subckts instances)
  goes_by_parts =
      g.whole ∙ ap (λ (o : Option (List ℕ)). option_map (λ rest. path ++ rest) o) (sym (bad_opened subckts index instances is (walk_opened subckts order index u g.listed)))

  module _ (name : Bor (List ℕ)) (inside : ℕ) (found : IsBadInstance subckts instances (Inside name inside)) where
    pub goes_shorter : length (walk_at subckts inside) < length (walk_at subckts index)
    goes_shorter = walk_shorter subckts order index inside u g.listed (subst (λ (ps : List ResolvedInstance). Contains (subckt_references ps) inside) is found.refers)

    pub goes_inside : (path' : List ℕ) → path' ≡ (path ++ name.now) ++ 47 ∷ [] → GoesOn subckts order top inside path'
    goes_inside path' longer = record {
      listed = listed_below subckts order index inside u g.listed (subst (λ (ps : List ResolvedInstance). Contains (subckt_references ps) inside) is found.refers);
      whole = goes_by_parts ∙ ap (λ (o : Option (List ℕ)). option_map (λ rest. path ++ rest) o) found.path ∙ further path name.now (bad_at subckts inside)
          ∙ ap (λ (p : List ℕ). option_map (λ rest. p ++ rest) (bad_at subckts inside)) (sym longer);
    }
