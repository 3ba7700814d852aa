-- The walk of a subcircuit is put together from the walks of those that it refers to.
use Rattle.std.proofs.Common.{◌≡◌, inl, inr, ℕ, zero, suc, ◌<◌, ◌≤◌, List, [], ◌∷◌, ◌++◌, length, map, get_or, Option, None, Some, refl, sym, ap, subst, ◌∙◌, arith}
use Rattle.std.specs.Prelude.{Contains}
use Rattle.std.proofs.lemmas.List.{length-map, length-append}
use Rattle.std.specs.List.{cons_option}
use Rattle.or_geom.proofs.ListLaws.{contains_none, contains_cases, contains_first, contains_option}
use Rattle.reference_graph.specs.BottomUp.{IsBottomUp}
use Rattle.spice_netlist.specs.declared.resolved.ResolvedSubckt.{ResolvedSubckt}
use Rattle.spice_netlist.specs.declared.resolved.ResolvedInstance.{ResolvedInstance}
use Rattle.spice_netlist.specs.Resolved.{instances_at, ports_at, subckt_references, graph}
use Rattle.spice_netlist.specs.Walk.{local, FlatInstance, visit_above, visits_in, visits_by, visits, walk_at}

-- what a subcircuit refers to are the indices of its instances
pub refers_references : (subckts : List ResolvedSubckt) (node : ℕ) → get_or (graph subckts) node [] ≡ subckt_references (instances_at subckts node)
refers_references [] zero = refl
refers_references [] (suc node) = refl
refers_references (b ∷ subckts) zero = refl
refers_references (b ∷ subckts) (suc node) = refers_references subckts node

in_same : (subckts : List ResolvedSubckt) (f g : ℕ → List FlatInstance) (instance : ResolvedInstance) (index : Option ℕ) (rest : List ℕ) → ((k : ℕ) → Contains (cons_option index rest) k → f k ≡ g k) → visits_in subckts f instance index ≡ visits_in subckts g instance index
in_same subckts f g instance None rest h = refl
in_same subckts f g instance (Some k) rest h =
    let me : FlatInstance = record { path = instance.name; of = k; nets = map local instance.nodes } in
    ap (λ (vs : List FlatInstance). me ∷ map (visit_above instance (ports_at subckts k)) vs) (h k (contains_first k rest))

-- only what the instances refer to counts
pub visits_same : (subckts : List ResolvedSubckt) (f g : ℕ → List FlatInstance) (instances : List ResolvedInstance) → ((k : ℕ) → Contains (subckt_references instances) k → f k ≡ g k) → visits_by subckts f instances ≡ visits_by subckts g instances
visits_same subckts f g [] h = refl
visits_same subckts f g (p ∷ ps) h =
    let first : visits_in subckts f p p.index ≡ visits_in subckts g p p.index = in_same subckts f g p p.index (subckt_references ps) h in
    let rest : visits_by subckts f ps ≡ visits_by subckts g ps = visits_same subckts f g ps (λ k c. h k (contains_option p.index (subckt_references ps) k c)) in
    ap (λ (vs : List FlatInstance). vs ++ visits_by subckts f ps) first ∙ ap (λ (vs : List FlatInstance). visits_in subckts g p p.index ++ vs) rest

-- below its index in the order a walk has no more levels
stable : (subckts : List ResolvedSubckt) (order : List ℕ) → IsBottomUp (graph subckts) order → (n index : ℕ) → index < n → index < length order → (depth : ℕ) → index < depth
    → visits subckts depth (instances_at subckts (get_or order index 0)) ≡ visits subckts (suc depth) (instances_at subckts (get_or order index 0))
stable subckts order b zero index below lt depth deep = absurd (omega arith)
stable subckts order b (suc n) index below lt zero deep = absurd (omega arith)
stable subckts order b (suc n) index below lt (suc depth) deep =
    visits_same subckts (λ k. visits subckts depth (instances_at subckts k)) (λ k. visits subckts (suc depth) (instances_at subckts k)) (instances_at subckts (get_or order index 0))
    (λ k c.
    let s = b.after index k lt (subst (λ (xs : List ℕ). Contains xs k) (sym (refers_references subckts (get_or order index 0))) c) in
    subst (λ (i : ℕ). visits subckts depth (instances_at subckts i) ≡ visits subckts (suc depth) (instances_at subckts i)) s.is
    (stable subckts order b n s.earlier (omega (arith, s.before)) (omega (arith, s.before)) depth (omega (arith, s.before))))

pub walk_opens : (subckts : List ResolvedSubckt) (order : List ℕ) (index : ℕ) → IsBottomUp (graph subckts) order → length order ≤ length subckts → index < length order
    → walk_at subckts (get_or order index 0) ≡ visits_by subckts (walk_at subckts) (instances_at subckts (get_or order index 0))
walk_opens subckts order index b short lt = stable subckts order b (suc index) index (omega arith) lt (length subckts) (omega arith)

in_longer : (subckts : List ResolvedSubckt) (f : ℕ → List FlatInstance) (instance : ResolvedInstance) (index : Option ℕ) (rest : List ℕ) (others : List FlatInstance) (k : ℕ) → (Contains rest k → length (f k) < length others) → Contains (cons_option index rest) k
    → length (f k) < length (visits_in subckts f instance index ++ others)
in_longer subckts f instance None rest others k h refers = h refers
in_longer subckts f instance (Some p) rest others k h refers =
    let inside = map (visit_above instance (ports_at subckts p)) (f p) in
    let whole = length-append inside others in
    elim (contains_cases p rest k refers) [
      | inl this ↦ let long = length-map (f p) (visit_above instance (ports_at subckts p)) in let same : length (f k) ≡ length (f p) = ap (λ (i : ℕ). length (f i)) this in omega (arith, whole, long, same)
      | inr later ↦ omega (arith, whole, h later)
    ]

-- the walk through instances is longer than that through the subcircuit of one of them
pub walk_longer : (subckts : List ResolvedSubckt) (f : ℕ → List FlatInstance) (instances : List ResolvedInstance) (k : ℕ) → Contains (subckt_references instances) k → length (f k) < length (visits_by subckts f instances)
walk_longer subckts f [] k refers = absurd (contains_none k refers)
walk_longer subckts f (p ∷ ps) k refers = in_longer subckts f p p.index (subckt_references ps) (visits_by subckts f ps) k (walk_longer subckts f ps k) refers
