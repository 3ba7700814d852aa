-- Where paths are shorter than the levels, a level more says nothing more.
use Rattle.std.proofs.Common.{◌≡◌, ℕ, zero, suc, ◌<◌, List, [], ◌∷◌, length, None, refl, sym, subst, arith}
use Rattle.std.specs.Prelude.{Contains}
use Rattle.reference_graph.specs.Reaches.{RefersTo, AreWithin, IsPath, Reaches, IsAcyclic}
use Rattle.reference_graph.specs.BottomUp.{AcyclicPathsAreShort}
use Rattle.reference_graph.proofs.PathLaws.{reaches_within, reaches_over}
use Rattle.spice_netlist.specs.declared.resolved.ResolvedSubckt.{ResolvedSubckt}
use Rattle.spice_netlist.specs.Resolved.{instances_at, graph}
use Rattle.spice_netlist.specs.Walk.{visits_by, visits, walk_at, first_bad}
use Rattle.spice_netlist.specs.Descent.{IsWalkable}
use Rattle.spice_netlist.proofs.ResolvedLaws.{graph_long}
use Rattle.spice_netlist.proofs.WalkLaws.{refers_references, visits_same}

enough : (subckts : List ResolvedSubckt) (depth node : ℕ) → ((path : List ℕ) (to : ℕ) → IsPath (graph subckts) node path to → length path < depth)
    → visits subckts depth (instances_at subckts node) ≡ visits subckts (suc depth) (instances_at subckts node)
enough subckts zero node short = let lt = short [] node refl in absurd (omega arith)
enough subckts (suc depth) node short =
    visits_same subckts (λ k. visits subckts depth (instances_at subckts k)) (λ k. visits subckts (suc depth) (instances_at subckts k)) (instances_at subckts node)
    (λ k c.
    let refers : RefersTo (graph subckts) node k = subst (λ (xs : List ℕ). Contains xs k) (sym (refers_references subckts node)) c in
    enough subckts depth k (λ path to leads. let lt = short (k ∷ path) to (refers, leads) in omega (arith, lt)))

pub whole : AcyclicPathsAreShort → (subckts : List ResolvedSubckt) (index : ℕ) → AreWithin (graph subckts) → index < length (graph subckts) → IsAcyclic (graph subckts) index → walk_at subckts index ≡ visits_by subckts (walk_at subckts) (instances_at subckts index)
whole short subckts index within inside acyclic =
    enough subckts (length subckts) index (λ path to leads. let lt = short (graph subckts) index within inside acyclic path to leads in omega (arith, lt, graph_long subckts))

pub walkable : AcyclicPathsAreShort → (subckts : List ResolvedSubckt) (top : ℕ) → AreWithin (graph subckts) → top < length subckts → IsAcyclic (graph subckts) top → first_bad subckts (walk_at subckts top) ≡ None → IsWalkable subckts top
walkable short subckts top within inside acyclic good =
    let reached = λ (index : ℕ) (r : Reaches (graph subckts) top index). reaches_within (graph subckts) top index within (omega (arith, inside, graph_long subckts)) r in
    record {
      within = λ index r. let lt = reached index r in omega (arith, lt, graph_long subckts);
      whole = λ index r. whole short subckts index within (reached index r) (λ node n itself. acyclic node (reaches_over (graph subckts) top index node r n) itself);
      good = good;
    }
