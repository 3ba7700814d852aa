-- Nodes whose shapes are of one set.
use Rattle.std.proofs.Common.{◌≡◌, inl, inr, ℕ, zero, suc, ◌<◌, Bool, true, false, List, length, get_or, set, replicate, Some, sym, ap, subst, ◌∙◌, arith, get_or-set_same, get_or-set_other}
use Rattle.std.specs.Prelude.{slice_get}
use Rattle.std.proofs.lemmas.Bool.{cases_eq}
use Rattle.std.proofs.lemmas.List.{length-set, length-replicate}
use Rattle.std.proofs.lemmas.Option.{same_Some, slice_get-get_or, slice_get_within}
use Rattle.shape_bins.specs.declared.forest.Forest.{Forest}
use Rattle.shape_bins.specs.declared.node.Node.{Node}
use Rattle.shape_bins.specs.Forest.{IsForest}
use Rattle.shape_bins.specs.Places.{IsListedBetween}
use Rattle.shape_bins.proofs.NodeLaws.{IsNodeAt, node_read}
use Rattle.net_extractor.specs.declared.run.RunShape.{RunShape}
use Rattle.net_extractor.specs.Marks.{AreAllTogether, AreWith, IsNodeOneSet, AreNodeMarks, AreMarkedSets, IsFirstWith, AreRunWith, IsRunWithFirst, IsRunWithNode}
use Rattle.net_extractor.specs.Sets.{Keeps, AreSameSets}
use Rattle.net_extractor.proofs.SetLaws.{further, backward}

-- a node as the code reads it
pub node_of : (forest : Forest) (at : ℕ) (other : Node) → IsForest forest → at < length forest.nodes.now → IsNodeAt forest.shapes.now forest.places.now (length forest.shapes.now) forest.nodes.now at (get_or forest.nodes.now at other)
node_of forest at other trees lt = node_read forest.shapes.now forest.places.now (length forest.shapes.now) forest.nodes.now at other trees.trees.each lt

-- what is of one set stays so
pub one_set_kept : (places old new : List ℕ) (first end : ℕ) → Keeps old new → AreAllTogether places old first end → AreAllTogether places new first end
one_set_kept places old new first end kept one a b at_a at_b = kept.keeps a b (one a b at_a at_b)

pub with_kept : (places old new : List ℕ) (top first end : ℕ) → Keeps old new → AreWith places top old first end → AreWith places top new first end
with_kept places old new top first end kept all at place from to there = kept.keeps place top (all at place from to there)

pub marks_kept : (forest : Forest) (old new : List ℕ) (marks : List Bool) → Keeps old new → AreNodeMarks forest old marks → AreNodeMarks forest new marks
marks_kept forest old new marks kept m = record {
  sized = m.sized;
  each = λ at marked node is. one_set_kept forest.places.now old new node.first node.end kept (m.each at marked node is);
}

-- the same after roots were found
pub marked_alike : (forest : Forest) (old new : List ℕ) (marks : List Bool) → AreSameSets old new → AreMarkedSets forest old marks → AreMarkedSets forest new marks
marked_alike forest old new marks alike m = record {
  forest = m.forest;
  sized = alike.sized ∙ m.sized;
  falls = alike.falls;
  marked = marks_kept forest old new marks alike.kept m.marked;
}

-- places that are all together with one are of one set
pub one_set_with : (places above : List ℕ) (top first end : ℕ) → AreWith places top above first end → AreAllTogether places above first end
one_set_with places above top first end all a b at_a at_b =
    further above a top b (all at_a.at a at_a.from at_a.to at_a.there) (backward above b top (all at_b.at b at_b.from at_b.to at_b.there))

-- what stands first of what is listed
first_listed : (places : List ℕ) (first end place : ℕ) → IsListedBetween places first end place → (head : ℕ) × (slice_get places first ≡ Some head) × IsListedBetween places first end head
first_listed places first end place l =
    let lt = slice_get_within places l.at place l.there in
    let from = l.from in
    let to = l.to in
    let there : slice_get places first ≡ Some (get_or places first 0) = slice_get-get_or places first 0 (omega (arith, lt, from)) in
    (get_or places first 0, there, record { at = first; from = omega arith; to = omega (arith, from, to); there = there })

-- where a node's places are of one set, and the first is with the top, so is each
pub with_first : (forest : Forest) (node : Node) (above : List ℕ) (top : ℕ) → AreAllTogether forest.places.now above node.first node.end → IsFirstWith forest node above top → AreWith forest.places.now top above node.first node.end
with_first forest node above top one head at place from to there =
    let l : IsListedBetween forest.places.now node.first node.end place = record { at = at; from = from; to = to; there = there } in
    let f = first_listed forest.places.now node.first node.end place l in
    further above place f.0 top (one place f.0 l f.2) (head f.0 f.1)

-- where a run's places are together with the first of a node's, they are with each of it
pub run_with_node : (forest : Forest) (run : List RunShape) (above : List ℕ) (at : ℕ) (node : Node) → slice_get forest.nodes.now at ≡ Some node → IsNodeOneSet forest above at → IsRunWithFirst forest node run above → IsRunWithNode forest run above at
run_with_node forest run above at node is one head other own place there h l =
    let same : node ≡ other = same_Some node other (sym is ∙ there) in
    let k : IsListedBetween forest.places.now node.first node.end place = subst (λ (n : Node). IsListedBetween forest.places.now n.first n.end place) (sym same) l in
    let f = first_listed forest.places.now node.first node.end place k in
    further above own.place f.0 place (head own f.0 h f.1) (one node is f.0 place f.2 k)

pub run_first : (forest : Forest) (node : Node) (run : List RunShape) (old new : List ℕ) (top : ℕ) → Keeps old new → IsFirstWith forest node old top → AreRunWith run top new → IsRunWithFirst forest node run new
run_first forest node run old new top kept head all own place h there =
    further new own.place top place (all own h) (backward new place top (kept.keeps place top (head place there)))

pub mark_set : (forest : Forest) (above : List ℕ) (marks : List Bool) (at : ℕ) (mark : Bool) → at < length forest.nodes.now → (mark ≡ true → IsNodeOneSet forest above at) → AreNodeMarks forest above marks → AreNodeMarks forest above (set marks at mark)
mark_set forest above marks at mark lt here m = record {
  sized = length-set marks at mark ∙ m.sized;
  each = λ k marked. elim (cases_eq k at) [
    | inl e ↦
        let sized = m.sized in
        let same : get_or (set marks at mark) at false ≡ mark = get_or-set_same marks at mark false (omega (arith, lt, sized)) in
        subst (IsNodeOneSet forest above) (sym e) (here (sym same ∙ subst (λ (j : ℕ). get_or (set marks at mark) j false ≡ true) e marked))
    | inr ne ↦ m.each k (sym (get_or-set_other marks at k mark false ne) ∙ marked)
  ];
}

-- the node as the code reads it
pub node_one_set : (forest : Forest) (above : List ℕ) (at : ℕ) (other : Node) → at < length forest.nodes.now → AreAllTogether forest.places.now above (get_or forest.nodes.now at other).first (get_or forest.nodes.now at other).end → IsNodeOneSet forest above at
node_one_set forest above at other lt one node is =
    subst (λ (n : Node). AreAllTogether forest.places.now above n.first n.end) (same_Some (get_or forest.nodes.now at other) node (sym (slice_get-get_or forest.nodes.now at other lt) ∙ is)) one

no_mark : (count at : ℕ) → get_or (replicate count false) at false ≡ true → ⊥
no_mark zero at e = absurd cc
no_mark (suc count) zero e = absurd cc
no_mark (suc count) (suc at) e = no_mark count at e

-- no node is marked yet
pub marks_begin : (forest : Forest) (above : List ℕ) (marks : List Bool) (size : ℕ) → size ≡ length forest.nodes.now → marks ≡ replicate size false → AreNodeMarks forest above marks
marks_begin forest above marks size sized none = record {
  sized = ap length none ∙ (length-replicate size false ∙ sized);
  each = λ at marked. absurd (no_mark size at (subst (λ (ms : List Bool). get_or ms at false ≡ true) none marked));
}
