-- Each step of the search enters a node that it has not seen, closes a cycle, or places the node that it is at.
use Rattle.std.proofs.Common.{◌≡◌, ◌<◌, List, [], ◌∷◌, ◌++◌, length, get_or, reverse, sym, ap, subst, ◌∙◌, arith, rules}
use Rattle.std.proofs.lemmas.List.{get_or_default, nil_from_length}
use Rattle.or_geom.proofs.ListLaws.{reverse_push}
use Rattle.reference_graph.specs.declared.search.Stage.TheVariants.{Unseen, Open}
use Rattle.reference_graph.specs.declared.search.Visit.{Visit}
use Rattle.reference_graph.proofs.PathLaws.{all_within}
use Rattle.reference_graph.proofs.OrderLaws.{acyclic}
use Rattle.reference_graph.proofs.StageLaws.{IsOpen}
use Rattle.reference_graph.proofs.SearchLaws.{IsSearch, search_begins, search_cycle, search_enters, search_leaves, search_ends, enter_lighter, next_entered, next_refers, placed_read, all_read}
use Rattle.reference_graph.proofs.search.order.Goals as goal

pub steps-init : goal.steps-init
steps-init c = rw (c.new-trail.ensures.items, c.new-order.ensures.items) (search_begins c.args.graph.now c.args.start c.in_ok-stages.stages.items c.requires.inside (search rules))

pub next_unplaced-requires-clause-within : goal.next_unplaced-requires-clause-within
next_unplaced-requires-clause-within c =
    let sized : length c.deref.result.now ≡ length c.args.graph.now = ap length c.deref.ensures.value ∙ c.steps.invariant.sized in
    rw sized (all_within c.args.graph.now c.steps.visit.node c.references_of-references.result.now c.requires.within c.references_of-references.ensures)

pub index-requires : goal.index-requires
index-requires c =
    let lt = all_within c.args.graph.now c.steps.visit.node c.references_of-references.result.now c.requires.within c.references_of-references.ensures c.in-Some.place 0 c.in-Some.ensures.within in
    let sized = c.steps.invariant.sized in
    omega arith

pub returns-then-eq-clause-cyclic : goal.returns-then-eq-clause-cyclic
returns-then-eq-clause-cyclic c =
    let lt = all_within c.args.graph.now c.steps.visit.node c.references_of-references.result.now c.requires.within c.references_of-references.ensures c.in-Some.place 0 c.in-Some.ensures.within in
    let inside : get_or c.references_of-references.result.now c.in-Some.place 0 < length c.steps.stages.items = omega (arith, c.steps.invariant.sized) in
    let here : c.index.result.now ≡ Open = search rules in
    search_cycle c.args.graph.now c.args.start c.steps.stages.items c.steps.visit (reverse c.steps.trail.items) c.steps.order.items (get_or c.references_of-references.result.now c.in-Some.place 0) c.steps.invariant
    (next_refers c.args.graph.now c.steps.visit.node c.references_of-references.result.now c.in-Some.place c.references_of-references.ensures c.in-Some.ensures.within)
    (get_or_default c.steps.stages.items (get_or c.references_of-references.result.now c.in-Some.place 0) Unseen c.index.result.now inside ∙ sym c.index.ensures ∙ here)

pub index_mut-requires-in-Some : goal.index_mut-requires-in-Some
index_mut-requires-in-Some c =
    let lt = all_within c.args.graph.now c.steps.visit.node c.references_of-references.result.now c.requires.within c.references_of-references.ensures c.in-Some.place 0 c.in-Some.ensures.within in
    let sized = c.steps.invariant.sized in
    omega arith

pub steps-smaller-in-Some : goal.steps-smaller-in-Some
steps-smaller-in-Some c =
    let lt = all_within c.args.graph.now c.steps.visit.node c.references_of-references.result.now c.requires.within c.references_of-references.ensures c.in-Some.place 0 c.in-Some.ensures.within in
    let inside : get_or c.references_of-references.result.now c.in-Some.place 0 < length c.steps.stages.items = omega (arith, c.steps.invariant.sized) in
    let shut : IsOpen c.steps.stages.items (get_or c.references_of-references.result.now c.in-Some.place 0) → ⊥ = λ o.
    let same : c.index.result.now ≡ Open = c.index.ensures ∙ get_or_default c.steps.stages.items (get_or c.references_of-references.result.now c.in-Some.place 0) c.index.result.now Unseen inside ∙ o in
    let no_way = rw same at c.if-eq.ensures in absurd cc in
    let n = next_entered c.args.graph.now c.steps.visit.node c.steps.stages.items c.deref.result.now c.references_of-references.result.now c.in-Some.place c.requires.within c.references_of-references.ensures c.steps.invariant.sized c.deref.ensures.value c.in-Some.ensures shut in
    enter_lighter c.args.graph.now c.steps.stages.items (get_or c.references_of-references.result.now c.in-Some.place 0) n

pub steps-preserved-in-Some : goal.steps-preserved-in-Some
steps-preserved-in-Some c =
    let lt = all_within c.args.graph.now c.steps.visit.node c.references_of-references.result.now c.requires.within c.references_of-references.ensures c.in-Some.place 0 c.in-Some.ensures.within in
    let inside : get_or c.references_of-references.result.now c.in-Some.place 0 < length c.steps.stages.items = omega (arith, c.steps.invariant.sized) in
    let shut : IsOpen c.steps.stages.items (get_or c.references_of-references.result.now c.in-Some.place 0) → ⊥ = λ o.
    let same : c.index.result.now ≡ Open = c.index.ensures ∙ get_or_default c.steps.stages.items (get_or c.references_of-references.result.now c.in-Some.place 0) c.index.result.now Unseen inside ∙ o in
    let no_way = rw same at c.if-eq.ensures in absurd cc in
    let n = next_entered c.args.graph.now c.steps.visit.node c.steps.stages.items c.deref.result.now c.references_of-references.result.now c.in-Some.place c.requires.within c.references_of-references.ensures c.steps.invariant.sized c.deref.ensures.value c.in-Some.ensures shut in
    rw (c.in_ok-push.ensures.items, reverse_push)
    (search_enters c.args.graph.now c.args.start c.steps.stages.items c.steps.visit (reverse c.steps.trail.items) c.steps.order.items c.in-Some.place (get_or c.references_of-references.result.now c.in-Some.place 0) c.steps.invariant n
    (next_refers c.args.graph.now c.steps.visit.node c.references_of-references.result.now c.in-Some.place c.references_of-references.ensures c.in-Some.ensures.within)
    (placed_read c.args.graph.now c.steps.visit.node c.steps.stages.items c.deref.result.now c.references_of-references.result.now c.in-Some.place c.references_of-references.ensures c.deref.ensures.value c.in-Some.ensures.before))

pub returns-in_default-pop-clause-order : goal.returns-in_default-pop-clause-order
returns-in_default-pop-clause-order c =
    let none = nil_from_length c.steps.trail.items (omega (arith, c.in_default-pop.ensures.cases)) in
    rw c.in_ok-push-2.ensures.items
    (search_ends c.args.graph.now c.args.start c.steps.stages.items c.steps.visit c.steps.order.items c.requires.within c.requires.inside
    (subst (λ (vs : List Visit). IsSearch c.args.graph.now c.args.start c.steps.stages.items c.steps.visit (reverse vs) c.steps.order.items) none c.steps.invariant)
    (all_read c.args.graph.now c.steps.visit.node c.steps.stages.items c.deref.result.now c.references_of-references.result.now c.references_of-references.ensures c.deref.ensures.value c.in_default.ensures))

pub returns-in_default-pop-clause-acyclic : goal.returns-in_default-pop-clause-acyclic
returns-in_default-pop-clause-acyclic c =
    let none = nil_from_length c.steps.trail.items (omega (arith, c.in_default-pop.ensures.cases)) in
    acyclic c.args.graph.now c.args.start (c.steps.order.items ++ c.steps.visit.node ∷ [])
    (search_ends c.args.graph.now c.args.start c.steps.stages.items c.steps.visit c.steps.order.items c.requires.within c.requires.inside
    (subst (λ (vs : List Visit). IsSearch c.args.graph.now c.args.start c.steps.stages.items c.steps.visit (reverse vs) c.steps.order.items) none c.steps.invariant)
    (all_read c.args.graph.now c.steps.visit.node c.steps.stages.items c.deref.result.now c.references_of-references.result.now c.references_of-references.ensures c.deref.ensures.value c.in_default.ensures))

pub steps-preserved : goal.steps-preserved
steps-preserved c =
    let popped : reverse c.steps.trail.items ≡ c.in-Some-pop.below ∷ reverse c.pop.new.self.items = ap reverse c.in-Some-pop.ensures.items ∙ reverse_push c.pop.new.self.items c.in-Some-pop.below in
    rw c.in_ok-push-2.ensures.items
    (search_leaves c.args.graph.now c.args.start c.steps.stages.items c.steps.visit c.in-Some-pop.below (reverse c.pop.new.self.items) c.steps.order.items c.requires.within c.requires.inside
    (subst (λ (vs : List Visit). IsSearch c.args.graph.now c.args.start c.steps.stages.items c.steps.visit vs c.steps.order.items) popped c.steps.invariant)
    (all_read c.args.graph.now c.steps.visit.node c.steps.stages.items c.deref.result.now c.references_of-references.result.now c.references_of-references.ensures c.deref.ensures.value c.in_default.ensures))
