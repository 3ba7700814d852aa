-- The marks spread until all that was found has been looked at.
use Rattle.std.proofs.Common.{◌≡◌, ◌<◌, ◌≤◌, ◌+◌, ◌∙◌, List, Bool, length, sym, ap, subst, arith, rules}
use Rattle.std.proofs.lemmas.List.{take_at}
use Rattle.reference_graph.proofs.PathLaws.{reaches_within, all_within}
use Rattle.reference_graph.proofs.ReachLaws.{IsSpread, spread_begins, spread_on, spread_ends}
use Rattle.reference_graph.proofs.reach.reached.Goals as goal

pub loop-place-init : goal.loop-place-init
loop-place-init c = rw c.in_ok-found.ensures.items (spread_begins c.args.graph.now c.args.start c.in_ok-marks.marks.items c.requires.inside (search rules))

pub references_of-requires : goal.references_of-requires
references_of-requires c =
    let lt : c.loop-place.place < length c.loop-place.found.items = omega arith in
    reaches_within c.args.graph.now c.args.start c.index-node.result.now c.requires.within c.requires.inside
    (c.loop-place.invariant.sound c.index-node.result.now (c.loop-place.place, lt, sym c.index-node.ensures))

pub mark_references-requires : goal.mark_references-requires
mark_references-requires c =
    let same : length c.deref_mut.result.now ≡ length c.args.graph.now = ap length c.deref_mut.ensures.value ∙ c.loop-place.invariant.sized in
    rw same (all_within c.args.graph.now c.index-node.result.now _ c.requires.within c.references_of.ensures)

pub loop-place-preserved : goal.loop-place-preserved
loop-place-preserved c =
    let lt : c.loop-place.place < length c.loop-place.found.items = omega arith in
    let same : length c.mark_references.new.marks ≡ length c.loop-place.marks.items = omega (arith, ap length c.deref_mut.ensures.value) in
    let sized : length c.mark_references.new.marks ≡ c.loop-place.marks.len = omega arith in
    subst (λ (xs : List Bool). IsSpread c.args.graph.now c.args.start xs c.mark_references.new.found.items (c.loop-place.place + 1)) (sym (take_at c.mark_references.new.marks _ c.loop-place.marks.len sized))
    (spread_on c.args.graph.now c.args.start c.loop-place.marks.items c.loop-place.found.items c.loop-place.place c.index-node.result.now c.references_of.result.now c.mark_references.new.marks c.mark_references.new.found.items
    c.loop-place.invariant lt c.index-node.ensures c.references_of.ensures same (rw c.deref_mut.ensures.value at c.in_ok-mark_references.ensures))

pub returns : goal.returns
returns c =
    let le : length c.loop-place.found.items ≤ c.loop-place.place = omega arith in
    spread_ends c.args.graph.now c.args.start c.loop-place.marks.items c.loop-place.found.items c.loop-place.place c.loop-place.invariant le
