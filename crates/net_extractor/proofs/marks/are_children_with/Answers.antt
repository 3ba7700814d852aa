use Rattle.std.proofs.Common.{◌≡◌, ◌+◌, ◌<◌, ◌≤◌, ℕ, length, get_or, sym, subst, arith, ◌∙◌, ap}
use Rattle.std.specs.Prelude.{slice_get, Some}
use Rattle.std.proofs.lemmas.Option.{slice_get-get_or, same_Some}
use Rattle.shape_bins.specs.declared.node.Node.{Node}
use Rattle.shape_bins.specs.Nodes.{position_at}
use Rattle.shape_bins.proofs.NodeLaws.{node_at, begin_rises}
use Rattle.shape_bins.proofs.PlaceLaws.{all_more}
use Rattle.net_extractor.specs.Marks.{AreWith, IsFirstWith}
use Rattle.net_extractor.specs.Sets.{AreSameSets, AreTogether}
use Rattle.net_extractor.proofs.MarkLaws.{node_of, one_set_kept, with_first, with_kept}
use Rattle.net_extractor.proofs.SetLaws.{alike_on}
use Rattle.net_extractor.proofs.marks.are_children_with.Goals as goal

pub overflow_add-end : goal.overflow_add-end
overflow_add-end c =
    let n = node_of c.args.forest c.args.at c.index-forest-at.result c.requires.sets.forest c.requires.inside in
    omega (arith, n.within, c.requires.few)

pub bounds-marks-next : goal.bounds-marks-next
bounds-marks-next c =
    let n = node_of c.args.forest c.args.at c.index-forest-at.result c.requires.sets.forest c.requires.inside in
    omega (arith, n.within, c.requires.sets.marked.sized, c.loop-next-test.true)

pub first_root-requires-clause-over : goal.first_root-requires-clause-over
first_root-requires-clause-over c =
    let n = node_of c.args.forest c.args.at c.index-forest-at.result c.requires.sets.forest c.requires.inside in
    let lt : c.loop-next.next < length c.args.forest.nodes.now = omega (arith, n.within, c.loop-next-test.true) in
    let m = node_of c.args.forest c.loop-next.next c.index-forest-next.result c.requires.sets.forest lt in
    m.over

pub overflow_add-next-in-loop-next : goal.overflow_add-next-in-loop-next
overflow_add-next-in-loop-next c =
    let n = node_of c.args.forest c.args.at c.index-forest-at.result c.requires.sets.forest c.requires.inside in
    let lt : c.loop-next.next < length c.args.forest.nodes.now = omega (arith, n.within, c.loop-next-test.true) in
    let m = node_of c.args.forest c.loop-next.next c.index-forest-next.result c.requires.sets.forest lt in
    omega (arith, m.within, c.requires.few)

pub loop-next-smaller : goal.loop-next-smaller
loop-next-smaller c =
    let n = node_of c.args.forest c.args.at c.index-forest-at.result c.requires.sets.forest c.requires.inside in
    let lt : c.loop-next.next < length c.args.forest.nodes.now = omega (arith, n.within, c.loop-next-test.true) in
    let m = node_of c.args.forest c.loop-next.next c.index-forest-next.result c.requires.sets.forest lt in
    omega (arith, m.counted, c.loop-next-test.true)

pub loop-next-preserved : goal.loop-next-preserved
loop-next-preserved c =
    let n = node_of c.args.forest c.args.at c.index-forest-at.result c.requires.sets.forest c.requires.inside in
    let lt : c.loop-next.next < length c.args.forest.nodes.now = omega (arith, n.within, c.loop-next-test.true) in
    let m = node_of c.args.forest c.loop-next.next c.index-forest-next.result c.requires.sets.forest lt in
    let places = c.args.forest.places.now in
    let top = c.args.top in
    let new = c.first_root.new.above in
    let node : Node = get_or c.args.forest.nodes.now c.loop-next.next c.index-forest-next.result in
    let there : slice_get c.args.forest.nodes.now c.loop-next.next ≡ Some node = slice_get-get_or c.args.forest.nodes.now c.loop-next.next c.index-forest-next.result lt in
    let first : ℕ = position_at (length c.args.forest.shapes.now) c.args.forest.nodes.now (c.args.at + 1) in
    let alike : AreSameSets c.args.above.now new = alike_on c.args.above.now c.loop-next.above new c.loop-next.invariant.alike c.first_root.ensures.alike in
    let same : c.in-Some.root ≡ top = omega (arith, c.if-root-top.false) in
    let head : IsFirstWith c.args.forest node new top = subst (IsFirstWith c.args.forest node new) same c.in-Some.ensures.first in
    record {
      beyond = omega (arith, c.loop-next.invariant.beyond);
      alike = alike;
      with_top = subst (AreWith places top new first) (sym m.behind)
          (all_more (λ place. AreTogether new place top) places first node.first node.end
          (subst (AreWith places top new first) m.begins (with_kept places c.loop-next.above new top first _ c.first_root.ensures.alike.kept c.loop-next.invariant.with_top))
          (with_first c.args.forest node new top (one_set_kept places c.args.above.now new node.first node.end alike.kept (c.requires.sets.marked.each c.loop-next.next c.if-not-marks-next.false node there)) head));
    }

pub returns-clause-with_top : goal.returns-clause-with_top
returns-clause-with_top c = λ yes node is many.
    let shapes = c.args.forest.shapes.now in
    let places = c.args.forest.places.now in
    let nodes = c.args.forest.nodes.now in
    let n = node_at shapes places (length shapes) nodes c.args.at node c.requires.sets.forest.trees.each is in
    let same : get_or nodes c.args.at c.index-forest-at.result ≡ node =
    same_Some (get_or nodes c.args.at c.index-forest-at.result) node (sym (slice_get-get_or nodes c.args.at c.index-forest-at.result c.requires.inside) ∙ is) in
    let size = ap (λ (m : Node). m.size) same in
    let past : (c.args.at + node.size) ≤ c.loop-next.next = omega (arith, size, c.loop-next-test.false) in
    let rise = begin_rises shapes places (length shapes) nodes (c.args.at + node.size) c.loop-next.next c.requires.sets.forest.trees.each past in
    let inner = n.inner many in
    λ at place above below there. c.loop-next.invariant.with_top at place (omega (arith, inner, above)) (omega (arith, n.behind, rise, below)) there
