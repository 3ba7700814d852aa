use Rattle.std.proofs.Common.{◌≡◌, ◌≤◌, ℕ, length, subst, arith}
use Rattle.shape_bins.specs.Forest.{AreTreesTo}
use Rattle.shape_bins.specs.Leaves.{AreLeafNodes}
use Rattle.shape_bins.proofs.ForestLaws.{added_on, added_len, forest_grows}
use Rattle.shape_bins.proofs.layers.forest_over.Goals as goal

pub leaves_over-requires-clause-on : goal.leaves_over-requires-clause-on
leaves_over-requires-clause-on g c = rw c.deref.ensures.value (added_on c.args.shapes.now c.layer_at-layer.result c.loop-begin.begin c.run_end-end.result c.loop-begin.places.items c.add_order.new.places.items
    c.loop-begin.invariant.forest.sized c.run_end-end.ensures c.in_ok-add_order.ensures)

pub leaves_over-requires-clause-few : goal.leaves_over-requires-clause-few
leaves_over-requires-clause-few g c =
    let sized = added_len c.loop-begin.begin c.run_end-end.result c.loop-begin.places.items c.add_order.new.places.items c.loop-begin.invariant.forest.sized (omega (arith, c.run_end-end.ensures.longer)) c.in_ok-add_order.ensures in
    rw c.deref.ensures.value (omega (arith, sized, c.run_end-end.ensures.within, c.requires.few))

pub loop-begin-preserved : goal.loop-begin-preserved
loop-begin-preserved g c =
    let rise : c.loop-begin.begin ≤ c.run_end-end.result = omega (arith, c.run_end-end.ensures.longer) in
    let sized = added_len c.loop-begin.begin c.run_end-end.result c.loop-begin.places.items c.add_order.new.places.items c.loop-begin.invariant.forest.sized rise c.in_ok-add_order.ensures in
    let leaves : AreLeafNodes c.args.shapes.now c.add_order.new.places.items c.layer_at-layer.result c.loop-begin.begin c.run_end-end.result c.in_ok-leaves.leaves.items =
    subst (λ (k : ℕ). AreLeafNodes c.args.shapes.now c.add_order.new.places.items c.layer_at-layer.result c.loop-begin.begin k c.in_ok-leaves.leaves.items) sized (rw c.deref.ensures.value at c.in_ok-leaves.ensures.over) in
    record {
      forest = forest_grows c.args.shapes.now c.layer_at-layer.result c.loop-begin.begin c.run_end-end.result c.loop-begin.places.items c.add_order.new.places.items c.loop-begin.nodes.items c.in_ok-add_tree.ensures.tree c.add_tree.new.nodes.items
          c.loop-begin.ranges.items c.add_range.new.ranges.items _ c.run_end-end.ensures c.loop-begin.invariant.forest c.in_ok-add_order.ensures
          (c.in_ok-add_tree.ensures.over c.args.shapes.now c.add_order.new.places.items c.layer_at-layer.result c.loop-begin.begin c.run_end-end.result (rw c.deref-in-loop-begin.ensures.value leaves))
          c.in_ok-add_tree.ensures.is (omega (arith, c.len-first.ensures, c.loop-begin.nodes.ok.0)) (omega (arith, c.len.ensures, c.add_tree.new.nodes.ok.0)) c.in_ok-add_range.ensures;
      within = c.run_end-end.ensures.within;
    }

pub returns-clause-forest : goal.returns-clause-forest
returns-clause-forest g c =
    let all : c.loop-begin.begin ≡ length c.args.shapes.now = omega (arith, c.loop-begin.invariant.within, c.loop-begin-test.false) in
    rw c.into_bump_slice.ensures (rw c.into_bump_slice-2.ensures (rw c.into_bump_slice-3.ensures (subst (λ (k : ℕ). AreTreesTo c.args.shapes.now k c.loop-begin.places.items c.loop-begin.nodes.items c.loop-begin.ranges.items) all c.loop-begin.invariant.forest)))
