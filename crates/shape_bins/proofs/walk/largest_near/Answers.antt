use Rattle.std.proofs.Common.{ℕ, Option, length, subst, sym, arith}
use Rattle.std.specs.Prelude.{IfSome}
use Rattle.shape_bins.specs.declared.forest.IndexedShape.{IndexedShape}
use Rattle.shape_bins.specs.Hits.{IsHitOf}
use Rattle.shape_bins.proofs.NodeLaws.{node_read}
use Rattle.shape_bins.proofs.walk.largest_near.Goals as goal
use Rattle.shape_bins.proofs.walk.largest_near.Goals.{then-node-eq1, else-node-eq1}

pub overflow_add-at : goal.overflow_add-at
overflow_add-at c =
    let n = node_read c.args.forest.shapes.now c.args.forest.places.now (length c.args.forest.shapes.now) c.args.forest.nodes.now c.loop-at.at c.index-forest-at.result c.requires.trees.each (omega (arith, c.loop-at-test.true, c.nodes_of-range.ensures.within)) in
    omega (arith, n.within)

pub loop-at-smaller-then-not-is_wanted : goal.loop-at-smaller-then-not-is_wanted
loop-at-smaller-then-not-is_wanted c =
    let n = node_read c.args.forest.shapes.now c.args.forest.places.now (length c.args.forest.shapes.now) c.args.forest.nodes.now c.loop-at.at c.index-forest-at.result c.requires.trees.each (omega (arith, c.loop-at-test.true, c.nodes_of-range.ensures.within)) in
    omega (arith, n.counted, c.loop-at-test.true)

pub loop-at-preserved-then-not-is_wanted : goal.loop-at-preserved-then-not-is_wanted
loop-at-preserved-then-not-is_wanted c =
    let n = node_read c.args.forest.shapes.now c.args.forest.places.now (length c.args.forest.shapes.now) c.args.forest.nodes.now c.loop-at.at c.index-forest-at.result c.requires.trees.each (omega (arith, c.loop-at-test.true, c.nodes_of-range.ensures.within)) in
    record { hit = c.loop-at.invariant.hit }

pub largest_of_leaf-found-requires : goal.largest_of_leaf-found-requires
largest_of_leaf-found-requires c =
    let n = node_read c.args.forest.shapes.now c.args.forest.places.now (length c.args.forest.shapes.now) c.args.forest.nodes.now c.loop-at.at c.index-forest-at.result c.requires.trees.each (omega (arith, c.loop-at-test.true, c.nodes_of-range.ensures.within)) in
    n.over

pub loop-at-preserved : goal.loop-at-preserved
loop-at-preserved c = record {
  hit = elim c.if-node-eq1.branch [
    | then-node-eq1 w ↦
        let near = c.is_wanted.ensures.0 c.if-not-is_wanted.false in
        let leaf = subst (λ (layer : ℕ). IfSome c.loop-at.found (IsHitOf c.args.forest.shapes.now layer c.args.query) → IfSome w.largest_of_leaf-found.result (IsHitOf c.args.forest.shapes.now layer c.args.query)) near.on w.largest_of_leaf-found.ensures in
        subst (λ (o : Option IndexedShape). IfSome o (IsHitOf c.args.forest.shapes.now c.args.layer c.args.query)) (sym w.found-is) (leaf c.loop-at.invariant.hit)
    | else-node-eq1 w ↦ subst (λ (o : Option IndexedShape). IfSome o (IsHitOf c.args.forest.shapes.now c.args.layer c.args.query)) (sym w.found-is) c.loop-at.invariant.hit
  ];
}
