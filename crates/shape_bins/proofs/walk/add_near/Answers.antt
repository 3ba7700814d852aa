use Rattle.std.proofs.Common.{ℕ, length, get_or, subst, arith}
use Rattle.or_geom.specs.Adds.{Adds}
use Rattle.or_geom.proofs.AddsLaws.{adds_none}
use Rattle.shape_bins.specs.Hits.{IsHit}
use Rattle.shape_bins.specs.Places.{HasBetween}
use Rattle.shape_bins.proofs.NodeLaws.{node_read, from_first, to_behind, to_next, to_inner}
use Rattle.shape_bins.proofs.PlaceLaws.{adds_between, adds_no_more}
use Rattle.shape_bins.proofs.WalkLaws.{near_none, none_before, adds_all}
use Rattle.shape_bins.proofs.walk.add_near.Goals as goal
use Rattle.shape_bins.proofs.walk.add_near.Goals.{then-node-eq1+in_ok-add_of_leaf, else-node-eq1}

pub loop-at-init : goal.loop-at-init
loop-at-init c = record { adds = adds_none c.args.out.now.items _ (none_before c.args.forest.shapes.now c.args.forest.places.now c.args.forest.nodes.now c.args.layer c.args.query c.nodes_of-range.result c.requires c.nodes_of-range.ensures) }

pub overflow_add-at : goal.overflow_add-at
overflow_add-at c =
    let n = node_read c.args.forest.shapes.now c.args.forest.places.now (length c.args.forest.shapes.now) c.args.forest.nodes.now c.loop-at.at c.index-forest-at.result c.requires.trees.each (omega (arith, c.loop-at-test.true, c.nodes_of-range.ensures.within)) in
    omega (arith, n.within)

pub loop-at-smaller-then-not-is_wanted : goal.loop-at-smaller-then-not-is_wanted
loop-at-smaller-then-not-is_wanted c =
    let n = node_read c.args.forest.shapes.now c.args.forest.places.now (length c.args.forest.shapes.now) c.args.forest.nodes.now c.loop-at.at c.index-forest-at.result c.requires.trees.each (omega (arith, c.loop-at-test.true, c.nodes_of-range.ensures.within)) in
    omega (arith, n.counted, c.loop-at-test.true)

pub loop-at-preserved-then-not-is_wanted : goal.loop-at-preserved-then-not-is_wanted
loop-at-preserved-then-not-is_wanted c =
    let n = node_read c.args.forest.shapes.now c.args.forest.places.now (length c.args.forest.shapes.now) c.args.forest.nodes.now c.loop-at.at c.index-forest-at.result c.requires.trees.each (omega (arith, c.loop-at-test.true, c.nodes_of-range.ensures.within)) in
    let P : ℕ → Type 0 = IsHit c.args.forest.shapes.now c.args.layer c.args.query in
    let F : ℕ → Type 0 = λ k. Adds c.args.out.now.items c.loop-at.out.items (HasBetween P c.args.forest.places.now 0 k) in
    record {
      adds = to_behind F c.args.forest.shapes.now c.args.forest.places.now (length c.args.forest.shapes.now) c.args.forest.nodes.now c.loop-at.at (get_or c.args.forest.nodes.now c.loop-at.at c.index-forest-at.result) n (adds_no_more P c.args.forest.places.now 0 _ _ c.args.out.now.items c.loop-at.out.items (omega arith) n.over.rises
          (near_none c.args.forest.shapes.now c.args.forest.places.now c.args.layer c.args.query (get_or c.args.forest.nodes.now c.loop-at.at c.index-forest-at.result) n.over (λ near. let yes = c.is_wanted.ensures.1 near in let no = c.if-not-is_wanted.true in absurd cc))
          (from_first F c.args.forest.shapes.now c.args.forest.places.now (length c.args.forest.shapes.now) c.args.forest.nodes.now c.loop-at.at (get_or c.args.forest.nodes.now c.loop-at.at c.index-forest-at.result) n c.loop-at.invariant.adds));
    }

pub add_of_leaf-requires : goal.add_of_leaf-requires
add_of_leaf-requires c =
    let n = node_read c.args.forest.shapes.now c.args.forest.places.now (length c.args.forest.shapes.now) c.args.forest.nodes.now c.loop-at.at c.index-forest-at.result c.requires.trees.each (omega (arith, c.loop-at-test.true, c.nodes_of-range.ensures.within)) in
    n.over

pub loop-at-preserved : goal.loop-at-preserved
loop-at-preserved c =
    let n = node_read c.args.forest.shapes.now c.args.forest.places.now (length c.args.forest.shapes.now) c.args.forest.nodes.now c.loop-at.at c.index-forest-at.result c.requires.trees.each (omega (arith, c.loop-at-test.true, c.nodes_of-range.ensures.within)) in
    let P : ℕ → Type 0 = IsHit c.args.forest.shapes.now c.args.layer c.args.query in
    let F : ℕ → Type 0 = λ k. Adds c.args.out.now.items c.loop-at.out.items (HasBetween P c.args.forest.places.now 0 k) in
    let near = c.is_wanted.ensures.0 c.if-not-is_wanted.false in
    record {
      adds = elim c.if-node-eq1.branch [
        | then-node-eq1+in_ok-add_of_leaf w ↦ rw w.out-is (to_next (λ k. Adds c.args.out.now.items w.add_of_leaf.new.out.items (HasBetween P c.args.forest.places.now 0 k)) c.args.forest.shapes.now c.args.forest.places.now (length c.args.forest.shapes.now) c.args.forest.nodes.now c.loop-at.at (get_or c.args.forest.nodes.now c.loop-at.at c.index-forest-at.result) n w.if-node-eq1.true
            (adds_between P c.args.forest.places.now 0 _ _ c.args.out.now.items c.loop-at.out.items w.add_of_leaf.new.out.items (omega arith) n.over.rises (from_first F c.args.forest.shapes.now c.args.forest.places.now (length c.args.forest.shapes.now) c.args.forest.nodes.now c.loop-at.at (get_or c.args.forest.nodes.now c.loop-at.at c.index-forest-at.result) n c.loop-at.invariant.adds)
            (subst (λ (layer : ℕ). Adds c.loop-at.out.items w.add_of_leaf.new.out.items (HasBetween (IsHit c.args.forest.shapes.now layer c.args.query) c.args.forest.places.now (get_or c.args.forest.nodes.now c.loop-at.at c.index-forest-at.result).first (get_or c.args.forest.nodes.now c.loop-at.at c.index-forest-at.result).end)) near.on w.in_ok-add_of_leaf.ensures)))
        | else-node-eq1 w ↦ rw w.out-is (to_inner F c.args.forest.shapes.now c.args.forest.places.now (length c.args.forest.shapes.now) c.args.forest.nodes.now c.loop-at.at (get_or c.args.forest.nodes.now c.loop-at.at c.index-forest-at.result) n w.if-node-eq1.false c.loop-at.invariant.adds)
      ];
    }

pub returns : goal.returns
returns c = adds_all c.args.forest.shapes.now c.args.forest.places.now c.args.forest.nodes.now c.args.layer c.args.query c.nodes_of-range.result c.requires c.nodes_of-range.ensures c.loop-at.at c.args.out.now.items c.loop-at.out.items c.loop-at-test.false c.loop-at.invariant.adds
