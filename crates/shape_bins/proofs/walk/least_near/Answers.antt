use Rattle.std.proofs.Common.{ℕ, length, get_or, subst, arith}
use Rattle.std.specs.Prelude.{None}
use Rattle.shape_bins.specs.Hits.{IsHitFrom}
use Rattle.shape_bins.specs.Least.{IsLeastWith}
use Rattle.shape_bins.specs.Places.{HasBetween}
use Rattle.shape_bins.proofs.NodeLaws.{node_read, from_first, to_behind, to_next, to_inner}
use Rattle.shape_bins.proofs.LeastLaws.{least_begins, least_between, least_no_more, least_enough}
use Rattle.shape_bins.proofs.WalkLaws.{near_none_from, none_before_from, least_all}
use Rattle.shape_bins.proofs.walk.least_near.Goals as goal
use Rattle.shape_bins.proofs.walk.least_near.Goals.{then-node-eq1, else-node-eq1, then-is_at_most-via-then-is_at_most, then-is_at_most-via-else-is_at_most+then-not-is_wanted}

pub loop-at-init : goal.loop-at-init
loop-at-init c = record { least = least_begins _ None (none_before_from c.args.forest.shapes.now c.args.forest.places.now c.args.forest.nodes.now c.args.layer c.args.query c.nodes_of-range.result c.requires c.nodes_of-range.ensures c.args.from) }

pub overflow_add-at : goal.overflow_add-at
overflow_add-at c =
    let n = node_read c.args.forest.shapes.now c.args.forest.places.now (length c.args.forest.shapes.now) c.args.forest.nodes.now c.loop-at.at c.index-forest-at.result c.requires.trees.each (omega (arith, c.loop-at-test.true, c.nodes_of-range.ensures.within)) in
    omega (arith, n.within)

pub loop-at-smaller-then-is_at_most : goal.loop-at-smaller-then-is_at_most
loop-at-smaller-then-is_at_most c =
    let n = node_read c.args.forest.shapes.now c.args.forest.places.now (length c.args.forest.shapes.now) c.args.forest.nodes.now c.loop-at.at c.index-forest-at.result c.requires.trees.each (omega (arith, c.loop-at-test.true, c.nodes_of-range.ensures.within)) in
    omega (arith, n.counted, c.loop-at-test.true)

pub loop-at-preserved-then-is_at_most : goal.loop-at-preserved-then-is_at_most
loop-at-preserved-then-is_at_most c =
    let n = node_read c.args.forest.shapes.now c.args.forest.places.now (length c.args.forest.shapes.now) c.args.forest.nodes.now c.loop-at.at c.index-forest-at.result c.requires.trees.each (omega (arith, c.loop-at-test.true, c.nodes_of-range.ensures.within)) in
    let node = get_or c.args.forest.nodes.now c.loop-at.at c.index-forest-at.result in
    let P : ℕ → Type 0 = IsHitFrom c.args.forest.shapes.now c.args.layer c.args.query c.args.from in
    let F : ℕ → Type 0 = λ k. IsLeastWith None (HasBetween P c.args.forest.places.now 0 k) c.loop-at.found in
    let before = from_first F c.args.forest.shapes.now c.args.forest.places.now (length c.args.forest.shapes.now) c.args.forest.nodes.now c.loop-at.at node n c.loop-at.invariant.least in
    record {
      least = to_behind F c.args.forest.shapes.now c.args.forest.places.now (length c.args.forest.shapes.now) c.args.forest.nodes.now c.loop-at.at node n (elim c.then-is_at_most.branch [
        | then-is_at_most-via-then-is_at_most w ↦ least_enough P c.args.forest.places.now 0 node.first node.end node.least None c.loop-at.found (omega arith) n.over.rises (c.is_at_most.ensures.0 w.if-is_at_most.true) n.over.least before
        | then-is_at_most-via-else-is_at_most+then-not-is_wanted w ↦ least_no_more P c.args.forest.places.now 0 node.first node.end None c.loop-at.found (omega arith) n.over.rises
            (near_none_from c.args.forest.shapes.now c.args.forest.places.now c.args.layer c.args.query c.args.from node n.over (λ near. let yes = w.is_wanted.ensures.1 near in let no = w.if-not-is_wanted.true in absurd cc)) before
      ]);
    }

pub least_of_leaf-found-requires : goal.least_of_leaf-found-requires
least_of_leaf-found-requires c =
    let n = node_read c.args.forest.shapes.now c.args.forest.places.now (length c.args.forest.shapes.now) c.args.forest.nodes.now c.loop-at.at c.index-forest-at.result c.requires.trees.each (omega (arith, c.loop-at-test.true, c.nodes_of-range.ensures.within)) in
    n.over

pub loop-at-preserved : goal.loop-at-preserved
loop-at-preserved c =
    let n = node_read c.args.forest.shapes.now c.args.forest.places.now (length c.args.forest.shapes.now) c.args.forest.nodes.now c.loop-at.at c.index-forest-at.result c.requires.trees.each (omega (arith, c.loop-at-test.true, c.nodes_of-range.ensures.within)) in
    let P : ℕ → Type 0 = IsHitFrom c.args.forest.shapes.now c.args.layer c.args.query c.args.from in
    let F : ℕ → Type 0 = λ k. IsLeastWith None (HasBetween P c.args.forest.places.now 0 k) c.loop-at.found in
    let near = c.is_wanted.ensures.0 c.if-not-is_wanted.false in
    record {
      least = elim c.if-node-eq1.branch [
        | then-node-eq1 w ↦ rw w.found-is (to_next (λ k. IsLeastWith None (HasBetween P c.args.forest.places.now 0 k) w.least_of_leaf-found.result) c.args.forest.shapes.now c.args.forest.places.now (length c.args.forest.shapes.now) c.args.forest.nodes.now c.loop-at.at (get_or c.args.forest.nodes.now c.loop-at.at c.index-forest-at.result) n w.if-node-eq1.true
            (least_between P c.args.forest.places.now 0 _ _ None c.loop-at.found w.least_of_leaf-found.result (omega arith) n.over.rises (from_first F c.args.forest.shapes.now c.args.forest.places.now (length c.args.forest.shapes.now) c.args.forest.nodes.now c.loop-at.at (get_or c.args.forest.nodes.now c.loop-at.at c.index-forest-at.result) n c.loop-at.invariant.least)
            (subst (λ (layer : ℕ). IsLeastWith c.loop-at.found (HasBetween (IsHitFrom c.args.forest.shapes.now layer c.args.query c.args.from) c.args.forest.places.now (get_or c.args.forest.nodes.now c.loop-at.at c.index-forest-at.result).first (get_or c.args.forest.nodes.now c.loop-at.at c.index-forest-at.result).end) w.least_of_leaf-found.result) near.on w.least_of_leaf-found.ensures)))
        | else-node-eq1 w ↦ rw w.found-is (to_inner F c.args.forest.shapes.now c.args.forest.places.now (length c.args.forest.shapes.now) c.args.forest.nodes.now c.loop-at.at (get_or c.args.forest.nodes.now c.loop-at.at c.index-forest-at.result) n w.if-node-eq1.false c.loop-at.invariant.least)
      ];
    }

pub returns : goal.returns
returns c = least_all c.args.forest.shapes.now c.args.forest.places.now c.args.forest.nodes.now c.args.layer c.args.query c.nodes_of-range.result c.requires c.nodes_of-range.ensures c.loop-at.at c.args.from c.loop-at.found c.loop-at-test.false c.loop-at.invariant.least
