use Rattle.std.proofs.Common.{ℕ, length, get_or, subst, arith}
use Rattle.shape_bins.specs.Hits.{IsHit}
use Rattle.shape_bins.specs.Places.{HasBetween}
use Rattle.shape_bins.proofs.NodeLaws.{node_read, from_first, to_behind, to_next, to_inner}
use Rattle.shape_bins.proofs.PlaceLaws.{none_more}
use Rattle.shape_bins.proofs.WalkLaws.{near_none, none_before, hit_before}
use Rattle.shape_bins.proofs.walk.some_near.Goals as goal
use Rattle.shape_bins.proofs.walk.some_near.Goals.{then-node-eq1+in_default, else-node-eq1}

pub loop-at-init : goal.loop-at-init
loop-at-init c = record { none = none_before c.args.forest.shapes.now c.args.forest.places.now c.args.forest.nodes.now c.args.layer c.args.query c.nodes_of-range.result c.requires c.nodes_of-range.ensures }

pub overflow_add-at : goal.overflow_add-at
overflow_add-at c =
    let n = node_read c.args.forest.shapes.now c.args.forest.places.now (length c.args.forest.shapes.now) c.args.forest.nodes.now c.loop-at.at c.index-forest-at.result c.requires.trees.each (omega (arith, c.loop-at-test.true, c.nodes_of-range.ensures.within)) in
    omega (arith, n.within)

pub loop-at-smaller-then-not-is_wanted : goal.loop-at-smaller-then-not-is_wanted
loop-at-smaller-then-not-is_wanted c =
    let n = node_read c.args.forest.shapes.now c.args.forest.places.now (length c.args.forest.shapes.now) c.args.forest.nodes.now c.loop-at.at c.index-forest-at.result c.requires.trees.each (omega (arith, c.loop-at-test.true, c.nodes_of-range.ensures.within)) in
    omega (arith, n.counted, c.loop-at-test.true)

pub loop-at-preserved-then-not-is_wanted : goal.loop-at-preserved-then-not-is_wanted
loop-at-preserved-then-not-is_wanted c =
    let n = node_read c.args.forest.shapes.now c.args.forest.places.now (length c.args.forest.shapes.now) c.args.forest.nodes.now c.loop-at.at c.index-forest-at.result c.requires.trees.each (omega (arith, c.loop-at-test.true, c.nodes_of-range.ensures.within)) in
    let P : ℕ → Type 0 = IsHit c.args.forest.shapes.now c.args.layer c.args.query in
    let F : ℕ → Type 0 = λ k. (place : ℕ) → HasBetween P c.args.forest.places.now 0 k place → ⊥ in
    record {
      none = to_behind F c.args.forest.shapes.now c.args.forest.places.now (length c.args.forest.shapes.now) c.args.forest.nodes.now c.loop-at.at (get_or c.args.forest.nodes.now c.loop-at.at c.index-forest-at.result) n (none_more P c.args.forest.places.now 0 _ _ (from_first F c.args.forest.shapes.now c.args.forest.places.now (length c.args.forest.shapes.now) c.args.forest.nodes.now c.loop-at.at (get_or c.args.forest.nodes.now c.loop-at.at c.index-forest-at.result) n c.loop-at.invariant.none)
          (near_none c.args.forest.shapes.now c.args.forest.places.now c.args.layer c.args.query (get_or c.args.forest.nodes.now c.loop-at.at c.index-forest-at.result) n.over (λ near. let yes = c.is_wanted.ensures.1 near in let no = c.if-not-is_wanted.true in absurd cc)));
    }

pub some_of_leaf-requires : goal.some_of_leaf-requires
some_of_leaf-requires c =
    let n = node_read c.args.forest.shapes.now c.args.forest.places.now (length c.args.forest.shapes.now) c.args.forest.nodes.now c.loop-at.at c.index-forest-at.result c.requires.trees.each (omega (arith, c.loop-at-test.true, c.nodes_of-range.ensures.within)) in
    n.over

pub returns-in-Some : goal.returns-in-Some
returns-in-Some c =
    let near = c.is_wanted.ensures.0 c.if-not-is_wanted.false in
    subst (λ (layer : ℕ). IsHit c.args.forest.shapes.now layer c.args.query c.in-Some.place) near.on c.in-Some.ensures

pub loop-at-preserved : goal.loop-at-preserved
loop-at-preserved c =
    let n = node_read c.args.forest.shapes.now c.args.forest.places.now (length c.args.forest.shapes.now) c.args.forest.nodes.now c.loop-at.at c.index-forest-at.result c.requires.trees.each (omega (arith, c.loop-at-test.true, c.nodes_of-range.ensures.within)) in
    let P : ℕ → Type 0 = IsHit c.args.forest.shapes.now c.args.layer c.args.query in
    let F : ℕ → Type 0 = λ k. (place : ℕ) → HasBetween P c.args.forest.places.now 0 k place → ⊥ in
    let near = c.is_wanted.ensures.0 c.if-not-is_wanted.false in
    record {
      none = elim c.if-node-eq1.branch [
        | then-node-eq1+in_default w ↦ to_next F c.args.forest.shapes.now c.args.forest.places.now (length c.args.forest.shapes.now) c.args.forest.nodes.now c.loop-at.at (get_or c.args.forest.nodes.now c.loop-at.at c.index-forest-at.result) n w.if-node-eq1.true
            (none_more P c.args.forest.places.now 0 _ _ (from_first F c.args.forest.shapes.now c.args.forest.places.now (length c.args.forest.shapes.now) c.args.forest.nodes.now c.loop-at.at (get_or c.args.forest.nodes.now c.loop-at.at c.index-forest-at.result) n c.loop-at.invariant.none)
            (subst (λ (layer : ℕ). (place : ℕ) → HasBetween (IsHit c.args.forest.shapes.now layer c.args.query) c.args.forest.places.now (get_or c.args.forest.nodes.now c.loop-at.at c.index-forest-at.result).first (get_or c.args.forest.nodes.now c.loop-at.at c.index-forest-at.result).end place → ⊥) near.on w.in_default.ensures))
        | else-node-eq1 w ↦ to_inner F c.args.forest.shapes.now c.args.forest.places.now (length c.args.forest.shapes.now) c.args.forest.nodes.now c.loop-at.at (get_or c.args.forest.nodes.now c.loop-at.at c.index-forest-at.result) n w.if-node-eq1.false c.loop-at.invariant.none
      ];
    }

pub returns : goal.returns
returns c = λ place above hit. c.loop-at.invariant.none place (hit_before c.args.forest.shapes.now c.args.forest.places.now c.args.forest.nodes.now c.args.layer c.args.query c.nodes_of-range.result c.requires c.nodes_of-range.ensures c.loop-at.at place c.loop-at-test.false hit)
