use Rattle.std.proofs.Common.{refl, List, subst}
use Rattle.std.specs.List.{AllByRecursion}
use Rattle.cell_roles.specs.declared.role.Role.{Role}
use Rattle.leaf_tables.specs.Alignment.{IsFirstOdd, SameHeight}
use Rattle.leaf_shapes.proofs.PlaceLaws.{each_more}
use Rattle.leaf_tables.proofs.AlignLaws.{all_each, first_odd}
use Rattle.leaf_tables.proofs.align.first_height.Goals as goal

pub returns-then-not-same_height : goal.returns-then-not-same_height
returns-then-not-same_height c =
    let P = SameHeight c.args.leaves.now in
    subst (λ (pairs : List (Role × Role)). IsFirstOdd P pairs c.pair_at-pair.result) c.height_pairs-all.ensures
    (first_odd P c.height_pairs-all.result.now c.loop-index.index c.pair_at-pair.result c.pair_at-pair.ensures (λ is. let yes = c.if-not-same_height.ensures.1 is in absurd cc) c.loop-index.invariant)

pub loop-index-preserved : goal.loop-index-preserved
loop-index-preserved c =
    each_more (SameHeight c.args.leaves.now) c.height_pairs-all.result.now c.loop-index.index c.pair_at-pair.result c.pair_at-pair.ensures (c.if-not-same_height.ensures.0 refl) c.loop-index.invariant

pub returns : goal.returns
returns c =
    let P = SameHeight c.args.leaves.now in
    subst (λ (pairs : List (Role × Role)). AllByRecursion P pairs) c.height_pairs-all.ensures
    (all_each P c.height_pairs-all.result.now c.loop-index.index c.loop-index-test.false c.loop-index.invariant)
