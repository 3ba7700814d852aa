use Rattle.std.proofs.Common.{refl, List, subst}
use Rattle.std.specs.List.{AllByRecursion}
use Rattle.cell_roles.specs.declared.role.Role.{Role}
use Rattle.leaf_tables.specs.Alignment.{IsFirstOdd, SameWidth}
use Rattle.leaf_shapes.proofs.PlaceLaws.{each_more}
use Rattle.leaf_tables.proofs.AlignLaws.{all_each, first_odd}
use Rattle.leaf_tables.proofs.align.first_width.Goals as goal

pub returns-then-not-same_width : goal.returns-then-not-same_width
returns-then-not-same_width c =
    let P = SameWidth c.args.leaves.now in
    subst (λ (pairs : List (Role × Role)). IsFirstOdd P pairs c.pair_at-pair.result) c.width_pairs-all.ensures
    (first_odd P c.width_pairs-all.result.now c.loop-index.index c.pair_at-pair.result c.pair_at-pair.ensures (λ is. let yes = c.if-not-same_width.ensures.1 is in absurd cc) c.loop-index.invariant)

pub loop-index-preserved : goal.loop-index-preserved
loop-index-preserved c =
    each_more (SameWidth c.args.leaves.now) c.width_pairs-all.result.now c.loop-index.index c.pair_at-pair.result c.pair_at-pair.ensures (c.if-not-same_width.ensures.0 refl) c.loop-index.invariant

pub returns : goal.returns
returns c =
    let P = SameWidth c.args.leaves.now in
    subst (λ (pairs : List (Role × Role)). AllByRecursion P pairs) c.width_pairs-all.ensures
    (all_each P c.width_pairs-all.result.now c.loop-index.index c.loop-index-test.false c.loop-index.invariant)
