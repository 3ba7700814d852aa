use Rattle.std.proofs.Common.{refl, Bool, List, subst}
use Rattle.std.specs.List.{AllByRecursion}
use Rattle.leaf_tables.specs.Alignment.{IsFirstOdd}
use Rattle.leaf_tables.proofs.AlignLaws.{all_each, first_odd}
use Rattle.leaf_shapes.proofs.PlaceLaws.{each_more}
use Rattle.rom_leaves.specs.declared.side.SharedSide.{SharedSide}
use Rattle.rom_leaves.specs.Shared.{IsShared, cell_with}
use Rattle.rom_leaves.proofs.shared.first_unshared.Goals as goal

pub returns-then-not-is_shared : goal.returns-then-not-is_shared
returns-then-not-is_shared c =
    let P = IsShared c.args.bitcell.now (cell_with c.args.zero.now c.args.one.now) in
    subst (λ (pairs : List (Bool × SharedSide)). IsFirstOdd P pairs c.side_at-pair.result) c.shared_sides-all.ensures
    (first_odd P c.shared_sides-all.result.now c.loop-index.index c.side_at-pair.result c.side_at-pair.ensures (λ is. let yes = c.if-not-is_shared.ensures.1 is in absurd cc) c.loop-index.invariant)

pub loop-index-preserved : goal.loop-index-preserved
loop-index-preserved c =
    each_more (IsShared c.args.bitcell.now (cell_with c.args.zero.now c.args.one.now)) c.shared_sides-all.result.now c.loop-index.index c.side_at-pair.result c.side_at-pair.ensures (c.if-not-is_shared.ensures.0 refl) c.loop-index.invariant

pub returns : goal.returns
returns c =
    let P = IsShared c.args.bitcell.now (cell_with c.args.zero.now c.args.one.now) in
    subst (λ (pairs : List (Bool × SharedSide)). AllByRecursion P pairs) c.shared_sides-all.ensures
    (all_each P c.shared_sides-all.result.now c.loop-index.index c.loop-index-test.false c.loop-index.invariant)
