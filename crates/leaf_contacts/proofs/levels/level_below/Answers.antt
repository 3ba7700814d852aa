use Rattle.std.proofs.Common.{get_or, subst, sym, arith}
use Rattle.leaf_contacts.proofs.LevelLaws.{LevelSoFar, level_begins, level_ends, level_more, no_stand, outer_at, outer_cell, stand_at_near, stand_there}
use Rattle.leaf_contacts.proofs.levels.level_below.Goals as goal

pub loop-outer-init : goal.loop-outer-init
loop-outer-init c = subst (LevelSoFar c.args.tree.now c.args._depth c.args.level.now 0) (sym c.new-below.ensures.items) (level_begins c.args.tree.now c.args._depth c.args.level.now)

pub add_below-requires-clause-near : goal.add_below-requires-clause-near
add_below-requires-clause-near c =
    let shallow = c.requires.shallow in
    stand_at_near c.args.tree.now c.args._depth (get_or c.args.level.now c.loop-outer.outer-index no_stand) (omega (arith, shallow)) (outer_at c.args.tree.now c.args._depth c.args.level.now c.loop-outer.outer-index c.requires.level c.loop-outer-test.true)

pub add_below-requires-clause-cell : goal.add_below-requires-clause-cell
add_below-requires-clause-cell c =
    outer_cell c.args.tree.now c.args._depth (get_or c.args.level.now c.loop-outer.outer-index no_stand) (outer_at c.args.tree.now c.args._depth c.args.level.now c.loop-outer.outer-index c.requires.level c.loop-outer-test.true)

pub loop-outer-preserved : goal.loop-outer-preserved
loop-outer-preserved c =
    level_more c.args.tree.now c.args._depth c.args.level.now c.loop-outer.outer-index (get_or c.args.level.now c.loop-outer.outer-index no_stand) c.loop-outer.below.items _ (stand_there c.args.level.now c.loop-outer.outer-index c.loop-outer-test.true)
    (outer_at c.args.tree.now c.args._depth c.args.level.now c.loop-outer.outer-index c.requires.level c.loop-outer-test.true) (λ chain name is end. c.in_ok-add_below.ensures chain name is end) c.loop-outer.invariant

pub returns : goal.returns
returns c = level_ends c.args.tree.now c.args._depth c.args.level.now c.loop-outer.outer-index c.loop-outer.below.items c.requires.tree c.requires.level c.loop-outer-test.false c.loop-outer.invariant
