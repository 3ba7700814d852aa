use Rattle.std.proofs.Common.{List, ap, subst, sym, ◌∙◌, ◌++◌, arith}
use Rattle.leaf_contacts.specs.declared.stand.Stand.{Stand}
use Rattle.leaf_contacts.specs.Stands.{AreStandsAt}
use Rattle.leaf_contacts.proofs.LevelLaws.{levels_end, levels_more, top_level_of}
use Rattle.leaf_contacts.proofs.levels.stands_of.Goals as goal

pub loop-depth-init : goal.loop-depth-init
loop-depth-init c = top_level_of c.args.tree.now c.in_ok-top.top _ _ _ c.new-level.ensures.items c.in_ok-push.ensures.items c.new-stands.ensures.items c.in_ok-top.ensures

pub level_below-requires-clause-level : goal.level_below-requires-clause-level
level_below-requires-clause-level c = subst (AreStandsAt c.args.tree.now c.loop-depth.depth) (sym c.deref.ensures.value) c.loop-depth.invariant.here

pub loop-depth-preserved : goal.loop-depth-preserved
loop-depth-preserved c =
    levels_more c.args.tree.now c.loop-depth.depth c.loop-depth.level.items _ c.loop-depth.stands.items _ (c.in_ok-extend_from_slice.ensures.items ∙ ap (λ (l : List Stand). c.loop-depth.stands.items ++ l) c.deref-in-loop-depth.ensures.value) c.in_ok-below.ensures
    c.loop-depth.invariant

pub returns : goal.returns
returns c =
    let over = c.loop-depth-test.false in
    let within = c.loop-depth.auto.depth-end in
    levels_end c.args.tree.now c.loop-depth.depth c.loop-depth.level.items c.loop-depth.stands.items _ (omega (arith, over, within))
    (c.in_ok-extend_from_slice-2.ensures.items ∙ ap (λ (l : List Stand). c.loop-depth.stands.items ++ l) c.deref-2.ensures.value) c.loop-depth.invariant
