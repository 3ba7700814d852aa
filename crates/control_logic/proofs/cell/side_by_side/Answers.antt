-- A cell more.
use Rattle.std.proofs.Common.{get_or, arith}
use Rattle.std.proofs.lemmas.List.{get_or_default}
use Rattle.cell_roles.specs.declared.role.Role.TheVariants.{Bitcell}
use Rattle.floorplan.specs.LeafSides.{leaf_width}
use Rattle.floorplan.specs.LayoutOfKit.{layout_kit}
use Rattle.control_logic.proofs.LogicLaws.{one_placed, all_placed}
use Rattle.control_logic.proofs.cell.side_by_side.Goals as goal

pub overflow_add-x : goal.overflow_add-x
overflow_add-x c =
    let few = c.requires.few in
    let less = c.loop-cell-test.true in
    let here = c.loop-cell.invariant.few in
    let wide = c.leaf_width.ensures.few in
    omega (arith, few, less, here, wide)

pub loop-cell-preserved : goal.loop-cell-preserved
loop-cell-preserved c =
    let same = c.requires.roles in
    let less = c.loop-cell-test.true in
    one_placed (leaf_width c.args.kit.now) c.args.gates.now c.args.roles.now _ _ c.loop-cell.cell c.loop-cell.x c.leaf_width.result c.index-gates-cell.result (get_or c.args.roles.now c.loop-cell.cell Bitcell) _ c.loop-cell.invariant same less
    c.index-gates-cell.is (get_or_default c.args.roles.now c.loop-cell.cell _ _ (omega (arith, same, less))) c.in_ok-gate_at.ensures c.in_ok-push.ensures.items c.leaf_width.ensures.is c.leaf_width.ensures.few

pub returns : goal.returns
returns c = λ plan gates roles. all_placed plan (layout_kit c.args.kit.now) c.args.gates.now c.args.roles.now _ c.loop-cell.cell _ c.loop-cell.invariant (let end = c.loop-cell-test.false in omega (arith, end)) gates roles
