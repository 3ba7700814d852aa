-- A cell more.
use Rattle.std.proofs.Common.{length, ap, arith}
use Rattle.floorplan.specs.LayoutOfKit.{layout_kit}
use Rattle.control_logic.proofs.LogicLaws.{all_added, few_added, few_roles}
use Rattle.control_logic.proofs.row.row_width.Goals as goal

pub returns-clause-is : goal.returns-clause-is
returns-clause-is c = λ plan row. all_added plan (layout_kit c.args.kit.now) c.args.row.now.roles.items c.loop-role.role-index _ c.loop-role.invariant (let end = c.loop-role-test.false in let same = ap length c.as_slice-role-items.ensures.value in omega (arith, end, same)) row.roles

pub overflow_add-width : goal.overflow_add-width
overflow_add-width c =
    let row = c.requires.row in
    let small = few_roles row.0 row.1 _ row.2.roles in
    let few = few_added _ _ _ _ c.loop-role.invariant small in
    let wide = c.leaf_width-width.ensures.few in
    omega (arith, few, wide)

pub returns-clause-few : goal.returns-clause-few
returns-clause-few c = let row = c.requires.row in few_added _ _ _ _ c.loop-role.invariant (few_roles row.0 row.1 _ row.2.roles)
