-- A column more.
use Rattle.std.proofs.Common.{◌≡◌, ◌≤◌, ◌*◌, ◌∙◌, zero-add, arith}
use Rattle.sram_plan.specs.PlanNumbers.{numbers_of, organization}
use Rattle.macro_layout.specs.Cells.{precharge_at}
use Rattle.floorplan.specs.LayoutOfKit.{layout_kit}
use Rattle.port_lists.proofs.TabulateLaws.{grown_as, all_of}
use Rattle.port_lists.proofs.NumberLaws.{columns_are}
use Rattle.floorplan.proofs.PlaceLaws.{at_same, few_columns}
use Rattle.bitcell_array.proofs.array_cells.add_precharges.Goals as goal

pub loop-column-preserved : goal.loop-column-preserved
loop-column-preserved c =
    grown_as _ _ _ _ c.loop-column.column (precharge_at (organization c.args.plan.now) (layout_kit c.args.kit.now)) c.loop-column.invariant c.in_ok-push.ensures.items
    (at_same _ _ _ _ _ _ c.in_ok-leaf_at.ensures (c.column_x-x.ensures ∙ (zero-add _ ∙ (λ i. c.loop-column.column * c.leaf_width-width.ensures.is i))))

pub returns : goal.returns
returns c = all_of _ _ c.loop-column.column _ (precharge_at (organization c.args.plan.now) (layout_kit c.args.kit.now)) c.loop-column.invariant
    (let far : c.loop-column.column ≡ c.args.plan.now.columns = omega arith in far ∙ columns_are (numbers_of c.args.plan.now) c.requires.plan)

pub column_x-x-requires-clause-column : goal.column_x-x-requires-clause-column
column_x-x-requires-clause-column c = let few : c.args.plan.now.columns ≤ 256 = few_columns (numbers_of c.args.plan.now) c.requires.plan in omega (arith, few)
