-- A row more.
use Rattle.std.proofs.Common.{◌≡◌, ◌≤◌, ◌∙◌, arith}
use Rattle.sram_plan.specs.PlanNumbers.{numbers_of, organization}
use Rattle.port_lists.specs.Contents.{bit_cells}
use Rattle.macro_layout.specs.Cells.{row_at}
use Rattle.floorplan.specs.LayoutOfKit.{layout_kit}
use Rattle.port_lists.proofs.TabulateLaws.{grown_as, all_of}
use Rattle.port_lists.proofs.NumberLaws.{rows_are}
use Rattle.floorplan.proofs.PlaceLaws.{few_rows}
use Rattle.bitcell_array.proofs.array_cells.add_rows.Goals as goal

pub loop-row-preserved : goal.loop-row-preserved
loop-row-preserved c =
    grown_as _ _ _ _ c.loop-row.row (row_at (layout_kit c.args.kit.now) (bit_cells c.args.kit.now.tech.roles (organization c.args.plan.now) c.args.contents) c.args.name.now) c.loop-row.invariant c.in_ok-push.ensures.items
    (c.in_ok-row_instance.ensures (layout_kit c.args.kit.now) c.args.kit.now.tech.roles c.leaf_height-height.ensures.is)

pub returns : goal.returns
returns c = all_of _ _ c.loop-row.row _ (row_at (layout_kit c.args.kit.now) (bit_cells c.args.kit.now.tech.roles (organization c.args.plan.now) c.args.contents) c.args.name.now) c.loop-row.invariant
    (let far : c.loop-row.row ≡ c.args.plan.now.rows = omega arith in far ∙ rows_are (numbers_of c.args.plan.now) c.requires.plan)

pub row_instance-requires-clause-row : goal.row_instance-requires-clause-row
row_instance-requires-clause-row c = let few : c.args.plan.now.rows ≤ 256 = few_rows (numbers_of c.args.plan.now) c.requires.plan in omega (arith, few)
