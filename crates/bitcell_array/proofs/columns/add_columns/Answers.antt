-- A column more.
use Rattle.std.proofs.Common.{◌≡◌, ◌≤◌, ◌++◌, ℕ, ap, ◌∙◌, arith}
use Rattle.sram_plan.specs.PlanNumbers.{numbers_of}
use Rattle.sram_netlist.specs.InstanceList.{tabulate_lists}
use Rattle.port_lists.proofs.TabulateLaws.{grown_by_list}
use Rattle.port_lists.proofs.NumberLaws.{columns_are}
use Rattle.bitcell_array.specs.Columns.{column_edges}
use Rattle.bitcell_array.proofs.SideLaws.{few_columns}
use Rattle.bitcell_array.proofs.columns.add_columns.Goals as goal

pub column_x-requires-clause-column : goal.column_x-requires-clause-column
column_x-requires-clause-column c = let few : c.args.plan.now.columns ≤ 256 = few_columns (numbers_of c.args.plan.now) c.requires.plan in omega (arith, few)

pub loop-column-preserved : goal.loop-column-preserved
loop-column-preserved c =
    grown_by_list _ _ _ c.loop-column.column (column_edges c.args.from c.args.width c.args.left.now.rect.x1 c.args.right.now.rect.x1) c.loop-column.invariant
    (c.in_ok-add_column.ensures c.args.from c.args.width c.column_x.ensures)

pub returns : goal.returns
returns c =
    let far : c.loop-column.column ≡ c.args.plan.now.columns = omega arith in
    c.loop-column.invariant ∙ ap (λ (n : ℕ). c.args.edges.now.items ++ tabulate_lists n (column_edges c.args.from c.args.width c.args.left.now.rect.x1 c.args.right.now.rect.x1)) (far ∙ columns_are (numbers_of c.args.plan.now) c.requires.plan)
