-- The lines at one column more.
use Rattle.std.proofs.Common.{◌≡◌, ◌++◌, ℕ, ap, ◌∙◌, arith}
use Rattle.sram_netlist.specs.InstanceList.{tabulate_lists}
use Rattle.port_lists.proofs.TabulateLaws.{grown_by_list}
use Rattle.port_data.specs.Pins.{column_lines}
use Rattle.port_data.proofs.top.add_column_lines.Goals as goal

pub loop-column-preserved : goal.loop-column-preserved
loop-column-preserved c = grown_by_list _ _ _ c.loop-column.column (column_lines c.args.columns.now c.args.ends) c.loop-column.invariant c.in_ok-add_lines.ensures

pub returns : goal.returns
returns c =
    let far : c.loop-column.column ≡ c.args.columns.now.count = omega arith in
    c.loop-column.invariant ∙ ap (λ (k : ℕ). c.args.pins.now.items ++ tabulate_lists k (column_lines c.args.columns.now c.args.ends)) far
