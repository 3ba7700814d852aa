-- A line more.
use Rattle.std.proofs.Common.{◌≡◌, ◌++◌, ℕ, map, ap, ◌∙◌, arith}
use Rattle.sram_netlist.specs.Organization.{power_of_two}
use Rattle.sram_netlist.specs.InstanceList.{tabulate_lists, line_gates}
use Rattle.sram_plan.specs.PlanNumbers.{organization}
use Rattle.row_decoder.specs.Gates.{logic_gate}
use Rattle.port_lists.specs.Cells.{cell_in}
use Rattle.port_lists.proofs.TabulateLaws.{grown_mapped}
use Rattle.row_decoder.proofs.lines.add_lines.Goals as goal

pub loop-number-preserved : goal.loop-number-preserved
loop-number-preserved c = grown_mapped (logic_gate (organization c.args.plan.now) (cell_in c.args.roles.now)) _ _ _ c.loop-number.number (line_gates c.args.lines.low c.args.lines.bits) c.loop-number.invariant c.in_ok-add_line.ensures

pub returns : goal.returns
returns c =
    let far : c.loop-number.number ≡ power_of_two c.args.lines.bits = let count = c.lines_of-number-end.ensures.value in omega (arith, count) in
    c.loop-number.invariant ∙ ap (λ (n : ℕ). c.args.row.now.items ++ map (logic_gate (organization c.args.plan.now) (cell_in c.args.roles.now)) (tabulate_lists n (line_gates c.args.lines.low c.args.lines.bits))) far
