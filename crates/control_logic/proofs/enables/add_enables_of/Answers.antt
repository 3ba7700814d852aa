-- One more.
use Rattle.std.proofs.Common.{◌≡◌, ◌++◌, ℕ, map, ap, ◌∙◌, arith}
use Rattle.sram_netlist.specs.Netlist.{enables_of}
use Rattle.sram_netlist.specs.InstanceList.{tabulate_lists, enable_gates}
use Rattle.sram_plan.specs.PlanNumbers.{organization}
use Rattle.row_decoder.specs.Gates.{logic_gate}
use Rattle.port_lists.specs.Cells.{cell_in}
use Rattle.port_lists.proofs.TabulateLaws.{grown_mapped}
use Rattle.control_logic.proofs.enables.add_enables_of.Goals as goal

pub loop-mask-preserved : goal.loop-mask-preserved
loop-mask-preserved c = grown_mapped (logic_gate (organization c.args.plan.now) (cell_in c.args.roles.now)) _ _ _ c.loop-mask.mask (enable_gates c.args.bank) c.loop-mask.invariant c.in_ok-add_enable.ensures

pub returns : goal.returns
returns c =
    let all : c.loop-mask.mask ≡ enables_of (organization c.args.plan.now) = let count = c.enables_of-mask-end.ensures in omega (arith, count) in
    c.loop-mask.invariant ∙ ap (λ (n : ℕ). c.args.row.now.items ++ map (logic_gate (organization c.args.plan.now) (cell_in c.args.roles.now)) (tabulate_lists n (enable_gates c.args.bank))) all
