-- A bit more.
use Rattle.std.proofs.Common.{◌≡◌, ◌++◌, ℕ, map, ap, ◌∙◌, arith}
use Rattle.sram_netlist.specs.InstanceList.{tabulate}
use Rattle.sram_netlist.specs.Instances.{Dm}
use Rattle.sram_plan.specs.PlanNumbers.{organization}
use Rattle.row_decoder.specs.Gates.{logic_gate}
use Rattle.port_lists.specs.Cells.{cell_in}
use Rattle.port_lists.proofs.TabulateLaws.{grown_mapped_one}
use Rattle.control_logic.proofs.latches.add_mask_latches.Goals as goal

pub loop-mask-preserved : goal.loop-mask-preserved
loop-mask-preserved c = grown_mapped_one (logic_gate (organization c.args.plan.now) (cell_in c.args.roles.now)) _ _ _ c.loop-mask.mask Dm c.loop-mask.invariant c.in_ok-add_gate.ensures

pub returns : goal.returns
returns c =
    let far : c.loop-mask.mask ≡ c.args.plan.now.masks = omega arith in
    c.loop-mask.invariant ∙ ap (λ (n : ℕ). c.args.row.now.items ++ map (logic_gate (organization c.args.plan.now) (cell_in c.args.roles.now)) (tabulate n Dm)) far
