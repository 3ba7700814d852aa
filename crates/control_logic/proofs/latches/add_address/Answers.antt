-- A bit more.
use Rattle.std.proofs.Common.{◌≡◌, ◌++◌, ℕ, map, ap, ◌∙◌, arith}
use Rattle.sram_netlist.specs.InstanceList.{tabulate_lists}
use Rattle.sram_netlist.specs.InstanceList.{address_cells}
use Rattle.sram_netlist.specs.Organization.{addr_bits}
use Rattle.port_lists.proofs.NumberLaws.{bits_are}
use Rattle.sram_plan.specs.PlanNumbers.{organization, numbers_of}
use Rattle.row_decoder.specs.Gates.{logic_gate}
use Rattle.port_lists.specs.Cells.{cell_in}
use Rattle.port_lists.proofs.TabulateLaws.{grown_mapped}
use Rattle.control_logic.proofs.latches.add_address.Goals as goal

pub loop-bit-preserved : goal.loop-bit-preserved
loop-bit-preserved c = grown_mapped (logic_gate (organization c.args.plan.now) (cell_in c.args.roles.now)) _ _ _ c.loop-bit.bit address_cells c.loop-bit.invariant c.in_ok-add_address_bit.ensures

pub returns : goal.returns
returns c =
    let far : c.loop-bit.bit ≡ addr_bits (organization c.args.plan.now) = let all : c.loop-bit.bit ≡ c.args.plan.now.addr_bits = omega arith in all ∙ bits_are (numbers_of c.args.plan.now) c.requires in
    c.loop-bit.invariant ∙ ap (λ (n : ℕ). c.args.row.now.items ++ map (logic_gate (organization c.args.plan.now) (cell_in c.args.roles.now)) (tabulate_lists n address_cells)) far
