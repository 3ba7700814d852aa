-- One more.
use Rattle.std.proofs.Common.{◌≡◌, ◌++◌, ℕ, map, ap, ◌∙◌, arith}
use Rattle.sram_netlist.specs.Netlist.{enables_of}
use Rattle.sram_netlist.specs.InstanceList.{tabulate_lists, enable_gates}
use Rattle.sram_plan.specs.PlanNumbers.{organization, numbers_of}
use Rattle.row_decoder.specs.Gates.{logic_gate}
use Rattle.port_lists.specs.Cells.{cell_in}
use Rattle.port_lists.proofs.TabulateLaws.{grown_mapped}
use Rattle.port_lists.proofs.NumberLaws.{banks_are}
use Rattle.control_logic.proofs.enables.add_enables_of_banks.Goals as goal

pub loop-bank-preserved : goal.loop-bank-preserved
loop-bank-preserved c = grown_mapped (logic_gate (organization c.args.plan.now) (cell_in c.args.roles.now)) _ _ _ c.loop-bank.bank (λ bank. tabulate_lists (enables_of (organization c.args.plan.now)) (enable_gates bank)) c.loop-bank.invariant c.in_ok-add_enables_of.ensures

pub returns : goal.returns
returns c =
    let all : c.loop-bank.bank ≡ c.args.plan.now.banks = omega arith in
    c.loop-bank.invariant ∙ ap (λ (n : ℕ). c.args.row.now.items ++ map (logic_gate (organization c.args.plan.now) (cell_in c.args.roles.now)) (tabulate_lists n (λ bank. tabulate_lists (enables_of (organization c.args.plan.now)) (enable_gates bank)))) (all ∙ banks_are (numbers_of c.args.plan.now) c.requires)
