-- A bank more.
use Rattle.std.proofs.Common.{◌≡◌, ◌++◌, ℕ, map, ap, ◌∙◌, arith}
use Rattle.sram_netlist.specs.InstanceList.{tabulate_lists, bank_cells}
use Rattle.sram_plan.specs.PlanNumbers.{organization, numbers_of}
use Rattle.row_decoder.specs.Gates.{logic_gate}
use Rattle.port_lists.specs.Cells.{cell_in}
use Rattle.port_lists.proofs.TabulateLaws.{grown_mapped}
use Rattle.port_lists.proofs.NumberLaws.{banks_are}
use Rattle.row_decoder.proofs.KindLaws.{bank_kind}
use Rattle.control_logic.proofs.EnableLaws.{bank_gates_are}
use Rattle.control_logic.proofs.enables.add_bank_enables.Goals as goal

pub loop-bank-preserved : goal.loop-bank-preserved
loop-bank-preserved c =
    grown_mapped (logic_gate (organization c.args.plan.now) (cell_in c.args.roles.now)) _ _ _ c.loop-bank.bank bank_cells c.loop-bank.invariant
    (bank_gates_are (organization c.args.plan.now) (cell_in c.args.roles.now) c.loop-bank.bank _ _ _ (bank_kind (organization c.args.plan.now) c.requires.plan.sizes) c.in_ok-add_bank_word_line.ensures c.in_ok-add_bank_sense.ensures)

pub returns : goal.returns
returns c =
    let all : c.loop-bank.bank ≡ c.args.plan.now.banks = omega arith in
    c.loop-bank.invariant ∙ ap (λ (n : ℕ). c.args.row.now.items ++ map (logic_gate (organization c.args.plan.now) (cell_in c.args.roles.now)) (tabulate_lists n bank_cells)) (all ∙ banks_are (numbers_of c.args.plan.now) c.requires)
