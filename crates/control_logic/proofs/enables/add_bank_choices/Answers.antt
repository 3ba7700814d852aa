-- None where there is one bank; or else the lines of the banks, and their enables.
use Rattle.std.proofs.Common.{◌++◌, ◌≤◌, ℕ, List, length, map, ap, refl, sym, ◌∙◌, arith}
use Rattle.std.proofs.lemmas.List.{append-nil}
use Rattle.sram_netlist.specs.Instances.{LogicCell}
use Rattle.sram_netlist.specs.Names.{line_kind}
use Rattle.sram_plan.specs.PlanNumbers.{organization}
use Rattle.row_decoder.specs.Gates.{logic_gate}
use Rattle.port_lists.specs.Cells.{cell_in}
use Rattle.row_decoder.proofs.KindLaws.{bank_kind, few_groups}
use Rattle.control_logic.proofs.EnableLaws.{no_banks, banks_are_all, low_is, bank_bit_few}
use Rattle.control_logic.proofs.enables.add_bank_choices.Goals as goal

pub returns-then-plan-eq0 : goal.returns-then-plan-eq0
returns-then-plan-eq0 c =
    sym (append-nil c.args.row.now.items)
    ∙ ap (λ (cells : List LogicCell). c.args.row.now.items ++ map (logic_gate (organization c.args.plan.now) (cell_in c.args.roles.now)) cells) (sym (no_banks (organization c.args.plan.now) c.args.plan.now.bank_bits c.if-plan-eq0.true))

pub overflow_sub-lines : goal.overflow_sub-lines
overflow_sub-lines c = let is = c.requires.addr_bits in omega (arith, is)

pub add_lines-requires-clause-low : goal.add_lines-requires-clause-low
add_lines-requires-clause-low c =
    let is = c.requires.addr_bits in
    let groups = few_groups (organization c.args.plan.now).groups (organization c.args.plan.now).groups refl c.requires.plan.groups in
    let few_sizes : length (organization c.args.plan.now).groups ≤ 3 = omega (arith, groups) in
    let few = bank_bit_few (organization c.args.plan.now) c.requires.plan.sizes few_sizes c.requires.plan.choices in
    omega (arith, is, few)

pub add_lines-requires-clause-bits : goal.add_lines-requires-clause-bits
add_lines-requires-clause-bits c = let few = c.requires.plan.banks in omega (arith, few)

pub add_lines-requires-clause-choice : goal.add_lines-requires-clause-choice
add_lines-requires-clause-choice c =
    ap (λ (o : ℕ). line_kind (organization c.args.plan.now) o) (low_is (organization c.args.plan.now) c.args.plan.now.bank_bits c.args.plan.now.addr_bits _ c.requires.addr_bits refl)
    ∙ bank_kind (organization c.args.plan.now) c.requires.plan.sizes

pub returns : goal.returns
returns c =
    banks_are_all (logic_gate (organization c.args.plan.now) (cell_in c.args.roles.now)) (organization c.args.plan.now) c.args.plan.now.bank_bits _ _ _ _ c.if-plan-eq0.false
    (low_is (organization c.args.plan.now) c.args.plan.now.bank_bits c.args.plan.now.addr_bits _ c.requires.addr_bits refl) c.in_ok-add_lines.ensures c.in_ok-add_bank_enables.ensures
