-- One list behind another; those of the decoder are two.
use Rattle.std.proofs.Common.{◌++◌, List, append_assoc, ap, ◌∙◌}
use Rattle.row_decoder.specs.declared.gate.LogicGate.{LogicGate}
use Rattle.sram_netlist.specs.Organization.{inputs_of}
use Rattle.sram_netlist.specs.Instances.{Dd, Dm}
use Rattle.sram_netlist.specs.Netlist.{enables_of}
use Rattle.sram_netlist.specs.InstanceList.{tabulate, choice_gates, groups_gates, banks_cells, enable_cells}
use Rattle.sram_plan.specs.PlanNumbers.{organization}
use Rattle.row_decoder.specs.Gates.{logic_gate}
use Rattle.port_lists.specs.Cells.{cell_in}
use Rattle.port_lists.proofs.TabulateLaws.{then_more, the_same}
use Rattle.control_logic.proofs.row.add_gates.Goals as goal

pub returns : goal.returns
returns c =
    let plan = organization c.args.plan.now in
    let g = logic_gate plan (cell_in c.args.roles.now) in
    let choices = choice_gates plan.col_bits in
    let groups = groups_gates plan.groups plan.col_bits in
    let behind = tabulate (inputs_of plan) Dd ++ (tabulate plan.masks Dm ++ (banks_cells plan plan.bank_bits ++ enable_cells plan.bank_bits plan.masks (enables_of plan))) in
    let lines = c.in_ok-append.ensures.items ∙ ap (λ (l : List LogicGate). c.add_address.new.row.items ++ l) c.requires.lines in
    let rest = then_more g _ _ _ (choices ++ groups) behind lines
    (then_more g _ _ _ _ _ c.in_ok-add_data_latches.ensures (then_more g _ _ _ _ _ c.in_ok-add_mask_latches.ensures (then_more g _ _ _ _ _ c.in_ok-add_bank_choices.ensures c.in_ok-add_write_enable_gates.ensures))) in
    then_more g _ _ _ _ _ c.in_ok-add_control.ensures (then_more g _ _ _ _ _ c.in_ok-add_address.ensures (the_same g _ _ ((choices ++ groups) ++ behind) (choices ++ (groups ++ behind)) rest (append_assoc choices groups behind)))
