-- None, or those of all columns choices.
use Rattle.std.proofs.Common.{◌++◌, List, map, ap, sym, ◌∙◌}
use Rattle.std.proofs.lemmas.List.{append-nil}
use Rattle.sram_netlist.specs.Instances.{LogicCell}
use Rattle.sram_plan.specs.PlanNumbers.{organization}
use Rattle.row_decoder.specs.Gates.{logic_gate}
use Rattle.port_lists.specs.Cells.{cell_in}
use Rattle.row_decoder.proofs.KindLaws.{column_kind, some_choice_gates, no_choice_gates}
use Rattle.row_decoder.proofs.decoder.add_column_lines.Goals as goal

pub returns-then-plan-eq0 : goal.returns-then-plan-eq0
returns-then-plan-eq0 c =
    sym (append-nil c.args.row.now.items)
    ∙ ap (λ (cells : List LogicCell). c.args.row.now.items ++ map (logic_gate (organization c.args.plan.now) (cell_in c.args.roles.now)) cells) (sym (no_choice_gates c.args.plan.now.col_bits c.if-plan-eq0.true))

pub add_lines-requires-clause-choice : goal.add_lines-requires-clause-choice
add_lines-requires-clause-choice c = column_kind c.args.plan.now.col_bits (organization c.args.plan.now).groups c.if-plan-eq0.false

pub returns : goal.returns
returns c =
    c.in_ok-add_lines.ensures
    ∙ ap (λ (cells : List LogicCell). c.args.row.now.items ++ map (logic_gate (organization c.args.plan.now) (cell_in c.args.roles.now)) cells) (sym (some_choice_gates c.args.plan.now.col_bits c.if-plan-eq0.false))
