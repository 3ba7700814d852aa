-- The line of a bank.
use Rattle.std.proofs.Common.{◌++◌, List, ℕ, ap, sym, ◌∙◌}
use Rattle.sram_plan.specs.PlanNumbers.{organization}
use Rattle.row_decoder.proofs.KindLaws.{bank_kind}
use Rattle.control_logic.proofs.EnableLaws.{bank_input_is}
use Rattle.control_logic.proofs.enables.add_bank_input.Goals as goal

pub returns-clause-nodes : goal.returns-clause-nodes
returns-clause-nodes c =
    c.in_ok-add.ensures ∙ ap (λ (l : List (List ℕ)). c.args.nodes.now ++ l)
    (sym (bank_input_is (organization c.args.plan.now) c.args.plan.now.bank_bits c.args.bank c.if-plan-eq0.false (bank_kind (organization c.args.plan.now) c.requires.plan.sizes)))
