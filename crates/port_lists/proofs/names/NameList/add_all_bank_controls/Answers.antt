-- A bank more.
use Rattle.std.proofs.Common.{◌≡◌, ◌++◌, ℕ, ap, ◌∙◌, arith}
use Rattle.sram_netlist.specs.InstanceList.{tabulate_lists}
use Rattle.sram_plan.specs.PlanNumbers.{organization, numbers_of}
use Rattle.sram_deck.specs.Deck.{bank_control_names}
use Rattle.port_lists.proofs.TabulateLaws.{grown_by_list}
use Rattle.port_lists.proofs.NumberLaws.{banks_are}
use Rattle.port_lists.proofs.names.NameList.add_all_bank_controls.Goals as goal

pub loop-bank-preserved : goal.loop-bank-preserved
loop-bank-preserved c = grown_by_list _ _ _ c.loop-bank.bank (bank_control_names (organization c.args.plan.now)) c.loop-bank.invariant c.in_ok-add_bank_controls.ensures

pub returns : goal.returns
returns c =
    let far : c.loop-bank.bank ≡ c.args.plan.now.banks = omega arith in
    c.loop-bank.invariant ∙ ap (λ (n : ℕ). c.args.self.now ++ tabulate_lists n (bank_control_names (organization c.args.plan.now))) (far ∙ banks_are (numbers_of c.args.plan.now) c.requires)
