-- A bank more.
use Rattle.std.proofs.Common.{◌≡◌, ◌∙◌, arith}
use Rattle.sram_plan.specs.PlanNumbers.{organization, numbers_of}
use Rattle.sram_deck.specs.Deck.{top_bank}
use Rattle.port_lists.proofs.TabulateLaws.{grown_as, all_of}
use Rattle.port_lists.proofs.NumberLaws.{banks_are}
use Rattle.sram_macro.proofs.top_subckt.add_banks.Goals as goal

pub loop-bank-preserved : goal.loop-bank-preserved
loop-bank-preserved c = grown_as _ _ _ _ c.loop-bank.bank (top_bank (organization c.args.plan.now) c.args.name.now) c.loop-bank.invariant c.in_ok-push.ensures.items c.in_ok-bank_instance.ensures

pub returns : goal.returns
returns c = all_of _ _ c.loop-bank.bank _ (top_bank (organization c.args.plan.now) c.args.name.now) c.loop-bank.invariant (let far : c.loop-bank.bank ≡ c.args.plan.now.banks = omega arith in far ∙ banks_are (numbers_of c.args.plan.now) c.requires.numbers)
