use Rattle.std.proofs.Common.{◌≡◌, ◌++◌}
use Rattle.sram_netlist.specs.InstanceList.{tabulate}
use Rattle.sram_plan.specs.PlanNumbers.{organization}
use Rattle.sram_deck.specs.Deck.{top_bank}
use Rattle.sram_macro.proofs.top_subckt.add_banks.Given as goal

abbrev pub invariant-loop-bank : goal.invariant-loop-bank
invariant-loop-bank l = l.instances.items ≡ l.fn.instances.items ++ tabulate l.bank (top_bank (organization l.plan) l.name)
