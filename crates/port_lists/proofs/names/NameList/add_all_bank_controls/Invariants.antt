use Rattle.std.proofs.Common.{◌≡◌, ◌++◌}
use Rattle.sram_netlist.specs.InstanceList.{tabulate_lists}
use Rattle.sram_plan.specs.PlanNumbers.{organization}
use Rattle.sram_deck.specs.Deck.{bank_control_names}
use Rattle.port_lists.proofs.names.NameList.add_all_bank_controls.Given as goal

abbrev pub invariant-loop-bank : goal.invariant-loop-bank
invariant-loop-bank l = l.self ≡ l.fn.self ++ tabulate_lists l.bank (bank_control_names (organization l.plan))
