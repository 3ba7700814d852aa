use Rattle.std.proofs.Common.{◌≡◌, ◌++◌}
use Rattle.sram_netlist.specs.InstanceList.{tabulate}
use Rattle.bank_layout.specs.BankTaps.{choice_tap}
use Rattle.bank_layout.proofs.taps.add_choice_taps.Given as goal

abbrev pub invariant-loop-choice : goal.invariant-loop-choice
invariant-loop-choice l = l.taps.items ≡ l.fn.taps.items ++ tabulate l.choice (choice_tap l.wire l.low l.first l.tracks)
