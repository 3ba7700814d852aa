use Rattle.std.proofs.Common.{◌≡◌, ℕ, ◌≤◌}
use Rattle.sram_netlist.specs.InstanceList.{tabulate}
use Rattle.main_channel.specs.Formula.{main_exit}
use Rattle.main_channel.specs.Pins.{AreMainPins}
use Rattle.main_channel.proofs.channel.exits.Given as goal

abbrev pub invariant-loop-net : goal.invariant-loop-net
invariant-loop-net l = record {
  is : l.exits.items ≡ tabulate l.net main_exit;
  main : (nets : ℕ) → l.ports ≤ nets → AreMainPins nets l.exits.items;
}
