use Rattle.std.proofs.Common.{◌≡◌, pos}
use Rattle.sram_netlist.specs.InstanceList.{tabulate}
use Rattle.sram_macro.specs.Signals.{signal_pin}
use Rattle.sram_macro.proofs.signals.signal_pins.Given as goal

abbrev pub invariant-loop-number : goal.invariant-loop-number
invariant-loop-number l = l.pins.items ≡ tabulate l.number (signal_pin l.wire (pos l.low) l.inputs l.names l.track)
