use Rattle.std.proofs.Common.{◌≡◌}
use Rattle.sram_netlist.specs.InstanceList.{tabulate}
use Rattle.wire_drawing.specs.Drawing.{pitch}
use Rattle.port_data.specs.Pins.{exit_at}
use Rattle.port_data.proofs.exits.exit_pins.Given as goal

abbrev pub invariant-loop-choice : goal.invariant-loop-choice
invariant-loop-choice l = l.pins.items ≡ tabulate l.choice (exit_at l.choices l.drive (pitch l.wire))
