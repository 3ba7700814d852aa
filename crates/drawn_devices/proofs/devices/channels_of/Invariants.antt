use Rattle.drawn_devices.specs.DrawnChannels.{AreFirstChannels}
use Rattle.drawn_devices.proofs.devices.channels_of.Given as goal

abbrev pub invariant-loop-index : goal.invariant-loop-index
invariant-loop-index l = AreFirstChannels l.cell l.index l.channels
