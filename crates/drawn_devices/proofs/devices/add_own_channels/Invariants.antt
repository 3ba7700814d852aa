use Rattle.drawn_devices.proofs.DeviceLaws.{AreChannelsTo}
use Rattle.drawn_devices.proofs.devices.add_own_channels.Given as goal

abbrev pub invariant-loop-boxes : goal.invariant-loop-boxes
invariant-loop-boxes l = AreChannelsTo l.cell l.index l.boxes-items l.boxes-index l.out
