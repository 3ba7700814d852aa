use Rattle.drawn_devices.proofs.DeviceLaws.{no_channels}
use Rattle.drawn_devices.proofs.devices.channels_of.Goals as goal

pub loop-index-init : goal.loop-index-init
loop-index-init c = no_channels c.args.cell.now _ c.new-channels.ensures
