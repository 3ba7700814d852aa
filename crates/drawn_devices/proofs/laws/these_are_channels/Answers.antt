use Rattle.drawn_devices.proofs.ChannelSetLaws.{these}
use Rattle.drawn_devices.proofs.laws.these_are_channels.Goals as goal

pub returns : goal.returns
returns c = these
