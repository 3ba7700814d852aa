use Rattle.drawn_devices.proofs.ChannelSetLaws.{only_these}
use Rattle.drawn_devices.proofs.laws.channels_are_these.Goals as goal

pub returns : goal.returns
returns c = only_these
