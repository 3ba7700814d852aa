use Rattle.asked_pins.proofs.ChannelLaws.{channels_alike}
use Rattle.asked_pins.proofs.channels_ask_for_demanded_pins.Goals as goal

pub returns : goal.returns
returns c = channels_alike
