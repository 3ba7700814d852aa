use Rattle.std.proofs.Common.{◌≡◌, ◌<◌, ℕ, Some}
use Rattle.std.specs.Prelude.{slice_get}
use Rattle.drawn_devices.specs.declared.drawn.DeviceChannel.{DeviceChannel}
use Rattle.device_lvs.specs.ChannelEntries.{IsNotSound}
use Rattle.device_lvs.proofs.entries.first_unsound.Given as goal

abbrev pub invariant-loop-channel : goal.invariant-loop-channel
invariant-loop-channel l = (earlier : ℕ) (other : DeviceChannel) → earlier < l.channel-index → slice_get l.channels earlier ≡ Some other → IsNotSound other → ⊥
