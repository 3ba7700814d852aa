-- What channels are read as.
use Rattle.std.specs.Prelude.{◌<◌, List, length, Contains}
use Rattle.tech_rules.specs.declared.tech.Device.{Device}
use Rattle.drawn_devices.specs.declared.drawn.DeviceChannel.{DeviceChannel}
use Rattle.drawn_devices.specs.declared.drawn.NetName.{NetName}
use Rattle.device_lvs.specs.declared.entries.ChannelEntries.{ChannelEntries}
use Rattle.device_lvs.specs.declared.entries.ChannelEntries.TheVariants.{All, Nameless}
use Rattle.device_lvs.specs.ChannelEntries.{IsNameless, AreEntries, IsFirstChannel, HasNoneOf}

-- each channel's device is one of these
abbrev pub HaveDevices : List Device → List DeviceChannel → Type 0
HaveDevices devices channels = (channel : DeviceChannel) → Contains channels channel → channel.device < length devices

-- the transistors of all, or the first with a terminal whose net has no name
abbrev pub AreReadAs : List Device → List NetName → List DeviceChannel → ChannelEntries → Type 0
AreReadAs devices names channels (All entries) = HasNoneOf (IsNameless names) channels × AreEntries devices names channels entries.items
AreReadAs devices names channels (Nameless least) = IsFirstChannel (IsNameless names) channels least.x least.y
