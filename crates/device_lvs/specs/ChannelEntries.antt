-- The transistors of a layout: what its channels are compared as.
use Rattle.std.specs.Prelude.{◌≡◌, ◌≢◌, ◌<◌, ℕ, ℤ, List, length, Contains, slice_get, Some, None}
use Rattle.tech_rules.specs.declared.tech.Device.{Device}
use Rattle.spice_text.specs.Words.{lower}
use Rattle.drawn_devices.specs.declared.drawn.DeviceChannel.{DeviceChannel}
use Rattle.drawn_devices.specs.declared.drawn.NetName.{NetName}
use Rattle.drawn_devices.specs.declared.drawn.Terminals.{Terminals}
use Rattle.device_entries.specs.declared.entry.DeviceEntry.{DeviceEntry}
use Rattle.device_entries.specs.Entries.{entry_of}
use Rattle.device_lvs.specs.NetNames.{HasName, HasSomeName}

-- the channel is no sound one
abbrev pub IsNotSound : DeviceChannel → Type 0
IsNotSound channel = channel.terminals ≡ None

-- each terminal's net has a name
pub record AreNamed (names : List NetName) (terminals : Terminals) : Type 0 where
  pub gate : HasSomeName names terminals.gate
  pub first : HasSomeName names terminals.first
  pub second : HasSomeName names terminals.second

-- the channel is sound, and the net of one of its terminals has no name
pub record IsNameless (names : List NetName) (channel : DeviceChannel) : Type 0 where
  pub terminals : Terminals
  pub sound : channel.terminals ≡ Some terminals
  pub none : AreNamed names terminals → ⊥

-- the transistor of a device with these terminals: the device's model in lower case, the name of the gate's net, and those
-- of the nets of the two open sides
pub record HasEntry (names : List NetName) (device : Device) (terminals : Terminals) (entry : DeviceEntry) : Type 0 where
  pub gate : List ℕ
  pub first : List ℕ
  pub second : List ℕ
  pub gate_named : HasName names terminals.gate gate
  pub first_named : HasName names terminals.first first
  pub second_named : HasName names terminals.second second
  pub is : entry ≡ entry_of (lower device.model) gate first second

-- the channel is sound, and this is its transistor
pub record IsEntryOf (devices : List Device) (names : List NetName) (channel : DeviceChannel) (entry : DeviceEntry) : Type 0 where
  pub device : Device
  pub there : slice_get devices channel.device ≡ Some device
  pub terminals : Terminals
  pub sound : channel.terminals ≡ Some terminals
  pub has : HasEntry names device terminals entry

-- one for each channel, in order
pub record AreEntries (devices : List Device) (names : List NetName) (channels : List DeviceChannel) (entries : List DeviceEntry) : Type 0 where
  pub as_many : length entries ≡ length channels
  pub each : (place : ℕ) (channel : DeviceChannel) (entry : DeviceEntry) → slice_get channels place ≡ Some channel → slice_get entries place ≡ Some entry → IsEntryOf devices names channel entry

-- the first of the channels that has P, by its least corner
pub record IsFirstChannel (P : DeviceChannel → Type 0) (channels : List DeviceChannel) (x y : ℤ) : Type 0 where
  pub place : ℕ
  pub channel : DeviceChannel
  pub there : slice_get channels place ≡ Some channel
  pub has : P channel
  pub least : channel.least ≡ record { x = x; y = y }
  pub before : (earlier : ℕ) (other : DeviceChannel) → earlier < place → slice_get channels earlier ≡ Some other → P other → ⊥

-- none of the channels has P
abbrev pub HasNoneOf : (DeviceChannel → Type 0) → List DeviceChannel → Type 0
HasNoneOf P channels = (channel : DeviceChannel) → Contains channels channel → P channel → ⊥
