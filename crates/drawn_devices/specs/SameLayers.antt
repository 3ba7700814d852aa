-- Devices that have the same layers, and so the same channels.
use Rattle.std.specs.Prelude.{◌≡◌, ◌≢◌, ◌⊎◌, ℕ, ◌<◌, List, [], ◌∷◌, ◌++◌, slice_get, Some}
use Rattle.tech_rules.specs.declared.tech.Device.{Device}
use Rattle.drawn_devices.specs.declared.drawn.DeviceChannel.{DeviceChannel}

pub record HaveSameLayers (device other : Device) : Type 0 where
  pub gate : device.gate ≡ other.gate
  pub active : device.active ≡ other.active
  pub by : device.by ≡ other.by

-- an earlier device has the layers of the one at the index
pub record IsAlikeBefore (devices : List Device) (index earlier : ℕ) : Type 0 where
  pub before : earlier < index
  pub other : Device
  pub there : slice_get devices earlier ≡ Some other
  pub device : Device
  pub here : slice_get devices index ≡ Some device
  pub same : HaveSameLayers other device

-- no earlier device has its layers
abbrev pub HasNoneAlike : List Device → ℕ → Type 0
HasNoneAlike devices index = (earlier : ℕ) → IsAlikeBefore devices index earlier → ⊥

-- the channel as one of the device with this index
abbrev pub with_device : ℕ → DeviceChannel → DeviceChannel
with_device index channel = record { device = index; least = channel.least; terminals = channel.terminals }

-- the channel at this place is one of the earlier device, and is added as one of the other; or it is none, and nothing is added
pub record IsSameAdded (earlier index place : ℕ) (before now : List DeviceChannel) : Type 0 where
  pub channel : DeviceChannel
  pub there : slice_get before place ≡ Some channel
  pub added : ((channel.device ≡ earlier) × (now ≡ before ++ with_device index channel ∷ [])) ⊎ ((channel.device ≢ earlier) × (now ≡ before))
