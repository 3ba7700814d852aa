-- What the transistors of a layout and those of a subcircuit differ in.
use Rattle.std.specs.Prelude.{◌≡◌, ℕ, List}
use Rattle.or_geom.specs.Least.{IsLeast}
use Rattle.tech_rules.specs.declared.tech.Device.{Device}
use Rattle.drawn_devices.specs.declared.drawn.DrawnDevices.{DrawnDevices}
use Rattle.device_entries.specs.declared.entry.DeviceEntry.{DeviceEntry}
use Rattle.device_entries.specs.declared.uneven.Uneven.{Uneven}
use Rattle.device_entries.specs.declared.uneven.Uneven.TheVariants as uneven
use Rattle.device_entries.specs.Counts.{AreEven, IsLeastUneven}
use Rattle.device_lvs.specs.declared.difference.DeviceDiff.{DeviceDiff}
use Rattle.device_lvs.specs.declared.difference.DeviceDiff.TheVariants.{NotBox, Open, Short, Nameless, Absent, Extra}
use Rattle.device_lvs.specs.NetNames.{IsOnTwoNets, IsLeastPair, AreNotSplit, AreNotJoined}
use Rattle.device_lvs.specs.ChannelEntries.{IsNotSound, IsNameless, AreEntries, IsFirstChannel, HasNoneOf}

-- what is compared of a role's cell: what it draws, of a technology's devices, and the transistors of its subcircuit
pub record CellPair : Type 0 where
  pub role : List ℕ
  pub devices : List Device
  pub drawn : DrawnDevices
  pub listed : List DeviceEntry

-- each channel is sound
abbrev pub AreAllSound : CellPair → Type 0
AreAllSound c = HasNoneOf IsNotSound c.drawn.channels

-- and no name is on two nets
pub record AreWhole (c : CellPair) : Type 0 where
  pub sound : AreAllSound c
  pub split : AreNotSplit c.drawn.names

-- and no two names are on one net
pub record AreApartNets (c : CellPair) : Type 0 where
  pub whole : AreWhole c
  pub joined : AreNotJoined c.drawn.names

-- and the net of each terminal has a name
pub record AreComparable (c : CellPair) : Type 0 where
  pub apart : AreApartNets c
  pub named : HasNoneOf (IsNameless c.drawn.names) c.drawn.channels

-- the layout's transistors, and the least entry that it and the subcircuit don't have equally often
pub record IsUnevenIn (c : CellPair) (difference : Uneven) : Type 0 where
  pub comparable : AreComparable c
  pub entries : List DeviceEntry
  pub are : AreEntries c.devices c.drawn.names c.drawn.channels entries
  pub least : IsLeastUneven entries c.listed difference

-- the layout and the subcircuit have each transistor equally often
pub record IsAlike (c : CellPair) : Type 0 where
  pub comparable : AreComparable c
  pub entries : List DeviceEntry
  pub are : AreEntries c.devices c.drawn.names c.drawn.channels entries
  pub even : AreEven entries c.listed

-- The first of these: a channel that isn't sound; a name on two nets; two names on one net; a channel with a terminal that
-- has no name; an entry that the subcircuit has more often, or less often.
abbrev pub IsDifferenceIn : CellPair → DeviceDiff → Type 0
IsDifferenceIn c (NotBox role x y) = (role ≡ c.role) × IsFirstChannel IsNotSound c.drawn.channels x y
IsDifferenceIn c (Open role name) = (role ≡ c.role) × AreAllSound c × IsLeast (IsOnTwoNets c.drawn.names) name
IsDifferenceIn c (Short role first second) = (role ≡ c.role) × AreWhole c × IsLeastPair c.drawn.names first second
IsDifferenceIn c (Nameless role x y) = (role ≡ c.role) × AreApartNets c × IsFirstChannel (IsNameless c.drawn.names) c.drawn.channels x y
IsDifferenceIn c (Absent role model gate low high) = (role ≡ c.role) × IsUnevenIn c (uneven.Absent (record { model = model; gate = gate; low = low; high = high }))
IsDifferenceIn c (Extra role model gate low high) = (role ≡ c.role) × IsUnevenIn c (uneven.Extra (record { model = model; gate = gate; low = low; high = high }))
