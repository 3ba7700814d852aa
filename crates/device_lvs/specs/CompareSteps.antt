-- The steps that compare a role's cell with its subcircuit.
use Rattle.std.specs.Prelude.{◌≡◌, ℕ, List, Option, Some, None}
use Rattle.or_geom.specs.Least.{IsLeast}
use Rattle.tech_rules.specs.declared.tech.Device.{Device}
use Rattle.drawn_devices.specs.declared.drawn.DrawnDevices.{DrawnDevices}
use Rattle.drawn_devices.specs.declared.drawn.NetName.{NetName}
use Rattle.device_entries.specs.declared.entry.DeviceEntry.{DeviceEntry}
use Rattle.device_entries.specs.declared.uneven.Uneven.{Uneven}
use Rattle.device_entries.specs.declared.uneven.Uneven.TheVariants as uneven
use Rattle.device_lvs.specs.declared.difference.DeviceDiff.{DeviceDiff}
use Rattle.device_lvs.specs.declared.difference.DeviceDiff.TheVariants.{Open, Short, Absent, Extra}
use Rattle.device_lvs.specs.Difference.{CellPair, IsAlike, IsDifferenceIn}
use Rattle.device_lvs.specs.NetNames.{IsOnTwoNets, IsLeastPair, AreNotSplit, AreNotJoined}

abbrev pub cell_pair : List ℕ → List Device → DrawnDevices → List DeviceEntry → CellPair
cell_pair role devices drawn listed = record { role = role; devices = devices; drawn = drawn; listed = listed }

-- the difference that an entry is
abbrev pub diff_of : List ℕ → Uneven → DeviceDiff
diff_of role (uneven.Absent e) = Absent role e.model e.gate e.low e.high
diff_of role (uneven.Extra e) = Extra role e.model e.gate e.low e.high

-- the first difference of names, or none
abbrev pub IsDifferenceOfNames : List ℕ → List NetName → Option DeviceDiff → Type 0
IsDifferenceOfNames role names None = AreNotSplit names × AreNotJoined names
IsDifferenceOfNames role names (Some (Open named name)) = (named ≡ role) × IsLeast (IsOnTwoNets names) name
IsDifferenceOfNames role names (Some (Short named first second)) = (named ≡ role) × AreNotSplit names × IsLeastPair names first second
IsDifferenceOfNames role names (Some difference) = ⊥

-- there is no difference, or this one
abbrev pub AreComparedAs : CellPair → Option DeviceDiff → Type 0
AreComparedAs c None = IsAlike c
AreComparedAs c (Some difference) = IsDifferenceIn c difference
