-- The steps that compare a role.
use Rattle.std.specs.Prelude.{◌≡◌, ◌≢◌, ℕ, ◌<◌, List, [], slice_get, Option, Some, None}
use Rattle.cell_hierarchy.specs.declared.fault.FlattenFault.{FlattenFault}
use Rattle.cell_hierarchy.specs.declared.fault.FlattenFault.TheVariants as flatten_fault
use Rattle.cell_hierarchy.specs.FlatLists.{IsFault}
use Rattle.netlist.specs.declared.deck.Deck.{Deck}
use Rattle.netlist.specs.declared.deck.Subckt.{Subckt}
use Rattle.gds_library.specs.declared.library.Library.{Library}
use Rattle.gds_library.specs.declared.library.Structure.{Structure}
use Rattle.tech_rules.specs.declared.tech.Layer.{Layer}
use Rattle.tech_rules.specs.declared.tech.RoleName.{RoleName}
use Rattle.tech_rules.specs.declared.tech.Tech.{Tech}
use Rattle.device_entries.specs.declared.entry.DeviceEntry.{DeviceEntry}
use Rattle.device_entries.specs.Lines.{AreLineEntries, IsFirstBadLine}
use Rattle.device_lvs.specs.declared.difference.DeviceDiff.{DeviceDiff}
use Rattle.device_lvs.specs.declared.fault.DeviceFault.{DeviceFault}
use Rattle.device_lvs.specs.declared.fault.DeviceFault.TheVariants as device_fault
use Rattle.device_lvs.specs.Answer.{HasPair, IsRoleAlike, IsRoleDifference, AllBefore}
use Rattle.device_lvs.specs.Roles.{LeafFiles}

-- a fault of flattening; want of memory is one fault, whoever meets it
abbrev pub of_flatten : FlattenFault → DeviceFault
of_flatten flatten_fault.Memory = device_fault.Memory
of_flatten (flatten_fault.UnknownStruct name) = device_fault.Flatten (flatten_fault.UnknownStruct name)
of_flatten (flatten_fault.Cycle name) = device_fault.Flatten (flatten_fault.Cycle name)
of_flatten (flatten_fault.TooDeep depth) = device_fault.Flatten (flatten_fault.TooDeep depth)
of_flatten (flatten_fault.TooMany shapes labels) = device_fault.Flatten (flatten_fault.TooMany shapes labels)
of_flatten (flatten_fault.Far x y) = device_fault.Flatten (flatten_fault.Far x y)

abbrev pub leaf_files : Tech → Library → Deck → LeafFiles
leaf_files tech lib deck = record { tech = tech; structs = lib.structs; subckts = deck.subckts }

-- there is no difference of the role, or this one
abbrev pub IsRoleComparedAs : LeafFiles → RoleName → Option DeviceDiff → Type 0
IsRoleComparedAs files entry None = IsRoleAlike files entry
IsRoleComparedAs files entry (Some difference) = IsRoleDifference files entry difference

-- the roles before the place can be compared, and all are alike or this is their first difference
pub record IsFirstBelow (files : LeafFiles) (bound : ℕ) (difference : DeviceDiff) : Type 0 where
  pub place : ℕ
  pub below : place < bound
  pub entry : RoleName
  pub there : slice_get files.tech.roles place ≡ Some entry
  pub is : IsRoleDifference files entry difference
  pub before : AllBefore files (IsRoleAlike files) place

abbrev pub AreComparedBelow : LeafFiles → ℕ → Option DeviceDiff → Type 0
AreComparedBelow files bound None = AllBefore files (IsRoleAlike files) bound
AreComparedBelow files bound (Some difference) = AllBefore files (HasPair files) bound × IsFirstBelow files bound difference

-- an earlier role has the cell of the role at the place
pub record HasEarlierCell (roles : List RoleName) (place : ℕ) : Type 0 where
  pub earlier : ℕ
  pub before : earlier < place
  pub other : RoleName
  pub there : slice_get roles earlier ≡ Some other
  pub entry : RoleName
  pub here : slice_get roles place ≡ Some entry
  pub cell : other.cell ≡ entry.cell

-- a fault of flattening the cell
abbrev pub IsFlattenFault : List Layer → List Structure → List ℕ → DeviceFault → Type 0
IsFlattenFault layers structs cell (device_fault.Flatten fault) = (fault ≢ flatten_fault.Memory) × IsFault layers structs cell fault
IsFlattenFault layers structs cell device_fault.Memory = Unit {0}
IsFlattenFault layers structs cell device_fault.NoDevices = ⊥
IsFlattenFault layers structs cell (device_fault.UnknownSubckt name) = ⊥
IsFlattenFault layers structs cell (device_fault.Nested role) = ⊥
IsFlattenFault layers structs cell (device_fault.BadDevice role line) = ⊥

-- the transistors of a subcircuit without instances
pub record ArePlainEntries (subckt : Subckt) (entries : List DeviceEntry) : Type 0 where
  pub plain : subckt.instances ≡ []
  pub lines : AreLineEntries subckt.raw entries

-- why a subcircuit's transistors can't be compared
abbrev pub IsPlainFault : List ℕ → Subckt → DeviceFault → Type 0
IsPlainFault named subckt (device_fault.Nested role) = (role ≡ named) × (subckt.instances ≢ [])
IsPlainFault named subckt (device_fault.BadDevice role line) = (role ≡ named) × (subckt.instances ≡ []) × IsFirstBadLine subckt.raw line
IsPlainFault named subckt device_fault.Memory = Unit {0}
IsPlainFault named subckt device_fault.NoDevices = ⊥
IsPlainFault named subckt (device_fault.Flatten fault) = ⊥
IsPlainFault named subckt (device_fault.UnknownSubckt name) = ⊥
