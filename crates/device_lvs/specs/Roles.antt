-- The cells of a technology's roles, as far as their transistors can be compared, and why they can't.
use Rattle.std.specs.Prelude.{◌≡◌, ◌≢◌, ℕ, List, [], Option, Some, None}
use Rattle.std.specs.List.{find}
use Rattle.std.specs.Str.{bytes_eq}
use Rattle.gds_library.specs.declared.library.Structure.{Structure}
use Rattle.netlist.specs.declared.deck.Subckt.{Subckt}
use Rattle.spice_text.specs.Words.{lower}
use Rattle.tech_rules.specs.declared.tech.RoleName.{RoleName}
use Rattle.tech_rules.specs.declared.tech.Tech.{Tech}
use Rattle.cell_hierarchy.specs.declared.fault.FlattenFault.TheVariants as flatten_fault
use Rattle.cell_hierarchy.specs.FlatLists.{AreFlatLists, IsFault}
use Rattle.cell_hierarchy.specs.Plain.{FlatLists}
use Rattle.drawn_devices.specs.Drawn.{AreDrawnDevices}
use Rattle.device_entries.specs.declared.entry.DeviceEntry.{DeviceEntry}
use Rattle.device_entries.specs.Lines.{AreLineEntries, IsFirstBadLine}
use Rattle.device_lvs.specs.declared.fault.DeviceFault.{DeviceFault}
use Rattle.device_lvs.specs.declared.fault.DeviceFault.TheVariants.{NoDevices, Flatten, UnknownSubckt, Nested, BadDevice, Memory}
use Rattle.device_lvs.specs.Difference.{CellPair}

-- a technology, the structures of a library and the subcircuits of a deck
pub record LeafFiles : Type 0 where
  pub tech : Tech
  pub structs : List Structure
  pub subckts : List Subckt

-- the first subcircuit that is named as the cell is, in lower case
abbrev pub subckt_of : List Subckt → RoleName → Option Subckt
subckt_of subckts entry = find (λ (subckt : Subckt). bytes_eq subckt.name (lower entry.cell)) subckts

-- the flat shapes and labels of the role's cell
abbrev pub AreFlatOf : LeafFiles → RoleName → FlatLists → Type 0
AreFlatOf files entry lists = AreFlatLists files.tech.layers files.structs entry.cell lists

abbrev pub IsFlat : LeafFiles → RoleName → Type 0
IsFlat files entry = (lists : FlatLists) × AreFlatOf files entry lists

-- the transistors of the role's subcircuit: it has no instance, and these are those of its M lines
pub record AreListedEntries (subckts : List Subckt) (entry : RoleName) (listed : List DeviceEntry) : Type 0 where
  pub subckt : Subckt
  pub there : subckt_of subckts entry ≡ Some subckt
  pub plain : subckt.instances ≡ []
  pub lines : AreLineEntries subckt.raw listed

-- what is compared of the role: what its cell draws, and the transistors of its subcircuit
pub record IsPairOf (files : LeafFiles) (entry : RoleName) (c : CellPair) : Type 0 where
  pub role : c.role ≡ entry.role
  pub devices : c.devices ≡ files.tech.devices
  pub lists : FlatLists
  pub flat : AreFlatOf files entry lists
  pub drawn : AreDrawnDevices files.tech lists.shapes lists.labels c.drawn
  pub listed : AreListedEntries files.subckts entry c.listed

-- there is no subcircuit of this name
pub record LacksSubckt (subckts : List Subckt) (entry : RoleName) (name : List ℕ) : Type 0 where
  pub named : name ≡ lower entry.cell
  pub none : subckt_of subckts entry ≡ None

-- the subcircuit has an instance
pub record IsNested (subckts : List Subckt) (entry : RoleName) (role : List ℕ) : Type 0 where
  pub named : role ≡ entry.role
  pub subckt : Subckt
  pub there : subckt_of subckts entry ≡ Some subckt
  pub some : subckt.instances ≢ []

-- it has none, and this is its first M line with fewer than six words
pub record HasBadLine (subckts : List Subckt) (entry : RoleName) (role : List ℕ) (line : ℕ) : Type 0 where
  pub named : role ≡ entry.role
  pub subckt : Subckt
  pub there : subckt_of subckts entry ≡ Some subckt
  pub plain : subckt.instances ≡ []
  pub first : IsFirstBadLine subckt.raw line

-- why the role's subcircuit can't be compared, the first of these
abbrev pub IsListFault : List Subckt → RoleName → DeviceFault → Type 0
IsListFault subckts entry NoDevices = ⊥
IsListFault subckts entry (Flatten fault) = ⊥
IsListFault subckts entry (UnknownSubckt name) = LacksSubckt subckts entry name
IsListFault subckts entry (Nested role) = IsNested subckts entry role
IsListFault subckts entry (BadDevice role line) = HasBadLine subckts entry role line
IsListFault subckts entry Memory = Unit {0}

-- Why the role can't be compared, the first of these: its cell has no flat layout, there is no subcircuit, it has an
-- instance, a line isn't whole.
abbrev pub IsFaultOfRole : LeafFiles → RoleName → DeviceFault → Type 0
IsFaultOfRole files entry NoDevices = ⊥
IsFaultOfRole files entry (Flatten fault) = (fault ≢ flatten_fault.Memory) × IsFault files.tech.layers files.structs entry.cell fault
IsFaultOfRole files entry (UnknownSubckt name) = IsFlat files entry × LacksSubckt files.subckts entry name
IsFaultOfRole files entry (Nested role) = IsFlat files entry × IsNested files.subckts entry role
IsFaultOfRole files entry (BadDevice role line) = IsFlat files entry × HasBadLine files.subckts entry role line
IsFaultOfRole files entry Memory = Unit {0}
