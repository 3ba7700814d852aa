-- What the leaf cell of a role is, and what may be wrong with it.
use Rattle.std.specs.Prelude.{◌≡◌, ◌≢◌, ℕ, ◌<◌, List, length, slice_get, Option, Some, None, option_map}
use Rattle.std.specs.List.{find}
use Rattle.std.specs.Str.{bytes_eq}
use Rattle.cell_roles.specs.declared.role.Role.{Role}
use Rattle.cell_roles.specs.declared.leaf_role.LeafRole.{LeafRole}
use Rattle.cell_roles.specs.declared.leaf_role.LeafRole.TheVariants.{Common}
use Rattle.cell_roles.specs.Roles.{all_roles}
use Rattle.cell_roles.specs.LeafRoles.{pin_role, leaf_role_name, leaf_role_ports}
use Rattle.gds_library.specs.declared.library.Structure.{Structure}
use Rattle.netlist.specs.declared.deck.Subckt.{Subckt}
use Rattle.spice_text.specs.Words.{lower}
use Rattle.tech_rules.specs.declared.tech.RoleName.{RoleName}
use Rattle.tech_rules.specs.declared.tech.Tech.{Tech}
use Rattle.tech_rules.specs.declared.tech.Wire.{Wire}
use Rattle.cell_hierarchy.specs.declared.fault.FlattenFault.{FlattenFault}
use Rattle.cell_hierarchy.specs.declared.fault.FlattenFault.TheVariants as flatten_fault
use Rattle.cell_hierarchy.specs.FlatLists.{AreFlatLists, IsFault}
use Rattle.cell_hierarchy.specs.Plain.{FlatLists}
use Rattle.leaf_shapes.specs.declared.fault.PinFault.{PinFault}
use Rattle.leaf_shapes.specs.declared.fault.PinFault.TheVariants as pin_fault
use Rattle.leaf_shapes.specs.declared.fit.CellSize.{CellSize}
use Rattle.leaf_shapes.specs.Demands.{role_demands}
use Rattle.leaf_shapes.specs.Outline.{IsCellOutline}
use Rattle.leaf_shapes.specs.Pins.{CellDrawing, AreLeafPins, IsPinFault}
use Rattle.leaf_tables.specs.declared.fault.KitFault.{KitFault}
use Rattle.leaf_tables.specs.declared.fault.KitFault.TheVariants as kit_fault
use Rattle.leaf_tables.specs.declared.kit.Leaf.{Leaf}

-- what leaf cells are read from: a technology, what wires are drawn with, the structures of a library, the subcircuits of
-- a deck
pub record LeafSource : Type 0 where
  pub tech : Tech
  pub wire : Wire
  pub structs : List Structure
  pub subckts : List Subckt

-- the name of the cell that plays the role: that of the first entry under the role
abbrev pub cell_named_for : List RoleName → LeafRole → Option (List ℕ)
cell_named_for entries role = option_map (λ (entry : RoleName). entry.cell) (find (λ (entry : RoleName). bytes_eq entry.role (leaf_role_name role)) entries)

-- the first subcircuit of this name
abbrev pub subckt_named : List Subckt → List ℕ → Option Subckt
subckt_named subckts name = find (λ (subckt : Subckt). bytes_eq subckt.name name) subckts

abbrev pub size_of : Leaf → CellSize
size_of leaf = record { width = leaf.width; height = leaf.height }

abbrev pub drawing_in : LeafSource → CellSize → FlatLists → CellDrawing
drawing_in source size lists = record { wire = source.wire; size = size; shapes = lists.shapes; labels = lists.labels }

-- the cell plays the role, and these are its flat shapes and labels
pub record IsFlatCell (source : LeafSource) (role : LeafRole) (cell : List ℕ) (lists : FlatLists) : Type 0 where
  pub plays : cell_named_for source.tech.roles role ≡ Some cell
  pub flat : AreFlatLists source.tech.layers source.structs cell lists

-- and its outline has this size
pub record IsSizedCell (source : LeafSource) (role : LeafRole) (cell : List ℕ) (lists : FlatLists) (size : CellSize) : Type 0 where
  pub flat : IsFlatCell source role cell lists
  pub outline : IsCellOutline source.wire source.tech.outline lists.shapes size

-- the subcircuit named as the cell, in lower case, has exactly the role's ports in order
pub record HasPorts (subckts : List Subckt) (role : LeafRole) (cell : List ℕ) : Type 0 where
  pub subckt : Subckt
  pub there : subckt_named subckts (lower cell) ≡ Some subckt
  pub ports : subckt.ports ≡ leaf_role_ports role

-- The leaf of the role: its cell has an outline of the leaf's size, the role's ports, and these shapes of its pins.
pub record IsLeaf (source : LeafSource) (role : LeafRole) (leaf : Leaf) : Type 0 where
  pub cell : List ℕ
  pub lists : FlatLists
  pub sized : IsSizedCell source role cell lists (size_of leaf)
  pub ports : HasPorts source.subckts role cell
  pub pins : AreLeafPins (drawing_in source (size_of leaf) lists) (role_demands (pin_role role)) leaf.pins

abbrev pub HasLeaf : LeafSource → LeafRole → Type 0
HasLeaf source role = (leaf : Leaf) × IsLeaf source role leaf

-- a leaf for each role, in order
pub record AreLeaves (source : LeafSource) (leaves : List Leaf) : Type 0 where
  pub sized : length leaves ≡ length all_roles
  pub each : (place : ℕ) (role : Role) (leaf : Leaf) → slice_get all_roles place ≡ Some role → slice_get leaves place ≡ Some leaf → IsLeaf source (Common role) leaf

-- the role's cell has no flat shapes and labels, for this reason
pub record IsUnflat (source : LeafSource) (role : LeafRole) (fault : FlattenFault) : Type 0 where
  pub cell : List ℕ
  pub plays : cell_named_for source.tech.roles role ≡ Some cell
  pub some : fault ≢ flatten_fault.Memory
  pub is : IsFault source.tech.layers source.structs cell fault

-- it has them and no outline
pub record LacksOutline (source : LeafSource) (role : LeafRole) : Type 0 where
  pub cell : List ℕ
  pub lists : FlatLists
  pub flat : IsFlatCell source role cell lists
  pub none : (size : CellSize) → IsCellOutline source.wire source.tech.outline lists.shapes size → ⊥

-- no subcircuit has the cell's name in lower case, which is this
pub record IsUnknown (subckts : List Subckt) (cell name : List ℕ) : Type 0 where
  pub is : name ≡ lower cell
  pub none : subckt_named subckts name ≡ None

-- the subcircuit has other ports
pub record HasOtherPorts (subckts : List Subckt) (role : LeafRole) (cell : List ℕ) : Type 0 where
  pub subckt : Subckt
  pub there : subckt_named subckts (lower cell) ≡ Some subckt
  pub differ : subckt.ports ≢ leaf_role_ports role

-- the role's cell has an outline, and no subcircuit
pub record LacksSubckt (source : LeafSource) (role : LeafRole) (name : List ℕ) : Type 0 where
  pub cell : List ℕ
  pub lists : FlatLists
  pub size : CellSize
  pub sized : IsSizedCell source role cell lists size
  pub is : IsUnknown source.subckts cell name

-- it has an outline, and its subcircuit has other ports
pub record LacksPorts (source : LeafSource) (role : LeafRole) : Type 0 where
  pub cell : List ℕ
  pub lists : FlatLists
  pub size : CellSize
  pub sized : IsSizedCell source role cell lists size
  pub is : HasOtherPorts source.subckts role cell

-- it has an outline and the role's ports, and this is wrong with the shapes of its pins
pub record LacksPin (source : LeafSource) (role : LeafRole) (fault : PinFault) : Type 0 where
  pub cell : List ℕ
  pub lists : FlatLists
  pub size : CellSize
  pub sized : IsSizedCell source role cell lists size
  pub ports : HasPorts source.subckts role cell
  pub is : IsPinFault (drawing_in source size lists) (role_demands (pin_role role)) fault

-- what is wrong with the role's cell, the first of these
abbrev pub IsLeafFault : LeafSource → LeafRole → KitFault → Type 0
IsLeafFault source role (kit_fault.Flatten fault) = IsUnflat source role fault
IsLeafFault source role (kit_fault.Outline name) = (name ≡ leaf_role_name role) × LacksOutline source role
IsLeafFault source role (kit_fault.UnknownSubckt name) = LacksSubckt source role name
IsLeafFault source role (kit_fault.PortsDiffer name) = (name ≡ leaf_role_name role) × LacksPorts source role
IsLeafFault source role (kit_fault.PinMissing name pin) = (name ≡ leaf_role_name role) × LacksPin source role (pin_fault.PinMissing pin)
IsLeafFault source role (kit_fault.PinLayer name pin) = (name ≡ leaf_role_name role) × LacksPin source role (pin_fault.PinLayer pin)
IsLeafFault source role (kit_fault.EdgePin name pin) = (name ≡ leaf_role_name role) × LacksPin source role (pin_fault.EdgePin pin)
IsLeafFault source role kit_fault.Memory = Unit {0}
IsLeafFault source role (kit_fault.Gds fault) = ⊥
IsLeafFault source role (kit_fault.Spice fault) = ⊥
IsLeafFault source role kit_fault.NoWire = ⊥
IsLeafFault source role (kit_fault.Table fault) = ⊥
IsLeafFault source role (kit_fault.HeightDiffers name) = ⊥
IsLeafFault source role (kit_fault.WidthDiffers name) = ⊥

-- what is wrong with the first role that has no leaf
pub record IsFirstLeafFault (source : LeafSource) (fault : KitFault) : Type 0 where
  pub place : ℕ
  pub role : Role
  pub there : slice_get all_roles place ≡ Some role
  pub is : IsLeafFault source (Common role) fault
  pub before : (earlier : ℕ) (other : Role) → earlier < place → slice_get all_roles earlier ≡ Some other → HasLeaf source (Common other)
