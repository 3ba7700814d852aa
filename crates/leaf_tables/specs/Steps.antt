-- What is wrong with a cell, step by step.
use Rattle.std.specs.Prelude.{◌≡◌, ◌≢◌, ◌⊎◌, ℕ, List}
use Rattle.cell_hierarchy.specs.declared.fault.FlattenFault.TheVariants as flatten_fault
use Rattle.cell_hierarchy.specs.FlatLists.{IsFault}
use Rattle.gds_library.specs.declared.library.Structure.{Structure}
use Rattle.tech_rules.specs.declared.tech.Layer.{Layer}
use Rattle.leaf_shapes.specs.Demands.{role_demands}
use Rattle.leaf_shapes.specs.Pins.{CellDrawing, IsPinFault}
use Rattle.cell_roles.specs.declared.leaf_role.LeafRole.{LeafRole}
use Rattle.cell_roles.specs.LeafRoles.{pin_role, leaf_role_name}
use Rattle.gds_library.specs.declared.library.Library.{Library}
use Rattle.netlist.specs.declared.deck.Deck.{Deck}
use Rattle.netlist.specs.declared.deck.Subckt.{Subckt}
use Rattle.or_geom.specs.declared.shape.Shape.{Shape}
use Rattle.tech_rules.specs.declared.tech.Tech.{Tech}
use Rattle.tech_rules.specs.declared.tech.Wire.{Wire}
use Rattle.leaf_shapes.specs.declared.fault.PinFault.{PinFault}
use Rattle.leaf_shapes.specs.declared.fault.PinFault.TheVariants as pin_fault
use Rattle.leaf_shapes.specs.declared.fit.CellSize.{CellSize}
use Rattle.leaf_shapes.specs.Outline.{IsCellOutline}
use Rattle.leaf_tables.specs.declared.fault.KitFault.{KitFault}
use Rattle.leaf_tables.specs.declared.fault.KitFault.TheVariants as kit_fault
use Rattle.leaf_tables.specs.Leaves.{LeafSource, IsUnknown, HasOtherPorts, IsFirstLeafFault}

abbrev pub source_in : Tech → Wire → Library → Deck → LeafSource
source_in tech wire lib deck = record { tech = tech; wire = wire; structs = lib.structs; subckts = deck.subckts }

-- the role's cell has no outline, or memory ran out
abbrev pub IsOutlineFault : Wire → ℕ → LeafRole → List Shape → KitFault → Type 0
IsOutlineFault wire outline role shapes (kit_fault.Outline name) = (name ≡ leaf_role_name role) × ((size : CellSize) → IsCellOutline wire outline shapes size → ⊥)
IsOutlineFault wire outline role shapes kit_fault.Memory = Unit {0}
IsOutlineFault wire outline role shapes fault = ⊥

-- it has no subcircuit, or one with other ports, or memory ran out
abbrev pub IsPortFault : List Subckt → LeafRole → List ℕ → KitFault → Type 0
IsPortFault subckts role cell (kit_fault.UnknownSubckt name) = IsUnknown subckts cell name
IsPortFault subckts role cell (kit_fault.PortsDiffer name) = (name ≡ leaf_role_name role) × HasOtherPorts subckts role cell
IsPortFault subckts role cell kit_fault.Memory = Unit {0}
IsPortFault subckts role cell fault = ⊥

-- the fault of a pin, with the role's name
abbrev pub IsOfPin : LeafRole → PinFault → KitFault → Type 0
IsOfPin role fault kit_fault.Memory = Unit {0}
IsOfPin role (pin_fault.PinMissing pin) (kit_fault.PinMissing name other) = (name ≡ leaf_role_name role) × (other ≡ pin)
IsOfPin role (pin_fault.PinLayer pin) (kit_fault.PinLayer name other) = (name ≡ leaf_role_name role) × (other ≡ pin)
IsOfPin role (pin_fault.EdgePin pin) (kit_fault.EdgePin name other) = (name ≡ leaf_role_name role) × (other ≡ pin)
IsOfPin role fault other = ⊥

-- a pin of the role has no shape as demanded, or memory ran out
pub record LacksPins (cell : CellDrawing) (role : LeafRole) (fault : KitFault) : Type 0 where
  pub pin : PinFault
  pub is : IsPinFault cell (role_demands (pin_role role)) pin
  pub of : IsOfPin role pin fault

-- the cell has no flat shapes and labels, or memory ran out
abbrev pub IsLayoutFault : List Layer → List Structure → List ℕ → KitFault → Type 0
IsLayoutFault layers structs cell (kit_fault.Flatten fault) = (fault ≢ flatten_fault.Memory) × IsFault layers structs cell fault
IsLayoutFault layers structs cell kit_fault.Memory = Unit {0}
IsLayoutFault layers structs cell fault = ⊥

-- the fault of the first role that has no leaf, or memory ran out
abbrev pub IsLeavesFault : LeafSource → KitFault → Type 0
IsLeavesFault source fault = (fault ≡ kit_fault.Memory) ⊎ IsFirstLeafFault source fault
