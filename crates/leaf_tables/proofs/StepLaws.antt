-- What is wrong with a cell, step by step, is what is wrong with the role's leaf.
use Rattle.std.proofs.Common.{◌≡◌, ℕ, List, Some, sym, subst}
use Rattle.cell_roles.specs.declared.leaf_role.LeafRole.{LeafRole}
use Rattle.cell_roles.specs.LeafRoles.{pin_role}
use Rattle.cell_hierarchy.specs.Plain.{FlatLists}
use Rattle.leaf_shapes.specs.declared.fault.PinFault.{PinFault}
use Rattle.leaf_shapes.specs.declared.fault.PinFault.TheVariants as pin_fault
use Rattle.leaf_shapes.specs.declared.fit.CellSize.{CellSize}
use Rattle.leaf_shapes.specs.Demands.{role_demands}
use Rattle.leaf_shapes.specs.Pins.{IsPinFault}
use Rattle.leaf_tables.specs.declared.fault.KitFault.{KitFault}
use Rattle.leaf_tables.specs.declared.fault.KitFault.TheVariants as kit_fault
use Rattle.leaf_tables.specs.Leaves.{LeafSource, cell_named_for, drawing_in, IsFlatCell, IsSizedCell, HasPorts, LacksPin, IsLeafFault}
use Rattle.leaf_tables.specs.Steps.{IsLayoutFault, IsOutlineFault, IsPortFault, IsOfPin, LacksPins}

pub flat_fault : (source : LeafSource) (role : LeafRole) (cell : List ℕ) (fault : KitFault) → cell_named_for source.tech.roles role ≡ Some cell → IsLayoutFault source.tech.layers source.structs cell fault → IsLeafFault source role fault
flat_fault source role cell (kit_fault.Gds fault) plays is = absurd is
flat_fault source role cell (kit_fault.Spice fault) plays is = absurd is
flat_fault source role cell kit_fault.NoWire plays is = absurd is
flat_fault source role cell (kit_fault.Table fault) plays is = absurd is
flat_fault source role cell (kit_fault.Flatten fault) plays is = record { cell = cell; plays = plays; some = is.0; is = is.1 }
flat_fault source role cell (kit_fault.Outline name) plays is = absurd is
flat_fault source role cell (kit_fault.UnknownSubckt name) plays is = absurd is
flat_fault source role cell (kit_fault.PortsDiffer name) plays is = absurd is
flat_fault source role cell (kit_fault.PinMissing name pin) plays is = absurd is
flat_fault source role cell (kit_fault.PinLayer name pin) plays is = absurd is
flat_fault source role cell (kit_fault.EdgePin name pin) plays is = absurd is
flat_fault source role cell (kit_fault.HeightDiffers name) plays is = absurd is
flat_fault source role cell (kit_fault.WidthDiffers name) plays is = absurd is
flat_fault source role cell kit_fault.Memory plays is = tt

pub outline_fault : (source : LeafSource) (role : LeafRole) (cell : List ℕ) (lists : FlatLists) (fault : KitFault) → IsFlatCell source role cell lists → IsOutlineFault source.wire source.tech.outline role lists.shapes fault → IsLeafFault source role fault
outline_fault source role cell lists (kit_fault.Gds fault) flat is = absurd is
outline_fault source role cell lists (kit_fault.Spice fault) flat is = absurd is
outline_fault source role cell lists kit_fault.NoWire flat is = absurd is
outline_fault source role cell lists (kit_fault.Table fault) flat is = absurd is
outline_fault source role cell lists (kit_fault.Flatten fault) flat is = absurd is
outline_fault source role cell lists (kit_fault.Outline name) flat is = (is.0, record { cell = cell; lists = lists; flat = flat; none = is.1 })
outline_fault source role cell lists (kit_fault.UnknownSubckt name) flat is = absurd is
outline_fault source role cell lists (kit_fault.PortsDiffer name) flat is = absurd is
outline_fault source role cell lists (kit_fault.PinMissing name pin) flat is = absurd is
outline_fault source role cell lists (kit_fault.PinLayer name pin) flat is = absurd is
outline_fault source role cell lists (kit_fault.EdgePin name pin) flat is = absurd is
outline_fault source role cell lists (kit_fault.HeightDiffers name) flat is = absurd is
outline_fault source role cell lists (kit_fault.WidthDiffers name) flat is = absurd is
outline_fault source role cell lists kit_fault.Memory flat is = tt

pub port_fault : (source : LeafSource) (role : LeafRole) (cell : List ℕ) (lists : FlatLists) (size : CellSize) (fault : KitFault) → IsSizedCell source role cell lists size → IsPortFault source.subckts role cell fault → IsLeafFault source role fault
port_fault source role cell lists size (kit_fault.Gds fault) sized is = absurd is
port_fault source role cell lists size (kit_fault.Spice fault) sized is = absurd is
port_fault source role cell lists size kit_fault.NoWire sized is = absurd is
port_fault source role cell lists size (kit_fault.Table fault) sized is = absurd is
port_fault source role cell lists size (kit_fault.Flatten fault) sized is = absurd is
port_fault source role cell lists size (kit_fault.Outline name) sized is = absurd is
port_fault source role cell lists size (kit_fault.UnknownSubckt name) sized is = record { cell = cell; lists = lists; size = size; sized = sized; is = is }
port_fault source role cell lists size (kit_fault.PortsDiffer name) sized is = (is.0, record { cell = cell; lists = lists; size = size; sized = sized; is = is.1 })
port_fault source role cell lists size (kit_fault.PinMissing name pin) sized is = absurd is
port_fault source role cell lists size (kit_fault.PinLayer name pin) sized is = absurd is
port_fault source role cell lists size (kit_fault.EdgePin name pin) sized is = absurd is
port_fault source role cell lists size (kit_fault.HeightDiffers name) sized is = absurd is
port_fault source role cell lists size (kit_fault.WidthDiffers name) sized is = absurd is
port_fault source role cell lists size kit_fault.Memory sized is = tt

lacks : (source : LeafSource) (role : LeafRole) (cell : List ℕ) (lists : FlatLists) (size : CellSize) (make : List ℕ → PinFault) (pin other : List ℕ) → other ≡ pin → IsSizedCell source role cell lists size → HasPorts source.subckts role cell
    → IsPinFault (drawing_in source size lists) (role_demands (pin_role role)) (make pin) → LacksPin source role (make other)
lacks source role cell lists size make pin other e sized ports is =
    subst (λ (p : List ℕ). LacksPin source role (make p)) (sym e) (record { cell = cell; lists = lists; size = size; sized = sized; ports = ports; is = is })

of_pin : (source : LeafSource) (role : LeafRole) (cell : List ℕ) (lists : FlatLists) (size : CellSize) (pin : PinFault) (fault : KitFault) → IsSizedCell source role cell lists size → HasPorts source.subckts role cell
    → IsPinFault (drawing_in source size lists) (role_demands (pin_role role)) pin → IsOfPin role pin fault → IsLeafFault source role fault
of_pin source role cell lists size (pin_fault.PinMissing p) (kit_fault.Gds fault) sized ports is of = absurd of
of_pin source role cell lists size (pin_fault.PinLayer p) (kit_fault.Gds fault) sized ports is of = absurd of
of_pin source role cell lists size (pin_fault.EdgePin p) (kit_fault.Gds fault) sized ports is of = absurd of
of_pin source role cell lists size pin_fault.Memory (kit_fault.Gds fault) sized ports is of = absurd of
of_pin source role cell lists size (pin_fault.PinMissing p) (kit_fault.Spice fault) sized ports is of = absurd of
of_pin source role cell lists size (pin_fault.PinLayer p) (kit_fault.Spice fault) sized ports is of = absurd of
of_pin source role cell lists size (pin_fault.EdgePin p) (kit_fault.Spice fault) sized ports is of = absurd of
of_pin source role cell lists size pin_fault.Memory (kit_fault.Spice fault) sized ports is of = absurd of
of_pin source role cell lists size (pin_fault.PinMissing p) kit_fault.NoWire sized ports is of = absurd of
of_pin source role cell lists size (pin_fault.PinLayer p) kit_fault.NoWire sized ports is of = absurd of
of_pin source role cell lists size (pin_fault.EdgePin p) kit_fault.NoWire sized ports is of = absurd of
of_pin source role cell lists size pin_fault.Memory kit_fault.NoWire sized ports is of = absurd of
of_pin source role cell lists size (pin_fault.PinMissing p) (kit_fault.Table fault) sized ports is of = absurd of
of_pin source role cell lists size (pin_fault.PinLayer p) (kit_fault.Table fault) sized ports is of = absurd of
of_pin source role cell lists size (pin_fault.EdgePin p) (kit_fault.Table fault) sized ports is of = absurd of
of_pin source role cell lists size pin_fault.Memory (kit_fault.Table fault) sized ports is of = absurd of
of_pin source role cell lists size (pin_fault.PinMissing p) (kit_fault.Flatten fault) sized ports is of = absurd of
of_pin source role cell lists size (pin_fault.PinLayer p) (kit_fault.Flatten fault) sized ports is of = absurd of
of_pin source role cell lists size (pin_fault.EdgePin p) (kit_fault.Flatten fault) sized ports is of = absurd of
of_pin source role cell lists size pin_fault.Memory (kit_fault.Flatten fault) sized ports is of = absurd of
of_pin source role cell lists size (pin_fault.PinMissing p) (kit_fault.Outline name) sized ports is of = absurd of
of_pin source role cell lists size (pin_fault.PinLayer p) (kit_fault.Outline name) sized ports is of = absurd of
of_pin source role cell lists size (pin_fault.EdgePin p) (kit_fault.Outline name) sized ports is of = absurd of
of_pin source role cell lists size pin_fault.Memory (kit_fault.Outline name) sized ports is of = absurd of
of_pin source role cell lists size (pin_fault.PinMissing p) (kit_fault.UnknownSubckt name) sized ports is of = absurd of
of_pin source role cell lists size (pin_fault.PinLayer p) (kit_fault.UnknownSubckt name) sized ports is of = absurd of
of_pin source role cell lists size (pin_fault.EdgePin p) (kit_fault.UnknownSubckt name) sized ports is of = absurd of
of_pin source role cell lists size pin_fault.Memory (kit_fault.UnknownSubckt name) sized ports is of = absurd of
of_pin source role cell lists size (pin_fault.PinMissing p) (kit_fault.PortsDiffer name) sized ports is of = absurd of
of_pin source role cell lists size (pin_fault.PinLayer p) (kit_fault.PortsDiffer name) sized ports is of = absurd of
of_pin source role cell lists size (pin_fault.EdgePin p) (kit_fault.PortsDiffer name) sized ports is of = absurd of
of_pin source role cell lists size pin_fault.Memory (kit_fault.PortsDiffer name) sized ports is of = absurd of
of_pin source role cell lists size (pin_fault.PinMissing p) (kit_fault.PinMissing name pin) sized ports is of = (of.0, lacks source role cell lists size pin_fault.PinMissing p pin of.1 sized ports is)
of_pin source role cell lists size (pin_fault.PinLayer p) (kit_fault.PinMissing name pin) sized ports is of = absurd of
of_pin source role cell lists size (pin_fault.EdgePin p) (kit_fault.PinMissing name pin) sized ports is of = absurd of
of_pin source role cell lists size pin_fault.Memory (kit_fault.PinMissing name pin) sized ports is of = absurd of
of_pin source role cell lists size (pin_fault.PinMissing p) (kit_fault.PinLayer name pin) sized ports is of = absurd of
of_pin source role cell lists size (pin_fault.PinLayer p) (kit_fault.PinLayer name pin) sized ports is of = (of.0, lacks source role cell lists size pin_fault.PinLayer p pin of.1 sized ports is)
of_pin source role cell lists size (pin_fault.EdgePin p) (kit_fault.PinLayer name pin) sized ports is of = absurd of
of_pin source role cell lists size pin_fault.Memory (kit_fault.PinLayer name pin) sized ports is of = absurd of
of_pin source role cell lists size (pin_fault.PinMissing p) (kit_fault.EdgePin name pin) sized ports is of = absurd of
of_pin source role cell lists size (pin_fault.PinLayer p) (kit_fault.EdgePin name pin) sized ports is of = absurd of
of_pin source role cell lists size (pin_fault.EdgePin p) (kit_fault.EdgePin name pin) sized ports is of = (of.0, lacks source role cell lists size pin_fault.EdgePin p pin of.1 sized ports is)
of_pin source role cell lists size pin_fault.Memory (kit_fault.EdgePin name pin) sized ports is of = absurd of
of_pin source role cell lists size (pin_fault.PinMissing p) (kit_fault.HeightDiffers name) sized ports is of = absurd of
of_pin source role cell lists size (pin_fault.PinLayer p) (kit_fault.HeightDiffers name) sized ports is of = absurd of
of_pin source role cell lists size (pin_fault.EdgePin p) (kit_fault.HeightDiffers name) sized ports is of = absurd of
of_pin source role cell lists size pin_fault.Memory (kit_fault.HeightDiffers name) sized ports is of = absurd of
of_pin source role cell lists size (pin_fault.PinMissing p) (kit_fault.WidthDiffers name) sized ports is of = absurd of
of_pin source role cell lists size (pin_fault.PinLayer p) (kit_fault.WidthDiffers name) sized ports is of = absurd of
of_pin source role cell lists size (pin_fault.EdgePin p) (kit_fault.WidthDiffers name) sized ports is of = absurd of
of_pin source role cell lists size pin_fault.Memory (kit_fault.WidthDiffers name) sized ports is of = absurd of
of_pin source role cell lists size pin kit_fault.Memory sized ports is of = tt

pub pins_fault : (source : LeafSource) (role : LeafRole) (cell : List ℕ) (lists : FlatLists) (size : CellSize) (fault : KitFault) → IsSizedCell source role cell lists size → HasPorts source.subckts role cell
    → LacksPins (drawing_in source size lists) role fault → IsLeafFault source role fault
pins_fault source role cell lists size fault sized ports lack = of_pin source role cell lists size lack.pin fault sized ports lack.is lack.of
