-- Leaf cells that are more than two wires high.
use Rattle.std.specs.Prelude.{pos, ◌+ℤ◌, ◌<ℤ◌}
use Rattle.cell_roles.specs.declared.role.Role.{Role}
use Rattle.leaf_tables.specs.declared.kit.Kit.{Kit}
use Rattle.leaf_tables.specs.Kits.{IsKit}
use Rattle.leaf_nets.specs.Leaves.{HaveRightPins}
use Rattle.sram_netlist.specs.Organization.{Organization}
use Rattle.floorplan.specs.LayoutOfKit.{layout_kit}
use Rattle.wire_nets.specs.Named.{AreHighCells}

abbrev pub CellsAreHigh : Type 0
CellsAreHigh = (kit : Kit) (is : IsKit kit) → HaveRightPins kit → (role : Role) → (is.wire.width +ℤ is.wire.width) <ℤ pos ((layout_kit kit).height role)

-- the cells of a memory
abbrev pub KitsHaveHighCells : Type 0
KitsHaveHighCells = (kit : Kit) (plan : Organization) (is : IsKit kit) → HaveRightPins kit → AreHighCells plan (layout_kit kit) is.wire
