-- The sides of leaf cells as the program holds them.
use Rattle.std.specs.Prelude.{◌≡◌, ◌<◌, ◌≤◌, ℕ}
use Rattle.cell_roles.specs.declared.role.Role.TheVariants.{Bitcell, Precharge, Sense, Driver, Inv}
use Rattle.sram_netlist.specs.Organization.{Organization}
use Rattle.macro_layout.specs.LayoutKit.{LayoutKit}
use Rattle.macro_layout.specs.Places.{gate_width}
use Rattle.macro_layout.specs.Floorplan.{column_role, write_height}
use Rattle.floorplan.specs.declared.sides.LeafSides.{LeafSides}

-- a side of a leaf cell
pub record IsLeafSize (n : ℕ) : Type 0 where
  pub from : 0 < n
  pub to : n ≤ 65536

pub record AreLeafSides (sides : LeafSides) : Type 0 where
  pub inv_height : IsLeafSize sides.inv_height
  -- none where nothing is written
  pub write_height : sides.write_height ≤ 65536
  pub sense_height : IsLeafSize sides.sense_height
  pub end_height : IsLeafSize sides.end_height
  pub precharge_height : IsLeafSize sides.precharge_height
  pub bit_height : IsLeafSize sides.bit_height
  pub bit_width : IsLeafSize sides.bit_width
  pub gate_width : IsLeafSize sides.gate_width
  pub driver_width : IsLeafSize sides.driver_width

-- they are those of the cells that the plan uses
pub record AreSidesOf (plan : Organization) (kit : LayoutKit) (sides : LeafSides) : Type 0 where
  pub inv_height : sides.inv_height ≡ kit.height Inv
  pub write_height : sides.write_height ≡ write_height plan kit
  pub sense_height : sides.sense_height ≡ kit.height Sense
  pub end_height : sides.end_height ≡ kit.height (column_role plan.col_bits)
  pub precharge_height : sides.precharge_height ≡ kit.height Precharge
  pub bit_height : sides.bit_height ≡ kit.height Bitcell
  pub bit_width : sides.bit_width ≡ kit.width Bitcell
  pub gate_width : sides.gate_width ≡ gate_width plan kit
  pub driver_width : sides.driver_width ≡ kit.width Driver
