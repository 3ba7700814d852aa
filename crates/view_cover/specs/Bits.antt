-- The cells that hold a macro's bits stand in the places of bitcells.
use Rattle.std.specs.Prelude.{◌<◌, ℕ, ℤ, pos, ◌≤ℤ◌, List, Contains}
use Rattle.or_geom.specs.declared.shape.Rect.{Rect}
use Rattle.or_geom.specs.declared.shape.Shape.{Shape}
use Rattle.cell_roles.specs.declared.role.Role.TheVariants.{Bitcell}
use Rattle.tech_rules.specs.declared.tech.Wire.{Wire}
use Rattle.cell_hierarchy.specs.FlatSet.{IsFlatShape}
use Rattle.sram_netlist.specs.Organization.{Organization, bank_rows, columns_of}
use Rattle.sram_netlist.specs.BitCells.{BitCells, bit_cell}
use Rattle.leaf_tables.specs.declared.kit.Kit.{Kit}
use Rattle.floorplan.specs.LeafSides.{leaf_width, leaf_height}

-- the rectangle lies between these sides
pub record LiesWithin (left low right high : ℤ) (r : Rect) : Type 0 where
  pub from : left ≤ℤ r.x1
  pub above : low ≤ℤ r.y1
  pub to : r.x2 ≤ℤ right
  pub below : r.y2 ≤ℤ high

-- the rectangle lies in a cell of these sides
abbrev pub LiesInCell : ℕ → ℕ → Rect → Type 0
LiesInCell width height = LiesWithin (pos 0) (pos 0) (pos width) (pos height)

-- each shape that the kit's cell draws on a metal lies in the bitcell's sides
abbrev pub FitsBitcell : Kit → Wire → List ℕ → Type 0
FitsBitcell kit wire cell = (s : Shape) → IsFlatShape kit.tech.layers kit.lib.structs cell s → Contains wire.metals s.layer → LiesInCell (leaf_width kit Bitcell) (leaf_height kit Bitcell) s.rect

-- so does the cell of each bit of a bank
abbrev pub AreBitsInside : Kit → Wire → Organization → BitCells → Type 0
AreBitsInside kit wire plan bits = (r c : ℕ) → r < bank_rows plan → c < columns_of plan → FitsBitcell kit wire (bit_cell bits r c)
