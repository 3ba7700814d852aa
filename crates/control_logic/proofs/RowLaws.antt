-- The cells of the logic row lie near the origin.
use Rattle.std.proofs.Common.{ℕ, ◌+◌, ◌≤◌, List, [], ◌∷◌, arith}
use Rattle.std.specs.List.{AllByRecursion}
use Rattle.std.proofs.lemmas.Int.{ints}
use Rattle.or_geom.specs.Place.{IsNearPoint}
use Rattle.cell_builder.specs.declared.cell.PlacedInstance.{PlacedInstance}
use Rattle.sram_netlist.specs.Organization.{Organization}
use Rattle.sram_netlist.specs.Instances.{LogicCell, LogicAt}
use Rattle.sram_netlist.specs.Netlist.{role}
use Rattle.macro_layout.specs.LayoutKit.{LayoutKit}
use Rattle.macro_layout.specs.Places.{total_width}
use Rattle.macro_layout.specs.Cells.{side_by_side}

pub near_row : (plan : Organization) (kit : LayoutKit) (cells : List LogicCell) (x : ℕ) → x + total_width plan kit cells ≤ 536870912 → AllByRecursion (λ (i : PlacedInstance). IsNearPoint i.place.at) (side_by_side plan kit x cells)
near_row plan kit [] x few = tt
near_row plan kit (c ∷ cs) x few = (
  record {
    x = record { above = omega (arith, ints, few); below = omega (arith, ints, few) };
    y = record { above = omega (arith, ints); below = omega (arith, ints) };
  },
  near_row plan kit cs (x + kit.width (role plan (LogicAt c))) (omega (arith, few)),
)
