-- Where a supply trunk may stand.
use Rattle.std.specs.Prelude.{◌^◌, ◌<◌, ℤ, pos, ◌≤ℤ◌, length}
use Rattle.tech_rules.specs.declared.tech.Wire.{Wire}
use Rattle.tech_rules.specs.Facts.{AreSizes}
use Rattle.sram_netlist.specs.Numbers.{ArePlanNumbers}
use Rattle.sram_plan.specs.declared.numbers.Plan.{Plan}
use Rattle.sram_plan.specs.PlanNumbers.{numbers_of}
use Rattle.floorplan.specs.declared.sides.LeafSides.{LeafSides}
use Rattle.floorplan.specs.declared.numbers.FloorplanNumbers.{FloorplanNumbers}
use Rattle.floorplan.specs.FloorplanNumbers.{columns_from, IsNearFloorplan}
use Rattle.floorplan.specs.Sides.{AreLeafSides}

-- behind the beginnings of the logic row and of the columns, and within 2^42
pub record IsBehind (sides : LeafSides) (n : FloorplanNumbers) (trunk : ℤ) : Type 0 where
  pub logic : n.logic_x ≤ℤ trunk
  pub columns : columns_from sides n ≤ℤ trunk
  pub near : trunk ≤ℤ pos (2 ^ 42)

-- what a trunk and its bars are drawn from: a plan, sides of leaf cells, wires with a second metal and a cut, places near the origin, and a trunk behind them
pub record CanDrawSupply (p : Plan) (s : LeafSides) (w : Wire) (n : FloorplanNumbers) (trunk : ℤ) : Type 0 where
  pub plan : ArePlanNumbers (numbers_of p)
  pub sides : AreLeafSides s
  pub sizes : AreSizes w
  pub metals : 1 < length w.metals
  pub cuts : 0 < length w.cuts
  pub near : IsNearFloorplan n
  pub behind : IsBehind s n trunk
