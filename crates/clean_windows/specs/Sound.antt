-- The small memories of a plan are assembled for a good kit, and nothing is wrong with them.
use Rattle.std.specs.Prelude.{◌≡◌, ℕ, ◌<◌, List}
use Rattle.port_lists.specs.Held.Held.{Stored}
use Rattle.sram_netlist.specs.Organization.{Organization}
use Rattle.sram_netlist.specs.Numbers.{ArePlanNumbers}
use Rattle.sram_plan.specs.declared.numbers.Plan.{Plan}
use Rattle.sram_plan.specs.Plan.{row_groups}
use Rattle.sram_plan.specs.PlanNumbers.{numbers_of, organization}
use Rattle.leaf_tables.specs.declared.kit.Kit.{Kit}
use Rattle.leaf_tables.specs.Kits.{IsKit}
use Rattle.floorplan.specs.LayoutOfKit.{layout_kit}
use Rattle.port_data.specs.Column.{AreWideSlices}
use Rattle.sram_macro.specs.declared.assembly.Macro.{Macro}
use Rattle.sram_macro.specs.Macro.{IsMacro}
use Rattle.kit_check.specs.Good.{IsGoodKit}
use Rattle.kit_check.specs.Judged.{IsFaultlessMacro}
use Rattle.kit_check.specs.Quick.{IsPassingMacro}
use Rattle.macro_maker.specs.Assembled.{IsAssembled}
use Rattle.good_places.specs.Windows.{IsWindowOf}

-- a macro of the memory, which is a listed window's: it is in order wherever the quick check looks
pub record HasPassingWindow (kit : Kit) (memory : Organization) : Type 0 where
  pub plan : Plan
  pub is : organization plan ≡ memory
  pub numbers : ArePlanNumbers (numbers_of plan)
  pub name : List ℕ
  pub macro : Macro
  pub made : IsMacro kit plan Stored name macro
  pub sound : IsPassingMacro kit name (organization plan) macro.lib macro.deck

-- a macro of the memory, which is a window's: nothing is wrong with it
pub record HasSoundWindow (kit : Kit) (memory : Organization) : Type 0 where
  pub plan : Plan
  pub is : organization plan ≡ memory
  pub numbers : ArePlanNumbers (numbers_of plan)
  pub name : List ℕ
  pub macro : Macro
  pub made : IsMacro kit plan Stored name macro
  pub faultless : IsFaultlessMacro kit name macro.lib macro.deck

-- a plan of a memory that is written, whose groups are those of its rows
pub record IsWrittenOfRows (plan : Plan) : Type 0 where
  pub numbers : ArePlanNumbers (numbers_of plan)
  pub groups : plan.groups ≡ row_groups plan.rows
  pub written : 0 < plan.write_size

abbrev pub GoodKitsHaveCleanWindows : Type 0
GoodKitsHaveCleanWindows = (kit : Kit) (plan : Plan) → IsKit kit → IsGoodKit IsAssembled kit → IsWrittenOfRows plan → AreWideSlices (organization plan) (layout_kit kit)
    → (other : Organization) → IsWindowOf (organization plan) other → HasSoundWindow kit other
