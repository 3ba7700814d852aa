-- What a good kit promises of the rules.
use Rattle.std.specs.Prelude.{ℕ, List, [], Ok}
use Rattle.gds_library.specs.declared.library.Library.{Library}
use Rattle.netlist.specs.declared.deck.Deck.{Deck}
use Rattle.cell_hierarchy.specs.FlatLists.{AreFlatLists}
use Rattle.cell_hierarchy.specs.Plain.{FlatLists}
use Rattle.tile_checker.specs.declared.violation.Violation.{Violation}
use Rattle.tile_checker.specs.RuleReport.{IsReport}
use Rattle.sram_plan.specs.declared.config.Config.{Config}
use Rattle.sram_plan.specs.declared.numbers.Plan.{Plan}
use Rattle.sram_plan.specs.Config.{IsConfig}
use Rattle.sram_plan.specs.Plan.{IsPlanOf}
use Rattle.port_lists.specs.Held.Held.{Stored}
use Rattle.leaf_tables.specs.declared.kit.Kit.{Kit}
use Rattle.leaf_tables.specs.Kits.{IsKit}
use Rattle.macro_build.specs.declared.built.BuildFault.TheVariants as build_fault
use Rattle.macro_build.specs.Built.{IsBuildFault}
use Rattle.kit_check.specs.Good.{IsGoodKit}
use Rattle.macro_maker.specs.Assembled.{IsAssembled}

-- The report of the flat shapes of each macro of the kit and the plan under the name is empty, so that none is refused for a broken
-- rule.
pub record BreaksNoRule (kit : Kit) (plan : Plan) (name : List ℕ) : Type 0 where
  pub clean : (made : Library × Deck) (lists : FlatLists) → IsAssembled kit plan name (Ok made) → AreFlatLists kit.tech.layers made.0.structs name lists → IsReport kit.tech.rules lists.shapes []
  pub unrefused : (violation : Violation) → IsBuildFault kit plan Stored name (build_fault.RuleBroken violation) → ⊥

-- So it is for a good kit and each plan of a configuration.
abbrev pub GoodKitsBreakNoRule : Type 0
GoodKitsBreakNoRule = (kit : Kit) (config : Config) (plan : Plan) (name : List ℕ) → IsKit kit → IsGoodKit IsAssembled kit → IsConfig config → IsPlanOf config plan → BreaksNoRule kit plan name
