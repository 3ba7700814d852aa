-- What a good kit promises of nets.
use Rattle.std.specs.Prelude.{ℕ, List, Ok}
use Rattle.gds_library.specs.declared.library.Library.{Library}
use Rattle.netlist.specs.declared.deck.Deck.{Deck}
use Rattle.netlist.specs.declared.rows.RowPin.{RowPin}
use Rattle.cell_hierarchy.specs.FlatLists.{AreFlatLists}
use Rattle.cell_hierarchy.specs.Plain.{FlatLists}
use Rattle.net_extractor.specs.PlainNetLabel.{PlainNetLabel}
use Rattle.net_extractor.specs.declared.difference.NetDiff.{NetDiff}
use Rattle.net_extractor.specs.Difference.{AreAlike}
use Rattle.sram_plan.specs.declared.config.Config.{Config}
use Rattle.sram_plan.specs.declared.numbers.Plan.{Plan}
use Rattle.sram_plan.specs.Config.{IsConfig}
use Rattle.sram_plan.specs.Plan.{IsPlanOf}
use Rattle.port_lists.specs.Held.Held.{Stored}
use Rattle.leaf_tables.specs.declared.kit.Kit.{Kit}
use Rattle.leaf_tables.specs.Kits.{IsKit}
use Rattle.macro_build.specs.declared.built.BuildFault.TheVariants as build_fault
use Rattle.macro_build.specs.Built.{IsBuildFault}
use Rattle.kit_check.specs.Good.{IsGoodKit}
use Rattle.kit_check.specs.Judged.{AreNetsAndRowsOf}
use Rattle.kit_command.specs.Assembled.{IsAssembled}

-- The labels of each macro of the kit and the plan under the name are joined exactly as its netlist says, so that none is refused for a
-- difference.
pub record MatchesNetlist (kit : Kit) (plan : Plan) (name : List ℕ) : Type 0 where
  pub alike : (made : Library × Deck) (lists : FlatLists) (labels : List PlainNetLabel) (rows : List RowPin) → IsAssembled kit plan name (Ok made) → AreFlatLists kit.tech.layers made.0.structs name lists → AreNetsAndRowsOf kit name made.1 lists labels rows → AreAlike labels rows
  pub unrefused : (difference : NetDiff) → IsBuildFault kit plan Stored name (build_fault.NetsDiffer difference) → ⊥

-- So it is for a good kit and each plan of a configuration.
abbrev pub GoodKitsMatch : Type 0
GoodKitsMatch = (kit : Kit) (config : Config) (plan : Plan) (name : List ℕ) → IsKit kit → IsGoodKit IsAssembled kit → IsConfig config → IsPlanOf config plan → MatchesNetlist kit plan name
