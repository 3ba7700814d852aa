-- What the checks of a macro's layout find where it breaks no rule.
use Rattle.std.specs.Prelude.{List, ℕ, []}
use Rattle.cell_hierarchy.specs.Plain.{FlatLists}
use Rattle.net_extractor.specs.PlainNetLabel.{PlainNetLabel}
use Rattle.net_extractor.specs.Extraction.{AreNets}
use Rattle.sram_plan.specs.declared.numbers.Plan.{Plan}
use Rattle.leaf_tables.specs.declared.kit.Kit.{Kit}
use Rattle.port_lists.specs.Held.{Held}
use Rattle.sram_macro.specs.declared.assembly.Macro.{Macro}
use Rattle.macro_build.specs.Built.{IsChecked}

-- the labels, with their nets, of a macro that breaks no rule
pub record AreNetsWithinRules (kit : Kit) (plan : Plan) (held : Held) (name : List ℕ) (m : Macro) (labels : List PlainNetLabel) : Type 0 where
  pub lists : FlatLists
  pub clean : IsChecked kit plan held name m lists []
  pub nets : AreNets kit.tech lists.shapes lists.labels labels
