-- What is built of a kit and a plan: four views, and what is told of them; or why nothing is.
use Rattle.std.specs.Prelude.{◌≡◌, ◌≢◌, ℕ, List, [], ◌∷◌, ◌++◌, length}
use Rattle.gds_stream.specs.Canonical.{canonical}
use Rattle.netlist.specs.declared.deck.Subckt.{Subckt}
use Rattle.netlist.specs.declared.rows.RowPin.{RowPin}
use Rattle.spice_text.specs.Appended.{appended}
use Rattle.spice_netlist.specs.Faults.{AreFlatRows}
use Rattle.cell_hierarchy.specs.FlatLists.{AreFlatLists, IsFault}
use Rattle.cell_hierarchy.specs.Plain.{FlatLists}
use Rattle.cell_hierarchy.specs.declared.fault.FlattenFault.{FlattenFault}
use Rattle.cell_hierarchy.specs.declared.fault.FlattenFault.TheVariants as flatten_fault
use Rattle.tile_checker.specs.declared.violation.Violation.{Violation}
use Rattle.tile_checker.specs.RuleReport.{IsReport}
use Rattle.net_extractor.specs.PlainNetLabel.{PlainNetLabel}
use Rattle.net_extractor.specs.Extraction.{AreNets}
use Rattle.net_extractor.specs.declared.difference.NetDiff.{NetDiff}
use Rattle.net_extractor.specs.Difference.{AreAlike}
use Rattle.net_extractor.specs.FirstDifference.{IsFirstDifference}
use Rattle.sram_netlist.specs.InstanceList.{leaf_instances}
use Rattle.sram_plan.specs.declared.numbers.Plan.{Plan}
use Rattle.sram_plan.specs.PlanNumbers.{organization}
use Rattle.port_lists.specs.Held.{Held}
use Rattle.leaf_tables.specs.declared.kit.Kit.{Kit}
use Rattle.leaf_tables.specs.declared.part.PartFault.TheVariants as part_fault
use Rattle.macro_views.specs.Lef.{lef_text}
use Rattle.macro_build.specs.Memory.{AnswersFrom}
use Rattle.macro_build.specs.Verilog.{SpellsHeld, verilog_of}
use Rattle.macro_build.specs.Written.{IsReadInLowerCase, IsReferenceNetlist, SpellCoveredLayout, SpellSoundLayout}
use Rattle.sram_macro.specs.declared.assembly.Macro.{Macro}
use Rattle.sram_macro.specs.Leaves.{leaf_names}
use Rattle.sram_macro.specs.Macro.{IsMacro, IsMacroFault}
use Rattle.macro_build.specs.declared.built.Built.{Built}
use Rattle.macro_build.specs.declared.built.BuildFault.{BuildFault}
use Rattle.macro_build.specs.declared.built.BuildFault.TheVariants as build_fault

-- the subcircuits of the kit and of the macro
abbrev pub all_subckts : Kit → Macro → List Subckt
all_subckts kit m = kit.deck.subckts ++ m.deck.subckts

-- a macro, flat, and its report
pub record IsChecked (kit : Kit) (plan : Plan) (held : Held) (name : List ℕ) (m : Macro) (lists : FlatLists) (report : List Violation) : Type 0 where
  pub is : IsMacro kit plan held name m
  pub flat : AreFlatLists kit.tech.layers m.lib.structs name lists
  pub reported : IsReport kit.tech.rules lists.shapes report

-- the labels of a macro with their nets, and the rows of its netlist
pub record AreNetsAndRows (kit : Kit) (held : Held) (name : List ℕ) (m : Macro) (lists : FlatLists) (labels : List PlainNetLabel) (rows : List RowPin) : Type 0 where
  pub nets : AreNets kit.tech lists.shapes lists.labels labels
  pub netlist : AreFlatRows (all_subckts kit m) name (leaf_names kit held) rows

-- A macro that breaks no rule, and whose labels are joined exactly as its netlist says.
pub record IsSoundMacro (kit : Kit) (plan : Plan) (held : Held) (name : List ℕ) (m : Macro) : Type 0 where
  pub lists : FlatLists
  pub clean : IsChecked kit plan held name m lists []
  pub labels : List PlainNetLabel
  pub rows : List RowPin
  pub are : AreNetsAndRows kit held name m lists labels rows
  pub alike : AreAlike labels rows

-- The four views of a sound macro, what they say to whoever reads them, and what the line of success tells.
pub record IsBuilt (kit : Kit) (plan : Plan) (held : Held) (name : List ℕ) (built : Built) : Type 0 where
  pub macro : Macro
  pub sound : IsSoundMacro kit plan held name macro
  pub spice : built.spice.items ≡ appended kit.deck kit.text macro.deck.subckts
  pub gds : built.gds.items ≡ canonical macro.lib
  pub lef : built.lef.items ≡ lef_text macro.view
  pub verilog : built.verilog.items ≡ verilog_of plan held name
  -- the netlist is read as the subcircuits of the kit and the macro, its rows are those of the reference netlist, and that answers as it has to
  pub read : IsReadInLowerCase kit plan held name built.spice.items
  pub netlist : IsReferenceNetlist kit plan held name built.spice.items
  pub memory : AnswersFrom (organization plan) held
  -- so does the module that the Verilog spells, whichever it is, and it answers as the netlist does
  pub behaviour : SpellsHeld (organization plan) held built.verilog.items
  -- the layout that the bytes spell is, flat, the stated one; it breaks no rule, and its labels are joined as the reference netlist says
  pub spelled : SpellSoundLayout kit plan held name built.gds.items
  -- each of its shapes on a metal lies in the boxes of the LEF on this metal
  pub covered : SpellCoveredLayout kit name macro.view built.gds.items
  pub tracks : built.tracks ≡ macro.tracks
  pub leaves : built.leaves ≡ length (leaf_instances (organization plan))
  pub width : built.width ≡ macro.view.width
  pub height : built.height ≡ macro.view.height

-- a macro that has no flat layout, for this reason
pub record IsUnflat (kit : Kit) (plan : Plan) (held : Held) (name : List ℕ) (fault : FlattenFault) : Type 0 where
  pub macro : Macro
  pub is : IsMacro kit plan held name macro
  pub unflat : IsFault kit.tech.layers macro.lib.structs name fault
  pub some : fault ≢ flatten_fault.Memory

-- a macro whose report begins with this
pub record BreaksFirst (kit : Kit) (plan : Plan) (held : Held) (name : List ℕ) (violation : Violation) : Type 0 where
  pub macro : Macro
  pub lists : FlatLists
  pub more : List Violation
  pub checked : IsChecked kit plan held name macro lists (violation ∷ more)

-- a macro that breaks no rule, and whose labels differ first so from its netlist
pub record DiffersFirst (kit : Kit) (plan : Plan) (held : Held) (name : List ℕ) (difference : NetDiff) : Type 0 where
  pub macro : Macro
  pub lists : FlatLists
  pub clean : IsChecked kit plan held name macro lists []
  pub labels : List PlainNetLabel
  pub rows : List RowPin
  pub are : AreNetsAndRows kit held name macro lists labels rows
  pub differ : IsFirstDifference labels rows difference

-- why nothing is built
abbrev pub IsBuildFault : Kit → Plan → Held → List ℕ → BuildFault → Type 0
IsBuildFault kit plan held name (build_fault.Part fault) = (fault ≢ part_fault.Memory) × IsMacroFault kit plan held name fault
IsBuildFault kit plan held name (build_fault.Flatten fault) = IsUnflat kit plan held name fault
IsBuildFault kit plan held name (build_fault.RuleBroken violation) = BreaksFirst kit plan held name violation
IsBuildFault kit plan held name (build_fault.NetsDiffer difference) = DiffersFirst kit plan held name difference
IsBuildFault kit plan held name build_fault.Memory = Unit {0}
