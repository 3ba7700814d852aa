-- What the checks of a macro find, and what that says.
use Rattle.std.proofs.Common.{ℕ, List, [], ◌∷◌}
use Rattle.netlist.specs.declared.rows.RowPin.{RowPin}
use Rattle.cell_hierarchy.specs.FlatLists.{AreFlatLists, IsFault}
use Rattle.cell_hierarchy.specs.Plain.{FlatLists}
use Rattle.cell_hierarchy.specs.declared.fault.FlattenFault.{FlattenFault}
use Rattle.cell_hierarchy.specs.declared.fault.FlattenFault.TheVariants as flatten_fault
use Rattle.tile_checker.specs.declared.violation.Violation.{Violation}
use Rattle.tile_checker.specs.RuleReport.{IsReport}
use Rattle.net_extractor.specs.PlainNetLabel.{PlainNetLabel}
use Rattle.net_extractor.specs.Extraction.{AreNets}
use Rattle.net_extractor.specs.declared.difference.NetDiff.{NetDiff}
use Rattle.net_extractor.specs.Difference.{AreAlike}
use Rattle.net_extractor.specs.FirstDifference.{IsFirstDifference}
use Rattle.net_extractor.specs.FirstDifference.{IsFirstDifference}
use Rattle.spice_netlist.specs.Faults.{AreFlatRows}
use Rattle.sram_plan.specs.declared.numbers.Plan.{Plan}
use Rattle.port_lists.specs.Held.{Held}
use Rattle.leaf_tables.specs.declared.kit.Kit.{Kit}
use Rattle.leaf_tables.specs.declared.part.PartFault.{PartFault}
use Rattle.leaf_tables.specs.declared.part.PartFault.TheVariants as part_fault
use Rattle.sram_macro.specs.declared.assembly.Macro.{Macro}
use Rattle.sram_macro.specs.Leaves.{leaf_names}
use Rattle.sram_macro.specs.Macro.{IsMacro, IsMacroFault}
use Rattle.macro_build.specs.Built.{IsSoundMacro, IsBuildFault, BreaksFirst, DiffersFirst, all_subckts}
use Rattle.macro_build.specs.Causes.{of_part, of_flatten}
use Rattle.macro_build.specs.Checks.{AreNetsWithinRules}

-- why a part can't be built, and why there is no flat layout, are causes
pub part_cause : (kit : Kit) (plan : Plan) (held : Held) (name : List ℕ) (fault : PartFault) → IsMacroFault kit plan held name fault → IsBuildFault kit plan held name (of_part fault)
part_cause kit plan held name (part_fault.Close side first second) h = (λ e. cc, h)
part_cause kit plan held name (part_fault.TapsClose first second) h = (λ e. cc, h)
part_cause kit plan held name (part_fault.SliceTooNarrow role) h = (λ e. cc, h)
part_cause kit plan held name (part_fault.NameTaken taken) h = (λ e. cc, h)
part_cause kit plan held name part_fault.Memory h = tt

pub flatten_cause : (kit : Kit) (plan : Plan) (held : Held) (name : List ℕ) (m : Macro) (fault : FlattenFault) → IsMacro kit plan held name m → IsFault kit.tech.layers m.lib.structs name fault → IsBuildFault kit plan held name (of_flatten fault)
flatten_cause kit plan held name m (flatten_fault.UnknownStruct unknown) is h = record { macro = m; is = is; unflat = h; some = λ e. cc }
flatten_cause kit plan held name m (flatten_fault.Cycle cell) is h = record { macro = m; is = is; unflat = h; some = λ e. cc }
flatten_cause kit plan held name m (flatten_fault.TooDeep depth) is h = record { macro = m; is = is; unflat = h; some = λ e. cc }
flatten_cause kit plan held name m (flatten_fault.TooMany shapes labels) is h = record { macro = m; is = is; unflat = h; some = λ e. cc }
flatten_cause kit plan held name m (flatten_fault.Far x y) is h = record { macro = m; is = is; unflat = h; some = λ e. cc }
flatten_cause kit plan held name m flatten_fault.Memory is h = tt

pub within_rules : (kit : Kit) (plan : Plan) (held : Held) (name : List ℕ) (m : Macro) (lists : FlatLists) (labels : List PlainNetLabel) → IsMacro kit plan held name m → AreFlatLists kit.tech.layers m.lib.structs name lists
    → IsReport kit.tech.rules lists.shapes [] → AreNets kit.tech lists.shapes lists.labels labels → AreNetsWithinRules kit plan held name m labels
within_rules kit plan held name m lists labels is flat clean nets = record { lists = lists; clean = record { is = is; flat = flat; reported = clean }; nets = nets }

pub breaks_first : (kit : Kit) (plan : Plan) (held : Held) (name : List ℕ) (m : Macro) (lists : FlatLists) (violation : Violation) (more : List Violation) → IsMacro kit plan held name m → AreFlatLists kit.tech.layers m.lib.structs name lists
    → IsReport kit.tech.rules lists.shapes (violation ∷ more) → BreaksFirst kit plan held name violation
breaks_first kit plan held name m lists violation more is flat reported = record { macro = m; lists = lists; more = more; checked = record { is = is; flat = flat; reported = reported } }

pub sound : (kit : Kit) (plan : Plan) (held : Held) (name : List ℕ) (m : Macro) (labels : List PlainNetLabel) (rows : List RowPin) → AreNetsWithinRules kit plan held name m labels → AreFlatRows (all_subckts kit m) name (leaf_names kit held) rows
    → AreAlike labels rows → IsSoundMacro kit plan held name m
sound kit plan held name m labels rows within netlist alike = record { lists = within.lists; clean = within.clean; labels = labels; rows = rows; are = record { nets = within.nets; netlist = netlist }; alike = alike }

pub differs : (kit : Kit) (plan : Plan) (held : Held) (name : List ℕ) (m : Macro) (labels : List PlainNetLabel) (rows : List RowPin) (difference : NetDiff) → AreNetsWithinRules kit plan held name m labels
    → AreFlatRows (all_subckts kit m) name (leaf_names kit held) rows → IsFirstDifference labels rows difference → DiffersFirst kit plan held name difference
differs kit plan held name m labels rows difference within netlist differ =
    record { macro = m; lists = within.lists; clean = within.clean; labels = labels; rows = rows; are = record { nets = within.nets; netlist = netlist }; differ = differ }
