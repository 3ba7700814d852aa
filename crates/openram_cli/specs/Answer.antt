-- What the program answers to its words, over the files that a store tells.
use Rattle.std.specs.Prelude.{◌≡◌, ℕ, ◌<◌, List, map, Option, Result, Ok, Err, MatchOption}
use Rattle.or_geom.specs.declared.shape.Shape.{Shape}
use Rattle.or_host.specs.Files.{Files}
use Rattle.tech_rules.specs.declared.tech.Tech.{Tech}
use Rattle.cell_hierarchy.specs.declared.flat.Flat.{Flat}
use Rattle.cell_hierarchy.specs.FlatLists.{AreFlatShapes, AreFlatLists, IsFault}
use Rattle.cell_hierarchy.specs.Plain.{FlatLists, lists_of}
use Rattle.cell_hierarchy.specs.declared.fault.FlattenFault.{FlattenFault}
use Rattle.tile_checker.specs.declared.violation.Violation.{Violation}
use Rattle.tile_checker.specs.RuleReport.{IsReport}
use Rattle.net_extractor.specs.PlainNetLabel.{PlainNetLabel}
use Rattle.net_extractor.specs.Extraction.{AreNets}
use Rattle.net_extractor.specs.declared.difference.NetDiff.{NetDiff}
use Rattle.net_extractor.specs.Difference.{AreAlike}
use Rattle.net_extractor.specs.FirstDifference.{IsFirstDifference}
use Rattle.netlist.specs.declared.deck.Deck.{Deck}
use Rattle.netlist.specs.declared.rows.Rows.{Rows}
use Rattle.netlist.specs.declared.rows.RowPin.{RowPin}
use Rattle.spice_netlist.specs.Faults.{AreFlatRows, IsFlatFault}
use Rattle.device_lvs.specs.RoleSteps.{leaf_files}
use Rattle.device_command.specs.DeviceLines.{AreDevicesAnswered}
use Rattle.kit_command.specs.WeakLines.{IsKitAnswered}
use Rattle.reply_lines.specs.declared.refusal.Refusal.{Refusal}
use Rattle.reply_lines.specs.declared.refusal.Refusal.TheVariants as refusal_of
use Rattle.reply_lines.specs.declared.reply.Reply.{Reply}
use Rattle.reply_lines.specs.Differences.{comparison_reply}
use Rattle.reply_lines.specs.NetLines.{nets_reply}
use Rattle.reply_lines.specs.Reply.{refusal_reply, report_reply}
use Rattle.openram_cli.specs.declared.inputs.Inputs.{Inputs}
use Rattle.openram_cli.specs.declared.inputs.Inputs.TheVariants as inputs
use Rattle.openram_cli.specs.declared.inputs.LayoutInput.{LayoutInput}
use Rattle.openram_cli.specs.Inspection.{Inspection, inspection_of}
use Rattle.openram_cli.specs.Inputs.{AreInputs}
use Rattle.command_steps.specs.Outcome.{WithoutRefusal, ValueOrFault, Then}

-- why the structure has no flat layout
abbrev pub IsFlatteningFault : LayoutInput → FlattenFault → Type 0
IsFlatteningFault layout = IsFault layout.tech.layers layout.lib.structs layout.top

-- the flat shapes of the structure, or the first refusal
abbrev pub AreFlatShapesOf : LayoutInput → Result (List Shape) Refusal → Type 0
AreFlatShapesOf layout = ValueOrFault (AreFlatShapes layout.tech.layers layout.lib.structs layout.top) (IsFlatteningFault layout) refusal_of.Flatten

-- the flat shapes and labels of the structure, or the first refusal
abbrev pub AreFlat : LayoutInput → Result FlatLists Refusal → Type 0
AreFlat layout = ValueOrFault (AreFlatLists layout.tech.layers layout.lib.structs layout.top) (IsFlatteningFault layout) refusal_of.Flatten

-- the same of a flat layout, wherever its lists lie: of its shapes alone, and of both lists
abbrev pub AreFlatShapesIn : LayoutInput → Result Flat Refusal → Type 0
AreFlatShapesIn layout = ValueOrFault (λ flat. AreFlatShapes layout.tech.layers layout.lib.structs layout.top flat.shapes.now) (IsFlatteningFault layout) refusal_of.Flatten

abbrev pub AreFlatListsIn : LayoutInput → Result Flat Refusal → Type 0
AreFlatListsIn layout = ValueOrFault (λ flat. AreFlatLists layout.tech.layers layout.lib.structs layout.top (lists_of flat)) (IsFlatteningFault layout) refusal_of.Flatten

-- the cells of the technology's roles, which are the leaves of a netlist
abbrev pub leaves_of : Tech → List (List ℕ)
leaves_of tech = map (λ r. r.cell) tech.roles

-- the flat rows of the subcircuit that has the structure's name, without regard to case, or the first refusal
abbrev pub AreLeafRows : LayoutInput → Deck → Result Rows Refusal → Type 0
AreLeafRows layout d =
    ValueOrFault (λ rows. AreFlatRows d.subckts layout.top (leaves_of layout.tech) rows.pins) (IsFlatFault d.subckts layout.top (leaves_of layout.tech)) refusal_of.Rows

-- the labels with their nets
abbrev pub AreNetsOf : Tech → FlatLists → List PlainNetLabel → Type 0
AreNetsOf tech lists labels = AreNets tech lists.shapes lists.labels labels

-- the report of the shapes
abbrev pub IsReported : Tech → List Shape → Reply → Type 0
IsReported tech shapes reply =
    (violations : List Violation) × IsReport tech.rules shapes violations × (reply ≡ report_reply tech.layers violations)

-- the list of the labels with their nets
abbrev pub IsNetListing : Tech → FlatLists → Reply → Type 0
IsNetListing tech lists reply = (labels : List PlainNetLabel) × AreNetsOf tech lists labels × (reply ≡ nets_reply tech.layers labels)

-- the first difference of labels and rows; none where they are alike
abbrev pub IsDifference : List PlainNetLabel → List RowPin → Option NetDiff → Type 0
IsDifference labels rows difference = MatchOption difference (AreAlike labels rows) (IsFirstDifference labels rows)

-- the first difference of the labels' nets from the rows, if there is one
abbrev pub IsCompared : Tech → FlatLists → Rows → Reply → Type 0
IsCompared tech lists rows reply =
    (labels : List PlainNetLabel) × AreNetsOf tech lists labels
    × ((difference : Option NetDiff) × IsDifference labels rows.pins difference × (reply ≡ comparison_reply difference))

-- the answer of `check`, in which labels play no part, and how many workers do it neither
abbrev pub IsCheckAnswer : LayoutInput → Result Reply Refusal → Type 0
IsCheckAnswer layout = Then (AreFlatShapesOf layout) (λ shapes. WithoutRefusal (IsReported layout.tech shapes))

-- the answer of `nets`
abbrev pub IsNetsAnswer : LayoutInput → Result Reply Refusal → Type 0
IsNetsAnswer layout = Then (AreFlat layout) (λ lists. WithoutRefusal (IsNetListing layout.tech lists))

-- the answer of `compare`
abbrev pub IsCompareAnswer : LayoutInput → Deck → Result Reply Refusal → Type 0
IsCompareAnswer layout d =
    Then (AreFlat layout) (λ lists.
    Then (AreLeafRows layout d) (λ rows.
    WithoutRefusal (IsCompared layout.tech lists rows)))

-- the answer to the inputs of a command
abbrev pub IsReplyTo : Inputs → Result Reply Refusal → Type 0
IsReplyTo (inputs.Check layout) = IsCheckAnswer layout
IsReplyTo (inputs.Nets layout) = IsNetsAnswer layout
IsReplyTo (inputs.Compare layout d) = IsCompareAnswer layout d
IsReplyTo (inputs.Devices cells) = AreDevicesAnswered (leaf_files cells.tech cells.lib cells.deck)
IsReplyTo (inputs.Kit kit) = IsKitAnswered kit

-- words that are no form are refused, whatever the files are
abbrev pub IsUsage : Result Reply Refusal → Type 0
IsUsage (Ok reply) = ⊥
IsUsage (Err refusal) = refusal ≡ refusal_of.Usage

-- the order of work: the inputs are read, and then answered
abbrev pub IsCommandWork : Files → Inspection → Result Reply Refusal → Type 0
IsCommandWork files c = Then (AreInputs files c) IsReplyTo

-- what the work on words ends with. The read of any file on the way may fail; nothing else is left open.
abbrev pub IsWork : List (List ℕ) → Files → Result Reply Refusal → Type 0
IsWork words files result = MatchOption (inspection_of words) (IsUsage result) (λ c. IsCommandWork files c result)

-- the reply, or that of the refusal
abbrev pub reply_of : Result Reply Refusal → Reply
reply_of (Ok reply) = reply
reply_of (Err refusal) = refusal_reply refusal

-- the answer to words: where no read fails and memory lasts
pub record IsAnswer (words : List (List ℕ)) (files : Files) (reply : Reply) : Type 0 where
  pub result : Result Reply Refusal
  pub work : IsWork words files result
  pub is : reply ≡ reply_of result
  pub settled : reply.status < 4

-- a file that the words make the program read, unless something is refused before
abbrev pub IsRead : List (List ℕ) → Files → List ℕ → Type 0
IsRead words files name = IsWork words files (Err (refusal_of.ReadFailed name))
