-- What the files of a macro say to whoever reads them.
use Rattle.std.specs.Prelude.{◌≡◌, ℕ, ◌<◌, List, [], ◌++◌, map, length, slice_index, Contains, Some, Ok}
use Rattle.or_geom.specs.declared.shape.Shape.{Shape}
use Rattle.gds_library.specs.declared.library.Library.{Library}
use Rattle.gds_library.specs.declared.library.Structure.{Structure}
use Rattle.gds_library.specs.Grammar.{Spells}
use Rattle.netlist.specs.declared.deck.Deck.{Deck}
use Rattle.netlist.specs.declared.deck.Subckt.{Subckt}
use Rattle.netlist.specs.declared.rows.RowPin.{RowPin}
use Rattle.spice_text.specs.Deck.{deck}
use Rattle.spice_text.specs.Writable.{lowered_subckt}
use Rattle.cell_hierarchy.specs.FlatLists.{AreFlatLists}
use Rattle.cell_hierarchy.specs.Plain.{FlatLists}
use Rattle.tile_checker.specs.RuleReport.{IsReport}
use Rattle.net_extractor.specs.PlainNetLabel.{PlainNetLabel}
use Rattle.net_extractor.specs.Extraction.{AreNets}
use Rattle.net_extractor.specs.Difference.{AreAlike}
use Rattle.sram_deck.specs.Deck.{written_subckts}
use Rattle.sram_rows.specs.Rows.{netlist_pins, RowsEqual, DeckIsNetlist}
use Rattle.sram_plan.specs.declared.numbers.Plan.{Plan}
use Rattle.sram_plan.specs.PlanNumbers.{organization}
use Rattle.sram_plan.specs.declared.view.Abstract.{Abstract}
use Rattle.tech_rules.specs.declared.tech.Wire.{Wire}
use Rattle.macro_views.specs.Boxes.{IsCoveredOn}
use Rattle.port_lists.specs.Cells.{cell_in}
use Rattle.port_lists.specs.Held.{Held}
use Rattle.leaf_tables.specs.declared.kit.Kit.{Kit}
use Rattle.sram_macro.specs.Leaves.{leaf_names}
use Rattle.sram_macro.specs.Macro.{macro_bits}
use Rattle.sram_macro.specs.Stated.{IsStatedLayout}

-- the subcircuits of the kit, and behind them the macro's with names in lower case
abbrev pub read_subckts : Kit → Plan → Held → List ℕ → List Subckt
read_subckts kit plan held name = kit.deck.subckts ++ map lowered_subckt (written_subckts (organization plan) (cell_in kit.tech.roles) (macro_bits kit plan held) name)

-- the text is read as those subcircuits, all of it
abbrev pub IsReadInLowerCase : Kit → Plan → Held → List ℕ → List ℕ → Type 0
IsReadInLowerCase kit plan held name text = deck text ≡ Ok (record { subckts = read_subckts kit plan held name; used = length text })

-- whatever the text is read as has flat rows for the macro, and they are those of the reference netlist
abbrev pub IsReferenceNetlist : Kit → Plan → Held → List ℕ → List ℕ → Type 0
IsReferenceNetlist kit plan held name text = (d : Deck) → deck text ≡ Ok d → DeckIsNetlist (organization plan) (cell_in kit.tech.roles) (macro_bits kit plan held) (leaf_names kit held) d.subckts name

-- each of the shapes on a metal lies in the boxes of the view's LEF on this metal
abbrev pub AreCoveredBy : Kit → Abstract → List Shape → Type 0
AreCoveredBy kit view shapes = (wire : Wire) (metal : ℕ) (s : Shape) → kit.tech.wire ≡ Some wire → metal < 4 → s.layer ≡ slice_index wire.metals metal → Contains shapes s → IsCoveredOn view metal s.rect

-- whichever library the bytes spell, the flat shapes of the structure of this name do
abbrev pub SpellCoveredLayout : Kit → List ℕ → Abstract → List ℕ → Type 0
SpellCoveredLayout kit name view bytes = (lib : Library) (lists : FlatLists) → Spells bytes lib → AreFlatLists kit.tech.layers lib.structs name lists → AreCoveredBy kit view lists.shapes

-- The structure of this name is, flat, the stated layout; that breaks no rule, and its labels are joined exactly as the reference netlist says.
pub record IsSoundLayout (kit : Kit) (plan : Plan) (held : Held) (name : List ℕ) (structs : List Structure) : Type 0 where
  pub lists : FlatLists
  pub flat : AreFlatLists kit.tech.layers structs name lists
  pub stated : IsStatedLayout kit (organization plan) (macro_bits kit plan held) lists
  pub clean : IsReport kit.tech.rules lists.shapes []
  pub labels : List PlainNetLabel
  pub nets : AreNets kit.tech lists.shapes lists.labels labels
  pub rows : List RowPin
  pub netlist : RowsEqual rows (netlist_pins (organization plan) (cell_in kit.tech.roles) (macro_bits kit plan held))
  pub alike : AreAlike labels rows

-- the bytes spell a library, and whichever they spell is so
pub record SpellSoundLayout (kit : Kit) (plan : Plan) (held : Held) (name : List ℕ) (bytes : List ℕ) : Type 0 where
  pub some : (lib : Library) × Spells bytes lib
  pub each : (lib : Library) → Spells bytes lib → IsSoundLayout kit plan held name lib.structs
