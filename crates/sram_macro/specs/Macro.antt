-- What a macro is that is assembled, and why there is none.
use Rattle.std.specs.Prelude.{◌≡◌, ◌⊎◌, ◌↔◌, ℕ, pos, List, Contains, Some, None}
use Rattle.std.specs.List.Sorted.{IsStrictlySortedBy}
use Rattle.or_geom.specs.declared.shape.Shape.{Shape}
use Rattle.or_geom.specs.ShapeOrder.{shape_order}
use Rattle.gds_library.specs.Writable.{IsWritable}
use Rattle.netlist.specs.declared.deck.Deck.{Deck}
use Rattle.tech_rules.specs.declared.tech.Wire.{Wire}
use Rattle.channel_router.specs.declared.channel.Routed.{Routed}
use Rattle.cell_builder.specs.Finish.{IsLibraryOf}
use Rattle.sram_netlist.specs.Organization.{Organization}
use Rattle.sram_netlist.specs.BitCells.{BitCells}
use Rattle.sram_deck.specs.Deck.{written_subckts}
use Rattle.sram_plan.specs.declared.numbers.Plan.{Plan}
use Rattle.sram_plan.specs.PlanNumbers.{organization}
use Rattle.sram_plan.specs.View.{IsView}
use Rattle.sram_plan.specs.declared.view.SignalPin.{SignalPin}
use Rattle.sram_rows.specs.Rows.{AreLeavesFor}
use Rattle.leaf_tables.specs.declared.kit.Kit.{Kit}
use Rattle.leaf_tables.specs.declared.part.PartFault.{PartFault}
use Rattle.port_lists.specs.Cells.{cell_in}
use Rattle.port_lists.specs.Held.{Held}
use Rattle.port_lists.specs.Contents.{held_cells}
use Rattle.sram_macro.specs.Leaves.{leaf_names}
use Rattle.port_data.specs.Column.{AreWideSlices, IsColumnOf}
use Rattle.port_data.specs.DataPart.{IsDataRefused}
use Rattle.macro_layout.specs.LayoutKit.{LayoutKit}
use Rattle.macro_layout.specs.Wires.{IsPowerWire, IsGroundWire}
use Rattle.floorplan.specs.FloorplanNumbers.{floorplan_of}
use Rattle.macro_bounds.specs.Differ.{macro_names}
use Rattle.floorplan.specs.LayoutOfKit.{layout_kit}
use Rattle.sram_macro.specs.declared.assembly.Macro.{Macro}
use Rattle.sram_macro.specs.declared.layout.Layout.{Layout}
use Rattle.sram_macro.specs.declared.library.Wires.{Wires}
use Rattle.sram_macro.specs.Library.{macro_list, drawing_with, AreOnLayers}
use Rattle.sram_macro.specs.Signals.{signal_names, input_count, signals_on_tracks, macro_labels}
use Rattle.sram_macro.specs.View.{macro_view}
use Rattle.sram_macro.specs.Names.{first_taken, IsTakenFault}
use Rattle.sram_macro.specs.Layout.{IsMacroLayout, IsMacroLayoutFault}

-- which of the kit's cells hold the bits
abbrev pub macro_bits : Kit → Plan → Held → BitCells
macro_bits kit plan held = held_cells kit.tech.roles (organization plan) held

-- the subcircuits that are written behind those of the kit
abbrev pub macro_deck : Kit → Plan → Held → List ℕ → Deck
macro_deck kit plan held name = record { subckts = written_subckts (organization plan) (cell_in kit.tech.roles) (macro_bits kit plan held) name; used = 0 }

-- the names of its cells and subcircuits, in the order in which they are written
abbrev pub names_of_macro : Kit → Plan → Held → List ℕ → List (List ℕ)
names_of_macro kit plan held name = macro_names (organization plan) (macro_bits kit plan held) name

-- the wires of the macro's cells: a bank's; those of the main channel and of the supplies, each once and in order; and the labels
pub record AreWiresOf (plan : Organization) (kit : LayoutKit) (wire : Wire) (layout : Layout) (pins : List SignalPin) (wires : Wires) : Type 0 where
  pub bank : wires.bank.items ≡ layout.bank.items
  pub top_rises : IsStrictlySortedBy shape_order wires.top.items
  pub top : (s : Shape) → Contains wires.top.items s
      ↔ (Contains layout.main.shapes s ⊎ (IsPowerWire plan kit wire (floorplan_of layout.floorplan) s ⊎ IsGroundWire plan kit wire (floorplan_of layout.floorplan) s))
  pub labels : wires.labels.items ≡ macro_labels wire layout.ends pins

-- the signal ports, on their tracks of the main channel
abbrev pub layout_pins : Organization → Wire → Layout → List SignalPin
layout_pins plan wire layout = signals_on_tracks wire (pos layout.sides.inv_height) (input_count plan) (signal_names plan) layout.main.track

-- The library is that of the stated cells with these wires, behind the kit's structures; the view is that of the layout.
pub record IsDrawnFrom (kit : Kit) (plan : Organization) (bits : BitCells) (name : List ℕ) (layout : Layout) (m : Macro) : Type 0 where
  pub wire : Wire
  pub wired : kit.tech.wire ≡ Some wire
  pub wires : Wires
  pub are : AreWiresOf plan (layout_kit kit) wire layout (layout_pins plan wire layout) wires
  pub layers : AreOnLayers kit.tech.layers wires
  pub library : IsLibraryOf kit.tech.layers (macro_list kit plan name (drawing_with bits layout.floorplan wires)) name m.lib
  pub view : m.view ≡ macro_view kit.tech.layers name wire layout.ends (layout_pins plan wire layout)
  pub tracks : m.tracks ≡ layout.main.tracks

-- the macro is laid out around its column channel
pub record IsLaidOut (kit : Kit) (plan : Organization) (layout : Layout) : Type 0 where
  pub column : Routed
  pub of : IsColumnOf kit plan column
  pub is : IsMacroLayout kit plan column layout

-- A macro of a kit and a plan, whose bits are these, under a name.
pub record IsMacro (kit : Kit) (plan : Plan) (held : Held) (name : List ℕ) (m : Macro) : Type 0 where
  -- no name is taken, and no slice is too narrow
  pub free : first_taken kit (names_of_macro kit plan held name) ≡ None
  pub wide : AreWideSlices (organization plan) (layout_kit kit)
  pub named : m.lib.name ≡ name
  pub writable : IsWritable m.lib
  pub deck : m.deck ≡ macro_deck kit plan held name
  -- the kit's subcircuits are those of the leaf cells, and none has a name that is written
  pub leaves : AreLeavesFor (organization plan) (cell_in kit.tech.roles) (macro_bits kit plan held) (leaf_names kit held) kit.deck.subckts name
  pub good_view : IsView m.view
  pub layout : Layout
  pub laid : IsLaidOut kit (organization plan) layout
  pub drawn : IsDrawnFrom kit (organization plan) (macro_bits kit plan held) name layout m

-- the data is refused, or else taps of a bank or pins of the main channel are too close
abbrev pub IsPartsFault : Kit → Organization → PartFault → Type 0
IsPartsFault kit plan fault =
    IsDataRefused kit plan fault
    ⊎ (AreWideSlices plan (layout_kit kit) × ((column : Routed) × IsColumnOf kit plan column × IsMacroLayoutFault kit plan column fault))

-- Why there is no macro: the first name that is taken, or else the first fault of its parts.
abbrev pub IsMacroFault : Kit → Plan → Held → List ℕ → PartFault → Type 0
IsMacroFault kit plan held name fault =
    IsTakenFault kit (names_of_macro kit plan held name) fault
    ⊎ ((first_taken kit (names_of_macro kit plan held name) ≡ None) × IsPartsFault kit (organization plan) fault)
