-- A macro is the stated layout over the leaf cells of its kit.
use Rattle.std.specs.Prelude.{◌≡◌, ℕ, List, Some}
use Rattle.tech_rules.specs.declared.tech.Wire.{Wire}
use Rattle.channel_router.specs.declared.channel.Channel.{Channel}
use Rattle.channel_router.specs.declared.channel.Interval.{Interval}
use Rattle.cell_hierarchy.specs.FlatLists.{AreFlatLists}
use Rattle.cell_hierarchy.specs.Plain.{FlatLists}
use Rattle.sram_netlist.specs.BitCells.{BitCells}
use Rattle.sram_netlist.specs.Numbers.{ArePlanNumbers}
use Rattle.sram_netlist.specs.Organization.{Organization}
use Rattle.sram_plan.specs.declared.numbers.Plan.{Plan}
use Rattle.sram_plan.specs.PlanNumbers.{numbers_of, organization}
use Rattle.sram_plan.specs.declared.view.Abstract.{Abstract}
use Rattle.leaf_tables.specs.declared.kit.Kit.{Kit}
use Rattle.leaf_tables.specs.Kits.{IsKit}
use Rattle.macro_layout.specs.Places.{Floorplan}
use Rattle.macro_layout.specs.Floorplan.{Tracks, IsFloorplan}
use Rattle.macro_layout.specs.Channels.{IsColumnChannel, IsMainChannel, IsRoutedBy}
use Rattle.macro_layout.specs.Stated.{AreStated}
use Rattle.floorplan.specs.LayoutOfKit.{layout_kit}
use Rattle.port_data.specs.Column.{AreWideSlices}
use Rattle.view_cover.specs.View.{IsViewOf}
use Rattle.sram_macro.specs.declared.assembly.Macro.{Macro}
use Rattle.sram_macro.specs.Leaves.{IsHeld}
use Rattle.port_lists.specs.Held.{Held}
use Rattle.sram_macro.specs.Macro.{IsMacro, macro_bits}

-- a channel that is meant takes so many tracks
pub record TakesTracks (IsMeant : Channel → Type 0) (wire : Wire) (tracks : ℕ) : Type 0 where
  pub channel : Channel
  pub intervals : List Interval
  pub track : List ℕ
  pub routed : IsRoutedBy IsMeant wire tracks channel intervals track

-- The flat lists are the stated layout: on the floorplan with room for the tracks that the two channels take, exactly the shapes and
-- labels of the leaf instances, the wires, and the labels of the ports. Each leaf is what its cell is, flat, in the kit's library.
pub record IsStatedLayout (kit : Kit) (plan : Organization) (bits : BitCells) (lists : FlatLists) : Type 0 where
  pub wire : Wire
  pub wired : kit.tech.wire ≡ Some wire
  pub tracks : Tracks
  pub floorplan : Floorplan
  pub stands : IsFloorplan plan (layout_kit kit) wire tracks floorplan
  pub main : TakesTracks (IsMainChannel plan (layout_kit kit) wire floorplan) wire tracks.main
  pub column : TakesTracks (IsColumnChannel plan (layout_kit kit) wire floorplan) wire tracks.column
  pub are : AreStated kit.tech.layers kit.lib.structs plan (layout_kit kit) bits wire tracks floorplan lists

-- So they are, and the abstract view is that of the same floorplan, whose slices are wide enough.
pub record IsViewedLayout (kit : Kit) (plan : Organization) (bits : BitCells) (view : Abstract) (lists : FlatLists) : Type 0 where
  pub stated : IsStatedLayout kit plan bits lists
  pub view_of : IsViewOf plan (layout_kit kit) stated.wire stated.tracks stated.floorplan view
  pub wide : AreWideSlices plan (layout_kit kit)

-- The flat lists of a macro are the stated layout, and its view is that of the same floorplan.
abbrev pub MacrosAreStated : Type 0
MacrosAreStated = (kit : Kit) (plan : Plan) (held : Held) (name : List ℕ) (m : Macro) → IsKit kit → ArePlanNumbers (numbers_of plan) → IsHeld kit plan held → IsMacro kit plan held name m
    → (lists : FlatLists) → AreFlatLists kit.tech.layers m.lib.structs name lists → IsViewedLayout kit (organization plan) (macro_bits kit plan held) m.view lists
