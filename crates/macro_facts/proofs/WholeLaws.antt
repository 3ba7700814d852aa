-- A macro's chains go on in its leaf cells, and its netlist is the reference netlist.
use Rattle.std.proofs.Common.{◌≡◌, List, ◌++◌, refl, sym, ap, subst}
use Rattle.netlist.specs.declared.deck.Deck.{Deck}
use Rattle.netlist.specs.declared.deck.Subckt.{Subckt}
use Rattle.port_lists.specs.Cells.{cell_in}
use Rattle.port_lists.specs.Contents.{held_cells}
use Rattle.port_lists.specs.Held.{Held}
use Rattle.sram_netlist.specs.Organization.{Organization}
use Rattle.sram_netlist.specs.Instances.{LeafInstance}
use Rattle.sram_plan.specs.PlanNumbers.{organization}
use Rattle.sram_deck.specs.Deck.{written_subckts}
use Rattle.sram_rows.specs.Rows.{DeckIsNetlist}
use Rattle.sram_rows.proofs.Final.{rows_equal}
use Rattle.leaf_tables.specs.declared.kit.Kit.{Kit}
use Rattle.leaf_tables.specs.Kits.{IsKit}
use Rattle.macro_layout.specs.Places.{leaf_cell}
use Rattle.macro_layout.specs.Sound.{IsSoundWithin}
use Rattle.macro_layout.proofs.SoundLaws.{macros_are_sound}
use Rattle.floorplan.specs.LayoutOfKit.{layout_kit}
use Rattle.macro_bounds.proofs.CompleteLaws.{flat_cells_are_complete, flat_cells_are_sound}
use Rattle.macro_bounds.proofs.LibraryLaws.{macro_libraries_are_macros}
use Rattle.sram_macro.specs.Leaves.{HasCellsFor, leaf_names}
use Rattle.sram_macro.specs.Library.{macro_list}
use Rattle.sram_macro.specs.Macro.{macro_bits}
use Rattle.sram_macro.proofs.HeldFacts.{leaves_flat}
use Rattle.sram_macro.proofs.StatedLaws.{drawing_of, is_macro_of}
use Rattle.macro_facts.specs.Whole.{MacrosAreWhole, MacrosHaveRows}

-- each leaf cell of a macro is flat in its kit
leaves_sound : (kit : Kit) → IsKit kit → (plan : Organization) (held : Held) → HasCellsFor kit held → (leaf : LeafInstance) → IsSoundWithin 32 kit.lib.structs (leaf_cell plan (layout_kit kit) (held_cells kit.tech.roles plan held) leaf)
leaves_sound kit is plan held has leaf =
    let flat = leaves_flat kit is plan held has leaf in
    flat_cells_are_sound kit.tech.layers kit.lib.structs (leaf_cell plan (layout_kit kit) (held_cells kit.tech.roles plan held) leaf) flat.0 flat.1

pub macros_are_whole : MacrosAreWhole
macros_are_whole kit plan held name m is_kit numbers is_held is =
    let org = organization plan in
    let d = drawing_of kit plan held name m is in
    macros_are_sound kit.tech.layers kit.lib.structs (macro_list kit org name d).cells m.lib.structs org (layout_kit kit) name d
    (is_macro_of macro_libraries_are_macros flat_cells_are_complete kit plan held name m is_kit numbers.plan is_held.cells is) 32 (λ leaf there. leaves_sound kit is_kit org held is_held.cells leaf)

pub macros_have_rows : MacrosHaveRows
macros_have_rows kit plan held name m numbers is =
    let cell = cell_in kit.tech.roles in
    let org = organization plan in
    let bits = macro_bits kit plan held in
    let ends = leaf_names kit held in
    let made : m.deck.subckts ≡ written_subckts org cell bits name = ap (λ (d : Deck). d.subckts) is.deck in
    (subst (λ (l : List Subckt). DeckIsNetlist org cell bits ends (kit.deck.subckts ++ l) name) (sym made) (rows_equal org cell bits ends kit.deck.subckts name name numbers.plan is.leaves refl).0).faults
