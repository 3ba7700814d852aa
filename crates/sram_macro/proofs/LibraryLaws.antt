-- The cells of a macro, one after the other.
use Rattle.std.proofs.Common.{◌≡◌, ℕ, ◌+◌, ◌<◌, ◌≤◌, ℤ, ◌-ℤ◌, List, [], ◌∷◌, ◌++◌, length, length-append, append_assoc, refl, ap, ◌∙◌, arith, w64, to_z, of_z}
use Rattle.std.specs.List.{AllByRecursion}
use Rattle.std.proofs.lemmas.Int.{ints}
use Rattle.gds_library.specs.declared.library.Structure.{Structure}
use Rattle.tech_rules.specs.declared.tech.Layer.{Layer}
use Rattle.cell_builder.specs.declared.cell.DrawnCell.{DrawnCell}
use Rattle.cell_builder.specs.CellList.{CellList, with_structures, with_drawn}
use Rattle.cell_builder.specs.Flat.{HasLayers}
use Rattle.sram_netlist.specs.Organization.{Organization, IsBuildable, bank_rows}
use Rattle.sram_netlist.specs.InstanceList.{tabulate}
use Rattle.sram_netlist.specs.BitCells.{BitCells, row_kinds}
use Rattle.leaf_tables.specs.declared.kit.Kit.{Kit}
use Rattle.floorplan.specs.declared.numbers.FloorplanNumbers.{FloorplanNumbers}
use Rattle.floorplan.specs.FloorplanNumbers.{IsUpTo}
use Rattle.sram_macro.specs.declared.library.Wires.{Wires}
use Rattle.macro_layout.specs.LayoutKit.{LayoutKit}
use Rattle.macro_layout.specs.Cells.{row_cell, array_cell, pre_cell, data_cell, bank_cell, logic_row_cell, macro_cell}
use Rattle.macro_layout.specs.Layout.{Drawing}
use Rattle.macro_layout.specs.Places.{Floorplan}
use Rattle.macro_bounds.specs.Writable.{macro_cells}
use Rattle.macro_bounds.proofs.LibraryLaws.{macro_cells_have_layers}
use Rattle.floorplan.specs.LayoutOfKit.{layout_kit}
use Rattle.bitcell_array.specs.ArrayPart.{row_cells, array_cells, with_array_cells}
use Rattle.bitcell_array.proofs.RowLaws.{more_kinds}
use Rattle.sram_macro.specs.Library.{part_cells, macro_list, drawing_with, AreOnLayers}

-- three items more
pub three_added : {X : Type 0} (before l0 l1 l2 l3 : List X) (a b c first second third : X) → l0 ≡ before → l1 ≡ l0 ++ a ∷ [] → l2 ≡ l1 ++ b ∷ [] → l3 ≡ l2 ++ c ∷ [] → a ≡ first → b ≡ second → c ≡ third → l3 ≡ before ++ first ∷ second ∷ third ∷ []
three_added {X = X} before l0 l1 l2 l3 a b c first second third sofar one two three is_first is_second is_third =
    let now : l1 ≡ before ++ first ∷ [] = one ∙ (λ i. sofar i ++ is_first i ∷ []) in
    let then : l2 ≡ (before ++ first ∷ []) ++ second ∷ [] = two ∙ (λ i. now i ++ is_second i ∷ []) in
    let last : l3 ≡ ((before ++ first ∷ []) ++ second ∷ []) ++ third ∷ [] = three ∙ (λ i. then i ++ is_third i ∷ []) in
    last ∙ (append_assoc (before ++ first ∷ []) (second ∷ []) (third ∷ []) ∙ append_assoc before (first ∷ []) (second ∷ third ∷ []))

-- three cells more
pub three_more : (before : List DrawnCell) (l0 l1 l2 l3 : CellList) (a b c first second third : DrawnCell) → l0.cells ≡ before → l1 ≡ with_drawn a l0 → l2 ≡ with_drawn b l1 → l3 ≡ with_drawn c l2 → a ≡ first → b ≡ second → c ≡ third
    → l3.cells ≡ before ++ first ∷ second ∷ third ∷ []
three_more before l0 l1 l2 l3 a b c first second third sofar one two three =
    three_added before l0.cells l1.cells l2.cells l3.cells a b c first second third sofar (ap (λ (l : CellList). l.cells) one) (ap (λ (l : CellList). l.cells) two) (ap (λ (l : CellList). l.cells) three)

pub still_adopted : (old new : CellList) (made : DrawnCell) (structs : List Structure) → old.adopted ≡ structs → new ≡ with_drawn made old → new.adopted ≡ structs
still_adopted old new made structs sofar is = ap (λ (l : CellList). l.adopted) is ∙ sofar

pub now_adopted : (old new : CellList) (structs : List Structure) → old.adopted ≡ [] → new ≡ with_structures structs old → new.adopted ≡ structs
now_adopted old new structs none is = ap (λ (l : CellList). l.adopted) is ∙ ap (λ (l : List Structure). l ++ structs) none

pub same_cells : (old new : CellList) (structs : List Structure) (cells : List DrawnCell) → old.cells ≡ cells → new ≡ with_structures structs old → new.cells ≡ cells
same_cells old new structs cells sofar is = ap (λ (l : CellList). l.cells) is ∙ sofar

pub list_is : (list : CellList) (structs : List Structure) (cells : List DrawnCell) → list.adopted ≡ structs → list.cells ≡ cells → list ≡ record { adopted = structs; cells = cells }
list_is list structs cells first second = λ i. record { adopted = first i; cells = second i }

-- all layers are there, where those of the wires and labels are
pub on_layers : (layers : List Layer) (kit : Kit) (plan : Organization) (n : List ℕ) (bits : BitCells) (floorplan : FloorplanNumbers) (wires : Wires) → AreOnLayers layers wires → AllByRecursion (HasLayers layers) (macro_list kit plan n (drawing_with bits floorplan wires)).cells
on_layers layers kit plan n bits floorplan wires on = macro_cells_have_layers layers plan (layout_kit kit) n (drawing_with bits floorplan wires) (record { bank_wires = on.bank; wires = on.top; labels = on.labels })

-- the cells of the array, behind none, and those of the data
pub parts_are : (old l1 l2 : CellList) (parts : List DrawnCell) (made data_ : DrawnCell) → old.cells ≡ [] → l1 ≡ record { adopted = old.adopted; cells = old.cells ++ parts } → l2 ≡ with_drawn made l1 → made ≡ data_ → l2.cells ≡ parts ++ data_ ∷ []
parts_are old l1 l2 parts made data_ none first second is =
    let sofar : l1.cells ≡ parts = ap (λ (l : CellList). l.cells) first ∙ ap (λ (l : List DrawnCell). l ++ parts) none in
    ap (λ (l : CellList). l.cells) second ∙ (λ i. sofar i ++ is i ∷ [])

-- the cells of the array are few
pub few_array : (plan : Organization) (kit : LayoutKit) (bits : BitCells) (n : List ℕ) (old new : CellList) → IsBuildable plan → old.cells ≡ [] → new ≡ with_array_cells plan kit bits n old → length new.cells ≤ 258
few_array plan kit bits n old new buildable none is =
    let long = ap (λ (l : CellList). length l.cells) is ∙ (ap (λ (l : List DrawnCell). length (l ++ array_cells plan kit bits n)) none ∙ length-append (row_cells plan kit bits n) (array_cell plan kit bits n ∷ pre_cell plan kit n ∷ [])) in
    let few = more_kinds plan bits (row_cell plan kit bits n) [] (row_cells plan kit bits n) buildable refl in
    omega (arith, long, few)

-- the cells of a bank's parts and three more are those of a macro
pub all_cells : (kit : Kit) (plan : Organization) (n : List ℕ) (d : Drawing)
    → part_cells kit plan d.bits n d.floorplan ++ bank_cell plan (layout_kit kit) d.floorplan n d.bank_wires ∷ logic_row_cell plan (layout_kit kit) n ∷ macro_cell plan d.floorplan n d.wires d.labels ∷ [] ≡ macro_cells plan (layout_kit kit) n d
all_cells kit plan n d =
    append_assoc (tabulate (row_kinds d.bits (bank_rows plan)) (row_cell plan (layout_kit kit) d.bits n)) (array_cell plan (layout_kit kit) d.bits n ∷ pre_cell plan (layout_kit kit) n ∷ data_cell plan (layout_kit kit) d.floorplan n ∷ [])
    (bank_cell plan (layout_kit kit) d.floorplan n d.bank_wires ∷ logic_row_cell plan (layout_kit kit) n ∷ macro_cell plan d.floorplan n d.wires d.labels ∷ [])

-- there are few cells
pub few_parts : (kit : Kit) (plan : Organization) (bits : BitCells) (n : List ℕ) (floorplan : Floorplan) (list : List DrawnCell) → IsBuildable plan → list ≡ part_cells kit plan bits n floorplan → length list ≤ 259
few_parts kit plan bits n floorplan list buildable is =
    let rows = tabulate (row_kinds bits (bank_rows plan)) (row_cell plan (layout_kit kit) bits n) in
    let more = array_cell plan (layout_kit kit) bits n ∷ pre_cell plan (layout_kit kit) n ∷ data_cell plan (layout_kit kit) floorplan n ∷ [] in
    let long = ap length is ∙ length-append rows more in
    let few = more_kinds plan bits (row_cell plan (layout_kit kit) bits n) [] rows buildable refl in
    omega (arith, long, few)

-- the height of one row of cells above another
pub apart : (a b : ℤ) → IsUpTo 1073741824 a → IsUpTo 1073741824 b → to_z w64 (of_z w64 (to_z w64 (of_z w64 a) -ℤ to_z w64 (of_z w64 b))) ≡ a -ℤ b
apart a b first second = omega (arith, ints, first.above, first.below, second.above, second.below)
