-- The library of a macro.
use Rattle.std.proofs.Common.{◌≡◌, ℕ, zero, suc, ◌+◌, ◌<◌, List, [], ◌∷◌, ◌++◌, map, refl, sym, ap, subst, ◌∙◌, arith}
use Rattle.std.specs.Prelude.{Contains}
use Rattle.std.specs.List.{AllByRecursion}
use Rattle.std.proofs.lemmas.List.Elements.{Contains-append_left, Contains-append_right}
use Rattle.or_geom.proofs.ListLaws.{contains_here, contains_later}
use Rattle.cell_builder.specs.declared.cell.DrawnCell.{DrawnCell}
use Rattle.cell_builder.specs.Flat.{HasLayers}
use Rattle.cell_builder.specs.Writable.{IsWritableDrawn}
use Rattle.cell_builder.proofs.WritableLaws.{finished_is_writable}
use Rattle.sram_netlist.specs.Organization.{Organization, bank_rows}
use Rattle.sram_netlist.specs.InstanceList.{numbers_from, tabulate}
use Rattle.sram_netlist.specs.BitCells.{row_kinds, row_name}
use Rattle.macro_layout.specs.LayoutKit.{LayoutKit}
use Rattle.macro_layout.specs.Cells.{row_cell}
use Rattle.macro_layout.specs.Layout.{Drawing, HasCells}
use Rattle.macro_bounds.specs.Differ.{other_names, macro_names}
use Rattle.macro_bounds.specs.Writable.{other_cells, macro_cells}
use Rattle.macro_bounds.specs.Library.{MacroCellsHaveLayers, MacroLibrariesAreWritable, MacroLibrariesAreMacros}
use Rattle.macro_bounds.proofs.TextLaws.{all_joined}
use Rattle.macro_bounds.proofs.CellLaws.{all_tabulated, macro_cells_are_writable}
use Rattle.macro_bounds.proofs.DifferLaws.{made_names_differ}

pub macro_cells_have_layers : MacroCellsHaveLayers
macro_cells_have_layers layers plan kit n d on =
    all_joined (HasLayers layers) (tabulate (row_kinds d.bits (bank_rows plan)) (row_cell plan kit d.bits n)) (other_cells plan kit n d)
    (all_tabulated (HasLayers layers) (row_kinds d.bits (bank_rows plan)) (row_cell plan kit d.bits n) (λ r lt. record { wires = tt; labels = tt })) (
      record { wires = tt; labels = tt },
      (
        record { wires = tt; labels = tt },
        (record { wires = tt; labels = tt }, (record { wires = on.bank_wires; labels = tt }, (record { wires = tt; labels = tt }, (record { wires = on.wires; labels = on.labels }, tt)))),
      ),
    )

abbrev cell_names : List DrawnCell → List (List ℕ)
cell_names = map (λ (c : DrawnCell). c.name)

names_behind : (plan : Organization) (kit : LayoutKit) (n : List ℕ) (d : Drawing) (rows : List ℕ) → cell_names (map (row_cell plan kit d.bits n) rows ++ other_cells plan kit n d) ≡ map (row_name d.bits n) rows ++ other_names n
names_behind plan kit n d [] = refl
names_behind plan kit n d (r ∷ rows) = ap (λ (names : List (List ℕ)). row_name d.bits n r ∷ names) (names_behind plan kit n d rows)

names_are : (plan : Organization) (kit : LayoutKit) (n : List ℕ) (d : Drawing) (cells : List DrawnCell) → cells ≡ macro_cells plan kit n d → cell_names cells ≡ macro_names plan d.bits n
names_are plan kit n d cells e = ap cell_names e ∙ names_behind plan kit n d (numbers_from 0 (row_kinds d.bits (bank_rows plan)))

pub macro_libraries_are_writable : MacroLibrariesAreWritable
macro_libraries_are_writable layers list lib plan kit n d is cells free p small name w =
    finished_is_writable layers list n lib is name.text free.writable (subst (AllByRecursion IsWritableDrawn) (sym cells) (macro_cells_are_writable plan kit n d p small name w))
    (made_names_differ layers list.adopted list.cells lib.structs plan d.bits n p is.structs (names_are plan kit n d list.cells cells) free.differ free.free)

-- each of the cells is among them
row_there : {X : Type 0} (f : ℕ → X) (m r k : ℕ) → r < m → Contains (map f (numbers_from k m)) (f (k + r))
row_there f zero r k lt = absurd (omega (arith, lt))
row_there f (suc m) zero k lt = contains_here (f k) (map f (numbers_from (suc k) m)) (f (k + 0)) (ap f (omega arith))
row_there f (suc m) (suc r) k lt = contains_later (f k) (map f (numbers_from (suc k) m)) (f (k + suc r)) (subst (λ (j : ℕ). Contains (map f (numbers_from (suc k) m)) (f j)) (omega arith) (row_there f m r (suc k) (omega (arith, lt))))

other_there : (plan : Organization) (kit : LayoutKit) (n : List ℕ) (d : Drawing) (cell : DrawnCell) → Contains (other_cells plan kit n d) cell → Contains (macro_cells plan kit n d) cell
other_there plan kit n d cell = Contains-append_right (tabulate (row_kinds d.bits (bank_rows plan)) (row_cell plan kit d.bits n)) (other_cells plan kit n d) cell

pub has_cells : (plan : Organization) (kit : LayoutKit) (n : List ℕ) (d : Drawing) → HasCells (macro_cells plan kit n d) plan kit n d
has_cells plan kit n d = record {
  row = λ r lt. Contains-append_left (tabulate (row_kinds d.bits (bank_rows plan)) (row_cell plan kit d.bits n)) (other_cells plan kit n d) (row_cell plan kit d.bits n r)
      (subst (λ (j : ℕ). Contains (tabulate (row_kinds d.bits (bank_rows plan)) (row_cell plan kit d.bits n)) (row_cell plan kit d.bits n j)) (omega arith) (row_there (row_cell plan kit d.bits n) (row_kinds d.bits (bank_rows plan)) r 0 lt));
  array = other_there plan kit n d _ (0, omega arith, refl);
  pre = other_there plan kit n d _ (1, omega arith, refl);
  data_ = other_there plan kit n d _ (2, omega arith, refl);
  bank = other_there plan kit n d _ (3, omega arith, refl);
  logic = other_there plan kit n d _ (4, omega arith, refl);
  macro = other_there plan kit n d _ (5, omega arith, refl);
}

pub macro_libraries_are_macros : MacroLibrariesAreMacros
macro_libraries_are_macros layers list lib plan kit n d is cells free p on complete = record {
  buildable = p;
  made = is.structs;
  differ = made_names_differ layers list.adopted list.cells lib.structs plan d.bits n p is.structs (names_are plan kit n d list.cells cells) free.differ free.free;
  has = subst (λ (l : List DrawnCell). HasCells l plan kit n d) (sym cells) (has_cells plan kit n d);
  bank_on = record { wires = on.bank_wires; labels = tt };
  macro_on = record { wires = on.wires; labels = on.labels };
  complete = complete;
}
