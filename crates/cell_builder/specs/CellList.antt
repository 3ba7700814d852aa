-- What is being built: cells, beside the structures that they may refer to; and what each call makes of it.
use Rattle.std.specs.Prelude.{ℕ, zero, suc, List, [], ◌∷◌, ◌++◌}
use Rattle.gds_library.specs.declared.library.Structure.{Structure}
use Rattle.cell_builder.specs.declared.cell.DrawnCell.{DrawnCell}

-- structures of libraries, in the order in which they were adopted, and the cells in the order in which they were begun
pub record CellList : Type 0 where
  pub adopted : List Structure
  pub cells : List DrawnCell

abbrev pub no_cells : CellList
no_cells = record { adopted = []; cells = [] }

abbrev pub with_structures : List Structure → CellList → CellList
with_structures structs list = record { adopted = list.adopted ++ structs; cells = list.cells }

abbrev pub with_drawn : DrawnCell → CellList → CellList
with_drawn cell list = record { adopted = list.adopted; cells = list.cells ++ cell ∷ [] }

abbrev pub empty_cell : List ℕ → DrawnCell
empty_cell name = record { name = name; instances = []; wires = []; labels = [] }

abbrev pub with_cell : List ℕ → CellList → CellList
with_cell name list = with_drawn (empty_cell name) list

-- the list with f of its item at index k
abbrev pub changed_at : {X : Type 0} → ℕ → (X → X) → List X → List X
changed_at k f [] = []
changed_at zero f (x ∷ xs) = f x ∷ xs
changed_at (suc k) f (x ∷ xs) = x ∷ changed_at k f xs

-- one cell is changed by f, and nothing else
abbrev pub with_change : ℕ → (DrawnCell → DrawnCell) → CellList → CellList
with_change cell f list = record { adopted = list.adopted; cells = changed_at cell f list.cells }
