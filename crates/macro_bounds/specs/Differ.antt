-- The names of a macro's structures differ.
use Rattle.std.specs.Prelude.{◌≡◌, ◌≢◌, ℕ, List, [], ◌∷◌, ◌++◌, map, Contains}
use Rattle.std.specs.List.{AllPairs}
use Rattle.std.specs.Char.{to_ascii_lowercase}
use Rattle.gds_library.specs.declared.library.Structure.{Structure}
use Rattle.tech_rules.specs.declared.tech.Layer.{Layer}
use Rattle.cell_builder.specs.declared.cell.DrawnCell.{DrawnCell}
use Rattle.cell_builder.specs.Finish.{IsMade}
use Rattle.sram_netlist.specs.Organization.{Organization, IsBuildable, bank_rows}
use Rattle.sram_netlist.specs.InstanceList.{tabulate}
use Rattle.sram_netlist.specs.BitCells.{BitCells, row_kinds, row_name}
use Rattle.macro_layout.specs.Cells.{array_cell_name, pre_cell_name, data_cell_name, bank_cell_name, logic_cell_name}

-- the names of a macro's cells, for the output name n: those behind its rows
abbrev pub other_names : List ℕ → List (List ℕ)
other_names n = array_cell_name n ∷ pre_cell_name n ∷ data_cell_name n ∷ bank_cell_name n ∷ logic_cell_name n ∷ n ∷ []

-- and all of them, the rows first
abbrev pub macro_names : Organization → BitCells → List ℕ → List (List ℕ)
macro_names plan bits n = tabulate (row_kinds bits (bank_rows plan)) (row_name bits n) ++ other_names n

-- none of the names is that of a structure, without regard to case
abbrev pub AreFree : List Structure → List (List ℕ) → Type 0
AreFree structs names = (s : Structure) (name : List ℕ) → Contains structs s → Contains names name → map to_ascii_lowercase s.name ≢ map to_ascii_lowercase name

-- The names of a macro's cells differ.
abbrev pub MacroNamesDiffer : Type 0
MacroNamesDiffer = (plan : Organization) (bits : BitCells) (n : List ℕ) → IsBuildable plan → AllPairs (λ (a b : List ℕ). a ≢ b) (macro_names plan bits n)

-- The names of a macro's structures differ where those of the adopted ones do and the cells' names are free among them.
abbrev pub MadeNamesDiffer : Type 0
MadeNamesDiffer = (layers : List Layer) (adopted : List Structure) (cells : List DrawnCell) (structs : List Structure) (plan : Organization) (bits : BitCells) (n : List ℕ) → IsBuildable plan → IsMade layers adopted cells structs
    → map (λ (c : DrawnCell). c.name) cells ≡ macro_names plan bits n → AllPairs (λ (a b : Structure). a.name ≢ b.name) adopted → AreFree adopted (macro_names plan bits n) → AllPairs (λ (a b : Structure). a.name ≢ b.name) structs
