-- That the written subcircuits can be written, and are read back behind those of a kit's leaf cells.
use Rattle.std.specs.Prelude.{◌≡◌, ◌≤◌, ◌<◌, ℕ, List, ◌++◌, length, map, Ok}
use Rattle.std.specs.List.{AllByRecursion}
use Rattle.netlist.specs.declared.deck.Deck.{Deck}
use Rattle.netlist.specs.declared.deck.Subckt.{Subckt}
use Rattle.spice_text.specs.Deck.{deck}
use Rattle.spice_text.specs.Writable.{AreWritable, IsName, lowered_subckt}
use Rattle.spice_text.specs.Appended.{AreNew, appended}
use Rattle.cell_roles.specs.declared.role.Role.{Role}
use Rattle.sram_netlist.specs.Organization.{Organization, IsBuildable, bank_rows, columns_of}
use Rattle.sram_netlist.specs.BitCells.{BitCells, bit_cell}
use Rattle.sram_deck.specs.Deck.{written_subckts}
use Rattle.sram_rows.specs.Rows.{HasCellOf, AreLeavesFor}

-- the names of the bits' cells can be written
abbrev pub AreBitNames : Organization → BitCells → Type 0
AreBitNames plan bits = (r c : ℕ) → r < bank_rows plan → c < columns_of plan → IsName (bit_cell bits r c)

-- where the names of the cells and the output name can be written
abbrev pub WrittenSubcktsAreWritable : Type 0
WrittenSubcktsAreWritable = (plan : Organization) (cell : Role → List ℕ) (bits : BitCells) (n : List ℕ) → IsBuildable plan
    → ((r : Role) → IsName (cell r)) → AreBitNames plan bits → IsName n → AreWritable (written_subckts plan cell bits n)

-- the bytes of the leaf cells with the written text behind them are read as these subcircuits
abbrev pub IsReadBehind : List ℕ → Deck → List Subckt → Type 0
IsReadBehind bytes d subckts =
    deck (appended d bytes subckts) ≡ Ok (record {
      subckts = d.subckts ++ map lowered_subckt subckts;
      used = length (appended d bytes subckts);
    })

-- behind the bytes of the leaf cells, whose names are others
abbrev pub WrittenSubcktsAreRead : Type 0
WrittenSubcktsAreRead = (bytes : List ℕ) (d : Deck) (plan : Organization) (cell : Role → List ℕ) (bits : BitCells) (ends : List (List ℕ)) (n : List ℕ)
    → deck bytes ≡ Ok d → IsBuildable plan → AreLeavesFor plan cell bits ends d.subckts n → ((r : Role) → IsName (cell r)) → AreBitNames plan bits → IsName n
    → AreNew d.subckts (written_subckts plan cell bits n) × IsReadBehind bytes d (written_subckts plan cell bits n)

-- a cell that is among subcircuits that were read has a name that can be written, if its bytes are 21 to 7E
abbrev pub CellsAreNames : Type 0
CellsAreNames = (bytes : List ℕ) (d : Deck) (name : List ℕ) (r : Role) → deck bytes ≡ Ok d → HasCellOf d.subckts name r
    → AllByRecursion (λ b. (33 ≤ b) × (b ≤ 126)) name → IsName name
