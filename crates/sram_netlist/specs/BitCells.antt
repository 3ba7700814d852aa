-- Which cell holds each bit, and the bits of a read-only memory.
use Rattle.std.specs.Prelude.{ℕ, ◌+◌, ◌*◌, ◌/◌, ◌%◌, List, ◌++◌, Bool, slice_index, codes}
use Rattle.sram_netlist.specs.Organization.{Organization, words_per_row}
use Rattle.sram_netlist.specs.Netlist.{lowest_bit, high_bits}
use Rattle.sram_netlist.specs.Names.{with_number}

-- By their names: one cell holds all bits, so that all rows are alike, or a cell is chosen for each row and column.
pub data BitCells : Type 0 where
  Alike : List ℕ → BitCells
  Apart : (ℕ → ℕ → List ℕ) → BitCells

-- the cell in row r and column c
abbrev pub bit_cell : BitCells → ℕ → ℕ → List ℕ
bit_cell (Alike name) r c = name
bit_cell (Apart names) r c = names r c

-- how many of so many rows are told apart: the first stands for all that are alike
abbrev pub row_kinds : BitCells → ℕ → ℕ
row_kinds (Alike name) rows = 1
row_kinds (Apart names) rows = rows

-- the name of row r's subcircuit, for the output name n
abbrev pub row_name : BitCells → List ℕ → ℕ → List ℕ
row_name (Alike name) n r = n ++ codes "_row"
row_name (Apart names) n r = with_number (n ++ codes "_row") r

-- The bit in row r and column c, where the words stand in order of their addresses: the address chooses a row and one of its words,
-- and the columns of a bit of the word stand side by side.
abbrev pub fixed_bit : Organization → List ℕ → ℕ → ℕ → Bool
fixed_bit plan words r c = lowest_bit (high_bits (c / words_per_row plan) (slice_index words (r * words_per_row plan + c % words_per_row plan)))

-- the memory of the same numbers in which nothing is written
abbrev pub read_only : Organization → Organization
read_only plan = record { word_size = plan.word_size; write_size = 0; masks = plan.masks; bank_bits = plan.bank_bits; col_bits = plan.col_bits; groups = plan.groups }
