-- How many leaf instances a memory has, by its numbers.
use Rattle.std.specs.Prelude.{ℕ, zero, suc, ◌+◌, ◌*◌, List, [], ◌∷◌}
use Rattle.sram_netlist.specs.Organization.{power_of_two}

-- two gates for each line that so many bits choose, and none where there is nothing to choose
abbrev pub line_gate_count : ℕ → ℕ
line_gate_count zero = 0
line_gate_count (suc bits) = 2 * power_of_two (suc bits)

-- those of the lines of all groups; a group that isn't used has none
abbrev pub groups_count : List ℕ → ℕ
groups_count [] = 0
groups_count (bits ∷ groups) = line_gate_count bits + groups_count groups

-- two gates for each write enable of each bank, where there are banks or masks
abbrev pub enable_cell_count : ℕ → ℕ → ℕ → ℕ
enable_cell_count zero zero enables = 0
enable_cell_count zero (suc masks) enables = 2 * enables
enable_cell_count (suc bits) masks enables = power_of_two (suc bits) * (2 * enables)
