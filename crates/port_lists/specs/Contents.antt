-- The cells that the bits of a memory are of.
use Rattle.std.specs.Prelude.{◌≡◌, ◌*◌, List, length}
use Rattle.cell_roles.specs.declared.role.Role.TheVariants.{Bitcell}
use Rattle.sram_netlist.specs.Organization.{Organization, bank_rows, words_per_row}
use Rattle.sram_netlist.specs.BitCells.{BitCells, Alike, Apart, fixed_bit}
use Rattle.tech_rules.specs.declared.tech.RoleName.{RoleName}
use Rattle.port_lists.specs.declared.contents.Contents.{Contents}
use Rattle.port_lists.specs.Held.{Held, held_of}
use Rattle.port_lists.specs.Held.Held.{Stored, Fixed}
use Rattle.port_lists.specs.Cells.{cell_in, fixed_cell_in}

-- fixed words are as many as a bank has
abbrev pub AreHeldBy : Organization → Held → Type 0
AreHeldBy plan Stored = Unit {0}
AreHeldBy plan (Fixed words) = length words ≡ bank_rows plan * words_per_row plan

abbrev pub IsContents : Organization → Contents → Type 0
IsContents plan contents = AreHeldBy plan (held_of contents)

-- a bit that is stored is of the bitcell, a fixed one of the cell that holds it
abbrev pub held_cells : List RoleName → Organization → Held → BitCells
held_cells roles plan Stored = Alike (cell_in roles Bitcell)
held_cells roles plan (Fixed words) = Apart (λ r c. fixed_cell_in roles (fixed_bit plan words r c))

abbrev pub bit_cells : List RoleName → Organization → Contents → BitCells
bit_cells roles plan contents = held_cells roles plan (held_of contents)
