-- The roles of leaf cells of both kinds of memory: those of a read-write memory, and a cell that holds a fixed bit.
use Rattle.std.specs.Prelude.{◌≡◌, ℕ, List, [], ◌∷◌, map, length, codes, Bool, true, false, ◌&&◌, not}
use Rattle.std.specs.List.{flat_map}
use Rattle.cell_roles.specs.declared.role.Role.{Role}
use Rattle.cell_roles.specs.declared.role.Role.TheVariants.{Bitcell}
use Rattle.cell_roles.specs.declared.leaf_role.LeafRole.{LeafRole}
use Rattle.cell_roles.specs.declared.leaf_role.LeafRole.TheVariants.{Common, Fixed}
use Rattle.cell_roles.specs.Roles.{role_name, role_ports, input_pins, stored_bits, driven_pins, joined_pins, number_in}
use Rattle.cell_roles.specs.Acts.{Off, Weak, Act, act, low_if}
use Rattle.cell_roles.specs.Tables.{Only, TableRow, TablePoint, by_rows, table_of, all_values}
use Rattle.cell_roles.specs.RowTexts.{row_text}

-- the role whose ports and shapes of pins a cell has to have
abbrev pub pin_role : LeafRole → Role
pin_role (Common role) = role
pin_role (Fixed bit) = Bitcell

abbrev pub leaf_role_name : LeafRole → List ℕ
leaf_role_name (Common role) = role_name role
leaf_role_name (Fixed false) = codes "rom0"
leaf_role_name (Fixed true) = codes "rom1"

-- the ports in order
abbrev pub leaf_role_ports : LeafRole → List (List ℕ)
leaf_role_ports role = role_ports (pin_role role)

-- the pins that the act looks at
abbrev pub leaf_inputs : LeafRole → List (List ℕ)
leaf_inputs (Common role) = input_pins role
leaf_inputs (Fixed bit) = codes "wl" ∷ []

-- the bits that it stores
abbrev pub leaf_stored : LeafRole → List (List ℕ)
leaf_stored (Common role) = stored_bits role
leaf_stored (Fixed bit) = []

-- the pins that it may drive
abbrev pub leaf_driven : LeafRole → List (List ℕ)
leaf_driven (Common role) = driven_pins role
leaf_driven (Fixed bit) = codes "bl" ∷ codes "br" ∷ []

-- the pairs of pins that it may join
abbrev pub leaf_joined : LeafRole → List (List ℕ × List ℕ)
leaf_joined (Common role) = joined_pins role
leaf_joined (Fixed bit) = []

-- the same pins by the numbers of their ports
abbrev pub leaf_input_ports : LeafRole → List ℕ
leaf_input_ports role = map (number_in (leaf_role_ports role)) (leaf_inputs role)

abbrev pub leaf_driven_ports : LeafRole → List ℕ
leaf_driven_ports role = map (number_in (leaf_role_ports role)) (leaf_driven role)

abbrev pub leaf_joined_ports : LeafRole → List (ℕ × ℕ)
leaf_joined_ports role = map (λ pair. (number_in (leaf_role_ports role) pair.0, number_in (leaf_role_ports role) pair.1)) (leaf_joined role)

-- What a cell does: one with a fixed bit pulls a bit line low while its word line is on, as a bitcell with that bit does.
abbrev pub leaf_act : LeafRole → List Bool → List Bool → Act
leaf_act (Common role) values st = act role values st
leaf_act (Fixed bit) (wl ∷ []) st = record { drives = low_if (wl && not bit) ∷ low_if (wl && bit) ∷ []; joins = []; next = [] }
leaf_act (Fixed bit) values st = record { drives = []; joins = []; next = [] }

-- 0/ = zz//, 1/ = lz//
abbrev pub rom0_rows : List TableRow
rom0_rows =
    record { looks = Only false ∷ []; stored = []; drives = Off ∷ Off ∷ []; joins = []; next = [] } ∷
    record { looks = Only true ∷ []; stored = []; drives = Weak false ∷ Off ∷ []; joins = []; next = [] } ∷
    []

-- 0/ = zz//, 1/ = zl//
abbrev pub rom1_rows : List TableRow
rom1_rows =
    record { looks = Only false ∷ []; stored = []; drives = Off ∷ Off ∷ []; joins = []; next = [] } ∷
    record { looks = Only true ∷ []; stored = []; drives = Off ∷ Weak false ∷ []; joins = []; next = [] } ∷
    []

-- a role's table
abbrev pub leaf_table : LeafRole → List TableRow
leaf_table (Common role) = table_of role
leaf_table (Fixed false) = rom0_rows
leaf_table (Fixed true) = rom1_rows

-- as it is written
abbrev pub leaf_table_texts : LeafRole → List (List ℕ)
leaf_table_texts role = map row_text (leaf_table role)

-- the points of a role's table, in counting order
abbrev pub leaf_points : LeafRole → List TablePoint
leaf_points role = flat_map (λ inputs. map (λ stored. record { inputs = inputs; stored = stored }) (all_values (length (leaf_stored role)))) (all_values (length (leaf_inputs role)))

-- at each point the first row of the table that fits says what the formula says
abbrev pub LeafTablesAgree : Type 0
LeafTablesAgree = (role : LeafRole) → map (λ point. by_rows (leaf_table role) point.inputs point.stored) (leaf_points role) ≡ map (λ point. leaf_act role point.inputs point.stored) (leaf_points role)
