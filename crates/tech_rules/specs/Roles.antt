-- The cells that play the roles of a technology, and their tables.
use Rattle.std.specs.Prelude.{ℕ, ◌&&◌, nat_le, Bool, List, [], ◌∷◌, length, filter, Result, Ok, Err, if◌then◌else◌, codes}
use Rattle.std.specs.List.{list_all}
use Rattle.tech_rules.specs.declared.fault.TechFault.{TechFault}
use Rattle.toml_keys.specs.Fault.{◌>>=◌, in_turn}
use Rattle.toml_keys.specs.Keys.{Section, has_key, out_of_range, section_under, text_under, texts_under}
use Rattle.tech_rules.specs.declared.tech.RoleName.{RoleName}
use Rattle.tech_rules.specs.declared.tech.RoleRows.{RoleRows}

-- the roles, in their order: those of a read-write memory, and the two cells of a read-only one
abbrev pub role_names : List (List ℕ)
role_names =
    codes "bitcell" ∷ codes "precharge" ∷ codes "mux" ∷ codes "tie" ∷ codes "sense" ∷ codes "write" ∷ codes "rownand2" ∷ codes "rownand3"
    ∷ codes "driver" ∷ codes "nand2" ∷ codes "nand3" ∷ codes "inv" ∷ codes "dff" ∷ codes "delay"
    ∷ codes "rom0" ∷ codes "rom1" ∷ []

-- those that are keys of a table
abbrev pub roles_in : Section TechFault → List (List ℕ) → List (List ℕ)
roles_in s roles = filter (λ role. has_key s role) roles

-- a printable ASCII character other than a space
abbrev pub is_cell_byte : ℕ → Bool
is_cell_byte b = nat_le 33 b && nat_le b 126

-- 1 to 32 of them
abbrev pub is_cell_name : List ℕ → Bool
is_cell_name text = (nat_le 1 (length text) && nat_le (length text) 32) && list_all is_cell_byte text

abbrev pub role_cell : Section TechFault → List ℕ → Result RoleName TechFault
role_cell s role =
    text_under s role >>= λ cell.
    if is_cell_name cell then Ok (record { role = role; cell = cell }) else Err (out_of_range s role)

abbrev pub role_rows : Section TechFault → List ℕ → Result RoleRows TechFault
role_rows s role = texts_under s role >>= λ rows. Ok (record { role = role; rows = rows })

-- what a table says of these roles, one by one
abbrev pub of_roles : {A : Type 0} → (Section TechFault → List ℕ → Result A TechFault) → Section TechFault → List (List ℕ) → Result (List A) TechFault
of_roles of_role s roles = in_turn (λ _ role. of_role s role) [] (roles_in s roles)

-- what the table under a key says of all roles, if there is one
abbrev pub of_roles_under : {A : Type 0} → (Section TechFault → List ℕ → Result A TechFault) → Section TechFault → List ℕ → Result (List A) TechFault
of_roles_under of_role s key =
    if has_key s key
    then (section_under s key >>= λ r. of_roles of_role r role_names)
    else Ok []

abbrev pub roles_under : Section TechFault → Result (List RoleName) TechFault
roles_under s = of_roles_under role_cell s (codes "role")

abbrev pub rows_under : Section TechFault → Result (List RoleRows) TechFault
rows_under s = of_roles_under role_rows s (codes "table")
