-- The cells that a technology names.
use Rattle.std.specs.Prelude.{ℕ, List, [], ◌∷◌, Bool, if◌then◌else◌}
use Rattle.std.specs.Str.{bytes_eq}
use Rattle.cell_roles.specs.declared.role.Role.{Role}
use Rattle.cell_roles.specs.declared.leaf_role.LeafRole.TheVariants.{Fixed}
use Rattle.cell_roles.specs.Roles.{role_name}
use Rattle.cell_roles.specs.LeafRoles.{leaf_role_name}
use Rattle.tech_rules.specs.declared.tech.RoleName.{RoleName}

-- that of the first entry for the name of a role
abbrev pub named_cell : List RoleName → List ℕ → List ℕ
named_cell [] role = []
named_cell (r ∷ rs) role = if bytes_eq r.role role then r.cell else named_cell rs role

-- that of a role of a read-write memory
abbrev pub cell_in : List RoleName → Role → List ℕ
cell_in roles role = named_cell roles (role_name role)

-- that which holds a fixed bit
abbrev pub fixed_cell_in : List RoleName → Bool → List ℕ
fixed_cell_in roles bit = named_cell roles (leaf_role_name (Fixed bit))
