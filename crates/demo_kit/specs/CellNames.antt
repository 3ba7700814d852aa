-- The names of the demonstration kit's cells.
use Rattle.std.specs.Prelude.{ℕ, List, ◌++◌, codes}
use Rattle.cell_roles.specs.declared.role.Role.{Role}
use Rattle.cell_roles.specs.Roles.{role_name}

abbrev pub demo_cell_name : Role → List ℕ
demo_cell_name role = codes "demo_" ++ role_name role
