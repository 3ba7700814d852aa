-- The sides of a kit's leaf cells.
use Rattle.std.specs.Prelude.{ℕ, ℤ, pos, negsuc, Option, Some, None}
use Rattle.cell_roles.specs.declared.role.Role.{Role}
use Rattle.leaf_tables.specs.declared.kit.Kit.{Kit}
use Rattle.leaf_tables.specs.Alignment.{width_in, height_in}

-- a side, which is 0 where there is none
abbrev pub side_of : Option ℤ → ℕ
side_of None = 0
side_of (Some (pos n)) = n
side_of (Some (negsuc n)) = 0

abbrev pub leaf_width : Kit → Role → ℕ
leaf_width kit role = side_of (width_in kit.leaves role)

abbrev pub leaf_height : Kit → Role → ℕ
leaf_height kit role = side_of (height_in kit.leaves role)
