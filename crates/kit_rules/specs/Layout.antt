-- The flat layout of a role's leaf cell.
use Rattle.std.specs.Prelude.{◌≡◌, ℕ, List, Some}
use Rattle.cell_roles.specs.declared.role.Role.{Role}
use Rattle.cell_roles.specs.declared.leaf_role.LeafRole.TheVariants.{Common}
use Rattle.cell_hierarchy.specs.FlatLists.{AreFlatLists}
use Rattle.cell_hierarchy.specs.Plain.{FlatLists}
use Rattle.leaf_tables.specs.declared.kit.Kit.{Kit}
use Rattle.leaf_tables.specs.Leaves.{cell_named_for}

-- the cell of the role, and its flat shapes and labels in the cell by itself
pub record IsFlatLeaf (kit : Kit) (role : Role) (cell : List ℕ) (lists : FlatLists) : Type 0 where
  pub plays : cell_named_for kit.tech.roles (Common role) ≡ Some cell
  pub flat : AreFlatLists kit.tech.layers kit.lib.structs cell lists
