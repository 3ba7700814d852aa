use Rattle.std.proofs.Common.{All, take}
use Rattle.cell_roles.specs.declared.role.Role.{Role}
use Rattle.cell_roles.specs.declared.leaf_role.LeafRole.TheVariants.{Common}
use Rattle.role_tables.specs.Table.{HasTable}
use Rattle.role_tables.proofs.read.read_tables.Given as goal

abbrev pub invariant-loop-role : goal.invariant-loop-role
invariant-loop-role l = All (λ (role : Role). HasTable l.tech (Common role)) (take l.role-index l.role-items)
