use Rattle.std.proofs.Common.{◌≡◌}
use Rattle.or_geom.proofs.GatheringLaws.{IsAmongLeft}
use Rattle.cell_roles.specs.LeafRoles.{leaf_role_name}
use Rattle.tech_rules.specs.declared.tech.RoleName.{RoleName}
use Rattle.role_tables.proofs.read.names_cell.Given as goal

abbrev pub invariant-loop-entry : goal.invariant-loop-entry
invariant-loop-entry l = IsAmongLeft (λ (entry : RoleName). entry.role ≡ leaf_role_name l.role) l.entries l.entry-index
