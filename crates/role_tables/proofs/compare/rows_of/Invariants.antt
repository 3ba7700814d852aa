use Rattle.std.proofs.Common.{◌≡◌, take}
use Rattle.cell_roles.specs.LeafRoles.{leaf_table}
use Rattle.role_tables.proofs.compare.rows_of.Given as goal

abbrev pub invariant-loop-text : goal.invariant-loop-text
invariant-loop-text l = l.rows.items ≡ take l.text-index (leaf_table l.role)
