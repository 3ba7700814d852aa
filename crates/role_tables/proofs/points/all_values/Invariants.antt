use Rattle.std.proofs.Common.{◌≡◌}
use Rattle.cell_roles.specs.Tables.{all_values}
use Rattle.role_tables.proofs.points.all_values.Given as goal

abbrev pub invariant-loop : goal.invariant-loop
invariant-loop l = l.values.items ≡ all_values l.counter
