use Rattle.std.proofs.Common.{take}
use Rattle.role_tables.specs.Table.{AreRoleRows}
use Rattle.role_tables.proofs.rows.read_rows.Given as goal

abbrev pub invariant-loop-i : goal.invariant-loop-i
invariant-loop-i l = AreRoleRows l.role (take l.i l.texts) l.rows.items
