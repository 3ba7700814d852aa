use Rattle.std.proofs.Common.{◌≡◌, drop}
use Rattle.role_tables.specs.Table.{texts_of}
use Rattle.role_tables.proofs.read.texts_of.Given as goal

abbrev pub invariant-loop-table : goal.invariant-loop-table
invariant-loop-table l = texts_of l.tables l.role ≡ texts_of (drop l.table-index l.tables) l.role
