-- The tables are by the sizes.
use Rattle.std.proofs.Common.{sym, subst}
use Rattle.spice_netlist.specs.Descent.{ArePortTables}
use Rattle.spice_netlist.proofs.PortTableLaws.{tables_sized}
use Rattle.spice_netlist.proofs.walk.add_rows_below.Goals as goal

pub walk-requires-clause-tables : goal.walk-requires-clause-tables
walk-requires-clause-tables c =
    subst (ArePortTables c.args.subckts.now c.args.top) (sym c.deref.ensures.value)
    (tables_sized c.args.subckts.now c.args.top c.args.sizes.now c.in_ok-tables.tables.items c.requires.walkable.within c.requires.sizes c.in_ok-tables.ensures)
