use Rattle.std.proofs.Common.{take}
use Rattle.spice_netlist.specs.Descent.{AreTablesBy}
use Rattle.spice_netlist.proofs.walk.port_tables.Given as goal

abbrev pub invariant-loop-index : goal.invariant-loop-index
invariant-loop-index l = AreTablesBy (take l.index l.subckts) l.sizes l.tables.items
