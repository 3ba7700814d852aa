-- An empty list has no rows.
use Rattle.spice_netlist.proofs.RowLaws.{rows_none}
use Rattle.spice_netlist.proofs.rows.RowList.new.Goals as goal

pub returns : goal.returns
returns c = rows_none (record { rows = c.new.result; nets = c.new-2.result }) c.new.ensures.items c.new-2.ensures
