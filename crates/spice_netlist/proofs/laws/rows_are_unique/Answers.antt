use Rattle.spice_netlist.proofs.OneRowLaws.{one_flat_rows}
use Rattle.spice_netlist.proofs.laws.rows_are_unique.Goals as goal

pub returns : goal.returns
returns c = one_flat_rows
