use Rattle.sram_rows.proofs.Final.{rows_equal}
use Rattle.sram_rows.proofs.laws.rows_equal_netlist.Goals as goal

pub returns : goal.returns
returns c = rows_equal
