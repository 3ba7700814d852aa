use Rattle.spice_netlist.proofs.OneFaultLaws.{no_flat_rows}
use Rattle.spice_netlist.proofs.laws.flat_faults_exclude_rows.Goals as goal

pub returns : goal.returns
returns c = no_flat_rows
