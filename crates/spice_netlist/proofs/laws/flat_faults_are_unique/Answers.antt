use Rattle.spice_netlist.proofs.OneFaultLaws.{one_flat_fault}
use Rattle.spice_netlist.proofs.laws.flat_faults_are_unique.Goals as goal

pub returns : goal.returns
returns c = one_flat_fault
