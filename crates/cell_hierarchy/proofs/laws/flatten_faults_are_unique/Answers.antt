use Rattle.cell_hierarchy.proofs.OneFaultLaws.{one_fault}
use Rattle.cell_hierarchy.proofs.TotalLaws.{one_total}
use Rattle.cell_hierarchy.proofs.laws.flatten_faults_are_unique.Goals as goal

pub returns : goal.returns
returns c = one_fault one_total
