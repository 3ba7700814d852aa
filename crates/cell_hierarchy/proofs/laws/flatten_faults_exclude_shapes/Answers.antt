use Rattle.cell_hierarchy.proofs.OneFaultLaws.{fault_or_shapes}
use Rattle.cell_hierarchy.proofs.TotalLaws.{one_total}
use Rattle.cell_hierarchy.proofs.laws.flatten_faults_exclude_shapes.Goals as goal

pub returns : goal.returns
returns c = fault_or_shapes one_total
