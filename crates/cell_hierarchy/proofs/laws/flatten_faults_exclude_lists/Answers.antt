use Rattle.cell_hierarchy.proofs.OneFaultLaws.{fault_or_lists}
use Rattle.cell_hierarchy.proofs.TotalLaws.{one_total}
use Rattle.cell_hierarchy.proofs.laws.flatten_faults_exclude_lists.Goals as goal

pub returns : goal.returns
returns c = fault_or_lists one_total
