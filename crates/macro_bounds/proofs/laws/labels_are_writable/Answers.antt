use Rattle.macro_bounds.proofs.SupplyLaws.{labels_are_writable, labels_have_layers}
use Rattle.macro_bounds.proofs.laws.labels_are_writable.Goals as goal

pub returns-clause-writable : goal.returns-clause-writable
returns-clause-writable c = labels_are_writable

pub returns-clause-layers : goal.returns-clause-layers
returns-clause-layers c = labels_have_layers
