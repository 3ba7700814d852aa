use Rattle.kit_laws.proofs.OneCellLaws.{one_list_of_pins}
use Rattle.kit_laws.proofs.leaf_pins_are_unique.Goals as goal

pub returns : goal.returns
returns c = one_list_of_pins
