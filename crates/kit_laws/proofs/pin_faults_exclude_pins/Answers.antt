use Rattle.kit_laws.proofs.OneCellLaws.{no_pins_beside}
use Rattle.kit_laws.proofs.pin_faults_exclude_pins.Goals as goal

pub returns : goal.returns
returns c = no_pins_beside
