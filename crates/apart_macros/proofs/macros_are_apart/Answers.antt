use Rattle.apart_macros.proofs.ApartLaws.{macros_are_apart}
use Rattle.apart_macros.proofs.macros_are_apart.Goals as goal

pub returns : goal.returns
returns c = macros_are_apart
