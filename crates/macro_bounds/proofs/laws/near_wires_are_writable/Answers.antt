use Rattle.macro_bounds.proofs.NearLaws.{near_wires_are_writable}
use Rattle.macro_bounds.proofs.laws.near_wires_are_writable.Goals as goal

pub returns : goal.returns
returns c = near_wires_are_writable
