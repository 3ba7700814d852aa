use Rattle.macro_bounds.proofs.SupplyLaws.{supply_wires_are_near, joiners_are_near}
use Rattle.macro_bounds.proofs.laws.supply_wires_are_near.Goals as goal

pub returns-clause-supplies : goal.returns-clause-supplies
returns-clause-supplies c = supply_wires_are_near

pub returns-clause-joiners : goal.returns-clause-joiners
returns-clause-joiners c = joiners_are_near
