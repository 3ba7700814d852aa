use Rattle.macro_bounds.proofs.FloorplanLaws.{floorplans_are_near}
use Rattle.macro_bounds.proofs.laws.floorplans_are_near.Goals as goal

pub returns : goal.returns
returns c = floorplans_are_near
