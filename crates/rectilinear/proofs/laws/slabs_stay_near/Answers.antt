use Rattle.rectilinear.proofs.NearLaws.{slabs_stay_near}
use Rattle.rectilinear.proofs.laws.slabs_stay_near.Goals as goal

pub returns : goal.returns
returns c = slabs_stay_near
