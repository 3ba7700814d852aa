use Rattle.rectilinear.proofs.FillLaws.{slabs_fill}
use Rattle.rectilinear.proofs.laws.slabs_fill.Goals as goal

pub returns : goal.returns
returns c = slabs_fill
