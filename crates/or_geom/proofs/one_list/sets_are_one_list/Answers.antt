use Rattle.or_geom.proofs.OneListLaws.{one_list}
use Rattle.or_geom.proofs.one_list.sets_are_one_list.Goals as goal

pub returns : goal.returns
returns c = one_list
