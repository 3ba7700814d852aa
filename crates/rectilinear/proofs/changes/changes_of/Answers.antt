use Rattle.rectilinear.proofs.ChangeLaws.{climb_of}
use Rattle.rectilinear.proofs.changes.changes_of.Goals as goal

pub returns-clause-climb : goal.returns-clause-climb
returns-clause-climb c = climb_of _ c.sort_unstable.ensures.sorted
