use Rattle.rectilinear.proofs.RingLaws.{ring_is_closed}
use Rattle.rectilinear.proofs.laws.ring_is_closed.Goals as goal

pub returns : goal.returns
returns c = ring_is_closed
