use Rattle.drawn_memories.proofs.DrawnLaws.{macros_are_drawn}
use Rattle.drawn_memories.proofs.macros_are_drawn.Goals as goal

pub returns : goal.returns
returns c = macros_are_drawn
