use Rattle.std.proofs.Common.{refl}
use Rattle.tile_checker.proofs.clear.filled_around.Goals as goal

pub returns-then-holds : goal.returns-then-holds
returns-then-holds c = record { around = record { holds = c.if-holds.ensures.0 refl; covered = c.in_ok-filled.ensures.found.covered }; clear = c.in_ok-filled.ensures.clear }
