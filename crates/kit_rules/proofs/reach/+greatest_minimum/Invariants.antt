use Rattle.std.proofs.Common.{length}
use Rattle.kit_rules.proofs.reach.+greatest_minimum.Given as goal

abbrev pub decreases-greatest_minimum : goal.decreases-greatest_minimum
decreases-greatest_minimum l = length l.rules.now
