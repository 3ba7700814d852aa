use Rattle.std.proofs.Common.{◌≡◌, ℕ, ◌+◌, ◌-◌, length, get_or}
use Rattle.shape_bins.specs.Forest.{no_range}
use Rattle.shape_bins.proofs.layers.add_range.Given as goal

abbrev pub invariant-loop-ranges : goal.invariant-loop-ranges
invariant-loop-ranges l = (k : ℕ) → get_or l.ranges.items k no_range ≡ get_or l.fn.ranges.items k no_range

abbrev pub decreases-loop-ranges : goal.decreases-loop-ranges
decreases-loop-ranges l = l.at + 1 - length l.ranges.items
