use Rattle.std.proofs.Common.{◌≡◌, ◌-◌, map}
use Rattle.std.specs.List.{range_with_len}
use Rattle.shape_bins.specs.Order.{place_of_key}
use Rattle.shape_bins.proofs.order.keys_of.Given as goal

abbrev pub invariant-loop-place : goal.invariant-loop-place
invariant-loop-place g l = map place_of_key l.keys.items ≡ range_with_len l.begin (l.place - l.begin)
