use Rattle.std.proofs.Common.{◌≡◌, ◌++◌, map, take}
use Rattle.shape_bins.specs.Order.{place_of_key}
use Rattle.shape_bins.proofs.order.add_places.Given as goal

abbrev pub invariant-loop-key : goal.invariant-loop-key
invariant-loop-key g l = l.places.items ≡ l.fn.places.items ++ map place_of_key (take l.key-index l.keys)
