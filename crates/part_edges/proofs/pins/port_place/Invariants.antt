use Rattle.std.proofs.Common.{◌<◌, map, ℕ, Some}
use Rattle.std.specs.Prelude.{◌≢◌, slice_get}
use Rattle.part_edges.proofs.pins.port_place.Given as goal

abbrev pub invariant-loop-place : goal.invariant-loop-place
invariant-loop-place l = (k : ℕ) → k < l.place → slice_get (map (λ port. port.now) l.ports) k ≢ Some l.pin
