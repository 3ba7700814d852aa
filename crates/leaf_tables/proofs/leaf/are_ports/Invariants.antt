use Rattle.std.proofs.Common.{◌≡◌, ℕ, ◌<◌, map}
use Rattle.std.specs.Prelude.{slice_get}
use Rattle.leaf_tables.proofs.leaf.are_ports.Given as goal

abbrev pub invariant-loop-place : goal.invariant-loop-place
invariant-loop-place l = (k : ℕ) → k < l.place → slice_get l.ports k ≡ slice_get (map (λ t. t.now) l.wanted) k
