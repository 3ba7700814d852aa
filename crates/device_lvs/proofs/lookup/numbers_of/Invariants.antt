use Rattle.std.proofs.Common.{◌≡◌, map, take}
use Rattle.device_lvs.proofs.lookup.numbers_of.Given as goal

abbrev pub invariant-loop-place : goal.invariant-loop-place
invariant-loop-place l = l.nets.items ≡ map (λ p. p.0) (take l.place l.named)
